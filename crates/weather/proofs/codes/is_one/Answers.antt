-- A test of some pair of letters.
use Rattle.std.proofs.Common.{◌&&◌, ◌∙◌, length, ◌/◌, eqb, refl, rules, tests}
use Rattle.std.specs.Simd.{first_chunks}
use Rattle.std.proofs.lemmas.Iterator.{YieldsList-from_slice}
use Rattle.std.proofs.lemmas.Iterator.Search.{any_from_yields_List}
use Rattle.weather.proofs.Letters.{by_letters, some-code}
use Rattle.weather.proofs.codes.is_one.Goals as goal

pub returns : goal.returns
returns c =
    let s = c.args.codes.now in
    let half = length s / 2 in
    any_from_yields_List (by_letters (λ x y. eqb c.args.a x && eqb c.args.b y)) _ _ c.any.result c.any.ensures.ran (YieldsList-from_slice (first_chunks 2 half s) (cc)) (λ x b q k. search (rules, tests))
    ∙ some-code c.args.a c.args.b s half refl
