-- A test of all pairs of letters.
use Rattle.std.proofs.Common.{◌∙◌, [], ◌∷◌, length, ◌/◌, refl, rules, tests}
use Rattle.std.specs.Simd.{first_chunks}
use Rattle.std.proofs.lemmas.Iterator.{YieldsList-from_slice}
use Rattle.std.proofs.lemmas.Iterator.Search.{all_from_yields_List}
use Rattle.elements.specs.Weather.{codes_of, among}
use Rattle.weather.proofs.Letters.{by_letters, each-code}
use Rattle.weather.proofs.codes.all_among.Goals as goal

pub returns : goal.returns
returns c =
    let s = c.args.s.now in
    let half = length s / 2 in
    let known = codes_of c.args.codes.now in
    all_from_yields_List (by_letters (λ x y. among (x ∷ y ∷ []) known)) _ _ c.all.result c.all.ensures.ran (YieldsList-from_slice (first_chunks 2 half s) (cc)) (λ x b q k. search (rules, tests))
    ∙ each-code (λ d. among d known) s half refl
