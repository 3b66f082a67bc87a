-- std's `position` answers the first place that passes.
use Rattle.std.proofs.Common.{◌≡◌, ◌∙◌, eqb, rules, tests}
use Rattle.std.proofs.lemmas.Iterator.{YieldsList-from_slice}
use Rattle.std.proofs.lemmas.Iterator.Search.{position_from_yields_List}
use Rattle.shapes.specs.Shape.{up_to}
use Rattle.shapes.proofs.Splits.{up_to-position, lead-le}
use Rattle.shapes.proofs.print.up_to.Goals as goal

pub returns : goal.returns
returns c =
    let s = c.args.s.now in
    let first =
    position_from_yields_List (λ b. eqb b c.args.c) _ _ c.position.result c.position.ensures.ran (YieldsList-from_slice s (cc))
    (λ x b q k. search (rules, tests))
    in
    let e : c.unwrap_or.result ≡ up_to c.args.c s = c.unwrap_or.ensures ∙ up_to-position _ s c.position.result first in
    (e, rw e (lead-le _ s))
