-- std's `nth` of the pieces that its `split` gives.
use Rattle.std.proofs.Common.{eqb, refl, rules}
use Rattle.std.proofs.lemmas.Iterator.Consumers.{nth_from_yields_List}
use Rattle.std.proofs.lemmas.Iterator.Splits.{YieldsList-from_slice_split}
use Rattle.shapes.proofs.Splits.{piece-nth}
use Rattle.shapes.proofs.print.alternative.Goals as goal

pub returns : goal.returns
returns c =
    let s = c.args.part.now in
    let piece =
    nth_from_yields_List c.nth.result _ _ c.nth.ensures.ran
    (YieldsList-from_slice_split _ (λ b. eqb b 124) s c.split.ensures.rest c.split.ensures.done c.split.ensures.closure (λ x b q k. search rules))
    in
    rw c.unwrap_or.ensures (piece-nth 124 s _ c.nth.result _ piece refl)
