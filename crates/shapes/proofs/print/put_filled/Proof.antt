-- `shapes::print::put_filled` meets its contract: the fixed text before the field, the field, and the fixed text after it.
-- Assumes nothing.
use mathlib.Core.Path.{sym}
use lib.Seq.{length-take-le}
use borrow.Author.Rules.{rules}
use Rattle.figures.proofs.Puts.{then}
use Rattle.shapes.specs.Shape.{filled}
use Rattle.shapes.proofs.Splits.{all_from}
use Rattle.shapes.proofs.print.put_filled.Statement.{statement}
use Rattle.shapes.proofs.print.put_filled.Tie as tie

pub put_filled_spec : {M : Type 1} → statement M
put_filled_spec =
    tie.close
    (tie.spec
    (λ c κs. search rules) (λ c. search rules) (λ c. search rules) (λ c. search rules) (λ c κs. search rules) (λ c. search rules)
    (λ c. sym (length-take-le _ _ c.up_to-start.ensures.1))
    (λ c κs. search rules) (λ c κs. search rules) (λ c. search rules) (λ c. search rules) (λ c. search rules) (λ c κs. search rules)
    (λ c. search rules)
    (λ c.
    unfold filled in
    rw (← c.up_to-start.ensures.0, ← all_from, ← c.run_length-width.ensures.0)
    (then c.put_text-first.ensures (then c.put_field-second.ensures (rw all_from at c.put_text.ensures)))))
