-- `scales::degrees::degrees_reading` meets its contract: what is over 99 has no reading, and M00 has its own.
-- Assumes nothing.
use mathlib.Core.Path.{◌∙◌}
use native.Mathlib.Omega.{arith}
use borrow.Author.Rules.{rules}
use Rattle.scales.proofs.DegreesLaws.{too-great, minus-zero, whole-read}
use Rattle.scales.proofs.degrees.degrees_reading.Statement.{statement}
use Rattle.scales.proofs.degrees.degrees_reading.Tie as tie

pub degrees_reading_spec : {M : Type 1} → statement M
degrees_reading_spec =
    tie.close
    (tie.spec
    (λ c κs. search rules) (λ c. search rules) (λ c κs. search rules)
    (λ c. too-great _ _ (omega arith))
    (λ c. c.tenths_of.ensures ∙ minus-zero _ _ (omega arith) c.if-minus-whole.true)
    (λ c. c.tenths_of-else-minus-whole.ensures ∙ whole-read _ _ (omega arith) c.if-minus-whole.false))
