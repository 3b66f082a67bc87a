-- `scales::degrees::signed_reading` meets its contract: each branch is a case of the sign.
-- Assumes nothing.
use mathlib.Core.Path.{◌∙◌}
use native.Mathlib.Omega.{arith}
use borrow.Author.Rules.{rules}
use Rattle.scales.proofs.DegreesLaws.{many-figures, plus-read, minus-none, minus-read, no_sign}
use Rattle.scales.proofs.degrees.signed_reading.Statement.{statement}
use Rattle.scales.proofs.degrees.signed_reading.Tie as tie

pub signed_reading_spec : {M : Type 1} → statement M
signed_reading_spec =
    tie.close
    (tie.spec
    (λ c κs. search rules) (λ c κs. search rules)
    (λ c. many-figures _ _ (omega arith))
    (λ c. c.tenths_of.ensures ∙ plus-read _ _ c.if-sign-eq0.true (omega arith))
    (λ c. minus-none _ _ c.if-sign-eq1.true c.if-figures-eq0.true)
    (λ c. c.tenths_of-else-figures-eq0.ensures ∙ minus-read _ _ c.if-sign-eq1.true c.if-figures-eq0.false (omega arith))
    (λ c. no_sign _ _ c.if-sign-eq0.false c.if-sign-eq1.false))
