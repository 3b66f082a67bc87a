-- `scales::direction::direction_reading` meets its contract: 01 to 36, or none.
-- Assumes nothing.
use mathlib.Core.Logic.{inl, inr}
use native.Mathlib.Omega.{arith}
use borrow.Author.Rules.{rules}
use Rattle.scales.proofs.DirectionLaws.{read, none_read}
use Rattle.scales.proofs.direction.direction_reading.Statement.{statement}
use Rattle.scales.proofs.direction.direction_reading.Tie as tie

pub direction_reading_spec : {M : Type 1} → statement M
direction_reading_spec =
    tie.close
    (tie.spec
    (λ c. search rules)
    (λ c. none_read _ (inl c.if-tens-eq0.true))
    (λ c. read _ (omega arith) (omega arith))
    (λ c. none_read _ (inr (omega arith))))
