-- `scales::pressure::pressure_reading` meets its contract: in range or out of it.
-- Assumes nothing.
use native.Mathlib.Omega.{arith}
use borrow.Author.Rules.{rules}
use Rattle.scales.proofs.PressureLaws.{read, none_read}
use Rattle.scales.proofs.pressure.pressure_reading.Statement.{statement}
use Rattle.scales.proofs.pressure.pressure_reading.Tie as tie

pub pressure_reading_spec : {M : Type 1} → statement M
pressure_reading_spec =
    tie.close
    (tie.spec
    (λ c. search rules)
    (λ c. read _ (omega arith))
    (λ c. none_read _ (omega arith)))
