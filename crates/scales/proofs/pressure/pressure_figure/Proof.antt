-- `scales::pressure::pressure_figure` meets its contract: in range or out of it.
-- Assumes nothing.
use native.Mathlib.Omega.{arith}
use Rattle.scales.proofs.PressureLaws.{written, none_written}
use Rattle.scales.proofs.pressure.pressure_figure.Statement.{statement}
use Rattle.scales.proofs.pressure.pressure_figure.Tie as tie

pub pressure_figure_spec : {M : Type 1} → statement M
pressure_figure_spec =
    tie.close
    (tie.spec
    (λ c. written _ (omega arith))
    (λ c. none_written _ (omega arith)))
