-- `scales::direction::direction_figure` meets its contract: each branch is a band of directions.
-- Assumes nothing.
use Rattle.std.specs.Prelude.{Some}
use mathlib.Core.Path.{ap, ◌∙◌}
use native.Mathlib.Omega.{arith}
use borrow.Author.Rules.{rules}
use Rattle.scales.proofs.DirectionLaws.{north-written, tens-written, none_written}
use Rattle.scales.proofs.direction.direction_figure.Statement.{statement}
use Rattle.scales.proofs.direction.direction_figure.Tie as tie

pub direction_figure_spec : {M : Type 1} → statement M
direction_figure_spec =
    tie.close
    (tie.spec
    (λ c. search rules)
    (λ c κs. search rules)
    (λ c. none_written _ (omega arith))
    (λ c. north-written _ (omega arith))
    (λ c. ap Some c.tens_of.ensures.0 ∙ tens-written _ (omega arith) (omega arith)))
