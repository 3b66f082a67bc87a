-- `scales::metres::base_figure` meets its contract: the branches are the classes of the scale, by their index.
-- Assumes nothing.
use mathlib.Core.Path.{refl}
use native.Mathlib.Omega.{arith}
use Rattle.scales.specs.Scale.{rising}
use Rattle.scales.specs.Metres.{base}
use Rattle.scales.proofs.Answers.{too_far}
use Rattle.scales.proofs.Listed.{listed}
use Rattle.scales.proofs.metres.base_figure.Statement.{statement}
use Rattle.scales.proofs.metres.base_figure.Tie as tie

pub base_figure_spec : {M : Type 1} → statement M
unfolding base rising
base_figure_spec =
    tie.close
    (tie.spec
    (λ c. listed base _ 0 refl (omega arith) (omega arith) (omega arith))
    (λ c. listed base _ 1 refl (omega arith) (omega arith) (omega arith))
    (λ c. listed base _ 2 refl (omega arith) (omega arith) (omega arith))
    (λ c. listed base _ 3 refl (omega arith) (omega arith) (omega arith))
    (λ c. listed base _ 4 refl (omega arith) (omega arith) (omega arith))
    (λ c. listed base _ 5 refl (omega arith) (omega arith) (omega arith))
    (λ c. listed base _ 6 refl (omega arith) (omega arith) (omega arith))
    (λ c. listed base _ 7 refl (omega arith) (omega arith) (omega arith))
    (λ c. listed base _ 8 refl (omega arith) (omega arith) (omega arith))
    (λ c. listed base _ 9 refl (omega arith) (omega arith) tt)
    (λ c. too_far base _ (omega arith)))
