-- `scales::metres::sea_figure` meets its contract: the branches are the classes of the scale, by their index.
-- Assumes nothing.
use mathlib.Core.Path.{refl}
use native.Mathlib.Omega.{arith}
use Rattle.scales.specs.Scale.{rising}
use Rattle.scales.specs.Metres.{sea}
use Rattle.scales.proofs.Answers.{too_far}
use Rattle.scales.proofs.Listed.{listed}
use Rattle.scales.proofs.metres.sea_figure.Statement.{statement}
use Rattle.scales.proofs.metres.sea_figure.Tie as tie

pub sea_figure_spec : {M : Type 1} → statement M
unfolding sea rising
sea_figure_spec =
    tie.close
    (tie.spec
    (λ c. listed sea _ 0 refl (omega arith) (omega arith) (omega arith))
    (λ c. listed sea _ 1 refl (omega arith) (omega arith) (omega arith))
    (λ c. listed sea _ 2 refl (omega arith) (omega arith) (omega arith))
    (λ c. listed sea _ 3 refl (omega arith) (omega arith) (omega arith))
    (λ c. listed sea _ 4 refl (omega arith) (omega arith) (omega arith))
    (λ c. listed sea _ 5 refl (omega arith) (omega arith) (omega arith))
    (λ c. listed sea _ 6 refl (omega arith) (omega arith) (omega arith))
    (λ c. listed sea _ 7 refl (omega arith) (omega arith) (omega arith))
    (λ c. listed sea _ 8 refl (omega arith) (omega arith) (omega arith))
    (λ c. listed sea _ 9 refl (omega arith) (omega arith) tt)
    (λ c. too_far sea _ (omega arith)))
