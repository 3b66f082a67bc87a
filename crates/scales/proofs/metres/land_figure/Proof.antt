-- `scales::metres::land_figure` meets its contract: `land` is `stepped` by 100 m.
-- Assumes nothing.
use native.Mathlib.Omega.{arith}
use borrow.Author.Rules.{rules}
use Rattle.scales.specs.Metres.{land}
use Rattle.scales.proofs.Answers.{too_far}
use Rattle.scales.proofs.Stepped.{stepped, by-one-figure, fifty-figure, by-ten-figure, by-fifty-figure, over-figure}
use Rattle.scales.proofs.metres.land_figure.Statement.{statement}
use Rattle.scales.proofs.metres.land_figure.Tie as tie

pub land_figure_spec : {M : Type 1} → statement M
unfolding land stepped
land_figure_spec =
    tie.close
    (tie.spec
    (λ c. search rules) (λ c. search rules)
    (λ c. by-one-figure _ 100 (omega arith) (omega arith) (omega arith))
    (λ c. fifty-figure _ 100 (omega arith) (omega arith) (omega arith) (omega arith))
    (λ c. by-ten-figure _ 100 (omega arith) (omega arith) (omega arith) (omega arith))
    (λ c. by-fifty-figure _ 100 (omega arith) (omega arith) (omega arith) (omega arith))
    (λ c. over-figure _ 100 (omega arith) (omega arith) (omega arith) (omega arith))
    (λ c. too_far land _ (omega arith)))
