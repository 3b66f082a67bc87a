-- `scales::layers::steps_figure` meets its contract: `layer_steps` is `stepped` by 30 m.
-- Assumes nothing.
use native.Mathlib.Omega.{arith}
use borrow.Author.Rules.{rules}
use Rattle.scales.specs.Layers.{layer_steps}
use Rattle.scales.proofs.Answers.{too_far}
use Rattle.scales.proofs.Stepped.{stepped, by-one-figure, fifty-figure, by-ten-figure, by-fifty-figure, over-figure}
use Rattle.scales.proofs.layers.steps_figure.Statement.{statement}
use Rattle.scales.proofs.layers.steps_figure.Tie as tie

pub steps_figure_spec : {M : Type 1} → statement M
unfolding layer_steps stepped
steps_figure_spec =
    tie.close
    (tie.spec
    (λ c. search rules) (λ c. search rules)
    (λ c. by-one-figure _ 30 (omega arith) (omega arith) (omega arith))
    (λ c. fifty-figure _ 30 (omega arith) (omega arith) (omega arith) (omega arith))
    (λ c. by-ten-figure _ 30 (omega arith) (omega arith) (omega arith) (omega arith))
    (λ c. by-fifty-figure _ 30 (omega arith) (omega arith) (omega arith) (omega arith))
    (λ c. over-figure _ 30 (omega arith) (omega arith) (omega arith) (omega arith))
    (λ c. too_far layer_steps _ (omega arith)))
