-- `scales::layers::steps_reading` meets its contract: `layer_steps` is `stepped` by 30 m.
-- Assumes nothing.
use native.Mathlib.Omega.{arith}
use borrow.Author.Rules.{rules}
use Rattle.scales.specs.Layers.{layer_steps}
use Rattle.scales.proofs.Stepped.{stepped, by-one-reading, by-ten-reading, by-fifty-reading, over-reading, unused-reading}
use Rattle.scales.proofs.layers.steps_reading.Statement.{statement}
use Rattle.scales.proofs.layers.steps_reading.Tie as tie

pub steps_reading_spec : {M : Type 1} → statement M
unfolding layer_steps stepped
steps_reading_spec =
    tie.close
    (tie.spec
    (λ c. search rules) (λ c. search rules) (λ c. search rules) (λ c. search rules) (λ c. search rules)
    (λ c. by-one-reading _ 30 (omega arith))
    (λ c. unused-reading _ 30 (omega arith) (λ l m. omega arith))
    (λ c. by-ten-reading _ 30 (omega arith) (omega arith))
    (λ c. by-fifty-reading _ 30 (omega arith) (omega arith))
    (λ c. over-reading _ 30 c.if-figure-eq89.true)
    (λ c. unused-reading _ 30 (omega arith) (λ l m. omega arith)))
