-- `seen_values::metres::steps_seen` meets its contract: the limits and spans are those of its scale.
-- Assumes nothing.
use mathlib.Core.Path.{◌∙◌}
use borrow.Author.Rules.{rules}
use Rattle.scales.specs.Layers.{layer_steps}
use Rattle.scales.proofs.LayersLaws.{steps-laws, steps-rounds}
use Rattle.seen_values.proofs.Classes.{by-figure, by-none, steps-follows}
use Rattle.seen_values.proofs.metres.steps_seen.Statement.{statement}
use Rattle.seen_values.proofs.metres.steps_seen.Tie as tie

pub steps_seen_spec : {M : Type 1} → statement M
steps_seen_spec =
    tie.close
    (tie.spec
    (λ c κs. search rules) (λ c κs. search rules) (λ c. search rules) (λ c κs. search rules) (λ c κs. search rules) (λ c. search rules)
    (λ c. c.if_foot.ensures ∙ by-figure layer_steps steps-laws steps-rounds _ _ steps-follows _ c.steps_figure.ensures c.in-Some.is c.steps_reading.ensures c.class_by-class.ensures)
    (λ c. by-none layer_steps steps-laws steps-rounds _ _ steps-follows _ c.steps_figure.ensures c.in-None.is))
