-- `section3::heights::steps_foot` meets its contract: the figure of its class, and the reading of the figure.
-- Assumes nothing.
use mathlib.Core.Path.{sym, ◌∙◌}
use borrow.Author.Rules.{rules}
use Rattle.scales.proofs.LayersLaws.{steps-laws}
use Rattle.section3.proofs.Feet.{foot-told, always-told, open-steps}
use Rattle.section3.proofs.heights.steps_foot.Statement.{statement}
use Rattle.section3.proofs.heights.steps_foot.Tie as tie

pub steps_foot_spec : {M : Type 1} → statement M
steps_foot_spec =
    tie.close
    (tie.spec
    (λ c κs. search rules) (λ c. search rules) (λ c. search rules)
    (λ c. open-steps _ (sym c.steps_figure.ensures ∙ c.in_default.is))
    (λ c κs. search rules) (λ c. search rules) (λ c. search rules)
    (λ c. absurd (always-told steps-laws _ c.steps_figure.ensures c.in-Some.is c.steps_reading.ensures c.in_default-steps_reading.is))
    (λ c. foot-told steps-laws _ c.steps_figure.ensures c.in-Some.is c.steps_reading.ensures c.in-Some-steps_reading.is))
