-- `seen_values::metres::cloud_seen` meets its contract: the limits and spans are those of its scale.
-- Assumes nothing.
use mathlib.Core.Path.{◌∙◌}
use borrow.Author.Rules.{rules}
use Rattle.scales.specs.Metres.{cloud}
use Rattle.scales.proofs.MetresLaws.{cloud-laws}
use Rattle.scales.proofs.MetresRounds.{cloud-rounds}
use Rattle.seen_values.proofs.Classes.{by-figure, by-none, cloud-follows}
use Rattle.seen_values.proofs.metres.cloud_seen.Statement.{statement}
use Rattle.seen_values.proofs.metres.cloud_seen.Tie as tie

pub cloud_seen_spec : {M : Type 1} → statement M
cloud_seen_spec =
    tie.close
    (tie.spec
    (λ c κs. search rules) (λ c κs. search rules) (λ c. search rules) (λ c κs. search rules) (λ c κs. search rules) (λ c. search rules)
    (λ c. c.if_foot.ensures ∙ by-figure cloud cloud-laws cloud-rounds _ _ cloud-follows _ c.cloud_figure.ensures c.in-Some.is c.cloud_reading.ensures c.class_by-class.ensures)
    (λ c. by-none cloud cloud-laws cloud-rounds _ _ cloud-follows _ c.cloud_figure.ensures c.in-None.is))
