-- `seen_values::metres::sea_seen` meets its contract: the limits and spans are those of its scale.
-- Assumes nothing.
use mathlib.Core.Path.{◌∙◌}
use borrow.Author.Rules.{rules}
use Rattle.scales.specs.Metres.{sea}
use Rattle.scales.proofs.MetresLaws.{sea-laws}
use Rattle.scales.proofs.MetresRounds.{sea-rounds}
use Rattle.seen_values.proofs.Classes.{by-figure, by-none, sea-follows}
use Rattle.seen_values.proofs.metres.sea_seen.Statement.{statement}
use Rattle.seen_values.proofs.metres.sea_seen.Tie as tie

pub sea_seen_spec : {M : Type 1} → statement M
sea_seen_spec =
    tie.close
    (tie.spec
    (λ c κs. search rules) (λ c κs. search rules) (λ c. search rules) (λ c κs. search rules) (λ c κs. search rules) (λ c. search rules)
    (λ c. c.if_foot.ensures ∙ by-figure sea sea-laws sea-rounds _ _ sea-follows _ c.sea_figure.ensures c.in-Some.is c.sea_reading.ensures c.class_by-class.ensures)
    (λ c. by-none sea sea-laws sea-rounds _ _ sea-follows _ c.sea_figure.ensures c.in-None.is))
