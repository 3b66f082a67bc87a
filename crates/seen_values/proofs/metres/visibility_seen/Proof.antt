-- `seen_values::metres::visibility_seen` meets its contract: the limits and spans are those of its scale.
-- Assumes nothing.
use mathlib.Core.Path.{◌∙◌}
use borrow.Author.Rules.{rules}
use Rattle.scales.specs.Metres.{visibility}
use Rattle.scales.proofs.MetresLaws.{visibility-laws}
use Rattle.scales.proofs.MetresRounds.{visibility-rounds}
use Rattle.seen_values.proofs.Classes.{by-figure, by-none, visibility-follows}
use Rattle.seen_values.proofs.metres.visibility_seen.Statement.{statement}
use Rattle.seen_values.proofs.metres.visibility_seen.Tie as tie

pub visibility_seen_spec : {M : Type 1} → statement M
visibility_seen_spec =
    tie.close
    (tie.spec
    (λ c κs. search rules) (λ c κs. search rules) (λ c. search rules) (λ c κs. search rules) (λ c κs. search rules) (λ c. search rules)
    (λ c. c.if_foot.ensures ∙ by-figure visibility visibility-laws visibility-rounds _ _ visibility-follows _ c.visibility_figure.ensures c.in-Some.is c.visibility_reading.ensures c.class_by-class.ensures)
    (λ c. by-none visibility visibility-laws visibility-rounds _ _ visibility-follows _ c.visibility_figure.ensures c.in-None.is))
