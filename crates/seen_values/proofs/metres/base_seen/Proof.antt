-- `seen_values::metres::base_seen` meets its contract: the limits and spans are those of its scale.
-- Assumes nothing.
use mathlib.Core.Path.{◌∙◌}
use borrow.Author.Rules.{rules}
use Rattle.scales.specs.Metres.{base}
use Rattle.scales.proofs.MetresLaws.{base-laws}
use Rattle.scales.proofs.MetresRounds.{base-rounds}
use Rattle.seen_values.proofs.Classes.{by-figure, by-none, base-follows}
use Rattle.seen_values.proofs.metres.base_seen.Statement.{statement}
use Rattle.seen_values.proofs.metres.base_seen.Tie as tie

pub base_seen_spec : {M : Type 1} → statement M
base_seen_spec =
    tie.close
    (tie.spec
    (λ c κs. search rules) (λ c κs. search rules) (λ c. search rules) (λ c κs. search rules) (λ c κs. search rules) (λ c. search rules)
    (λ c. c.if_foot.ensures ∙ by-figure base base-laws base-rounds _ _ base-follows _ c.base_figure.ensures c.in-Some.is c.base_reading.ensures c.class_by-class.ensures)
    (λ c. by-none base base-laws base-rounds _ _ base-follows _ c.base_figure.ensures c.in-None.is))
