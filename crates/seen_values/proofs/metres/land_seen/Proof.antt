-- `seen_values::metres::land_seen` meets its contract: the limits and spans are those of its scale.
-- Assumes nothing.
use mathlib.Core.Path.{◌∙◌}
use borrow.Author.Rules.{rules}
use Rattle.scales.specs.Metres.{land}
use Rattle.scales.proofs.MetresLaws.{land-laws}
use Rattle.scales.proofs.MetresRounds.{land-rounds}
use Rattle.seen_values.proofs.Classes.{by-figure, by-none, land-follows}
use Rattle.seen_values.proofs.metres.land_seen.Statement.{statement}
use Rattle.seen_values.proofs.metres.land_seen.Tie as tie

pub land_seen_spec : {M : Type 1} → statement M
land_seen_spec =
    tie.close
    (tie.spec
    (λ c κs. search rules) (λ c κs. search rules) (λ c. search rules) (λ c κs. search rules) (λ c κs. search rules) (λ c. search rules)
    (λ c. c.if_foot.ensures ∙ by-figure land land-laws land-rounds _ _ land-follows _ c.land_figure.ensures c.in-Some.is c.land_reading.ensures c.class_by-class.ensures)
    (λ c. by-none land land-laws land-rounds _ _ land-follows _ c.land_figure.ensures c.in-None.is))
