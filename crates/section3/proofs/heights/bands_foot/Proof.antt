-- `section3::heights::bands_foot` meets its contract: the figure of its class, and the reading of the figure.
-- Assumes nothing.
use mathlib.Core.Path.{sym, ◌∙◌}
use borrow.Author.Rules.{rules}
use Rattle.scales.proofs.LayersLaws.{bands-laws}
use Rattle.section3.proofs.Feet.{foot-told, always-told, open-bands}
use Rattle.section3.proofs.heights.bands_foot.Statement.{statement}
use Rattle.section3.proofs.heights.bands_foot.Tie as tie

pub bands_foot_spec : {M : Type 1} → statement M
bands_foot_spec =
    tie.close
    (tie.spec
    (λ c κs. search rules) (λ c. search rules) (λ c. search rules)
    (λ c. open-bands _ (sym c.bands_figure.ensures ∙ c.in_default.is))
    (λ c κs. search rules) (λ c. search rules) (λ c. search rules)
    (λ c. absurd (always-told bands-laws _ c.bands_figure.ensures c.in-Some.is c.bands_reading.ensures c.in_default-bands_reading.is))
    (λ c. foot-told bands-laws _ c.bands_figure.ensures c.in-Some.is c.bands_reading.ensures c.in-Some-bands_reading.is))
