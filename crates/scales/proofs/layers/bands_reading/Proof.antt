-- `scales::layers::bands_reading` meets its contract: figures from 90 on are those of 1600 h.
-- Assumes nothing.
use mathlib.Core.Path.{◌∙◌}
use native.Mathlib.Omega.{arith}
use borrow.Author.Rules.{rules}
use Rattle.scales.proofs.LayersLaws.{read-bands, unused-bands}
use Rattle.scales.proofs.layers.bands_reading.Statement.{statement}
use Rattle.scales.proofs.layers.bands_reading.Tie as tie

pub bands_reading_spec : {M : Type 1} → statement M
bands_reading_spec =
    tie.close
    (tie.spec
    (λ c κs. search rules)
    (λ c. unused-bands _ (omega arith))
    (λ c. c.base_reading.ensures ∙ read-bands _ (omega arith)))
