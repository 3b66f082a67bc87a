-- `seen_values::metres::bands_seen` meets its contract: the feet are those of 1600 h.
-- Assumes nothing.
use mathlib.Core.Path.{◌∙◌}
use borrow.Author.Rules.{rules}
use Rattle.seen_values.proofs.Classes.{bands-seen}
use Rattle.seen_values.proofs.metres.bands_seen.Statement.{statement}
use Rattle.seen_values.proofs.metres.bands_seen.Tie as tie

pub bands_seen_spec : {M : Type 1} → statement M
bands_seen_spec = tie.close (tie.spec (λ c κs. search rules) (λ c. c.base_seen.ensures ∙ bands-seen _))
