-- `cloud_table::cloud_height` meets its contract: no height is the mark, so the number tells whether the code is used.
-- Assumes nothing.
use mathlib.Core.Path.{sym, ◌∙◌}
use borrow.Author.Rules.{rules}
use Rattle.cloud_table.proofs.Entries.{is-unused, is-height}
use Rattle.cloud_table.proofs.cloud_height.Statement.{statement}
use Rattle.cloud_table.proofs.cloud_height.Tie as tie

returns : tie.Need-returns-then-height-eq-UNUSED
returns c = is-unused _ (sym c.height_or_mark-height.ensures ∙ c.if-height-eq-UNUSED.true)

returns-2 : tie.Need-returns-else-height-eq-UNUSED
returns-2 c = rw c.height_or_mark-height.ensures (is-height _ (λ e. c.if-height-eq-UNUSED.false (c.height_or_mark-height.ensures ∙ e)))

pub cloud_height_spec : {M : Type 1} → statement M
cloud_height_spec = tie.close (tie.spec (λ c κs. search rules) returns returns-2)
