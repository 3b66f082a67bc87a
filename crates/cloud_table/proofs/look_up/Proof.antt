-- `cloud_table::look_up` meets its contract: by the table's entry, or past code 999.
-- Assumes nothing.
use mathlib.Core.Path.{sym}
use native.Mathlib.Omega.{arith}
use borrow.Author.Rules.{rules}
use Rattle.cloud_table.proofs.Entries.{entry, over}
use Rattle.cloud_table.proofs.look_up.Statement.{statement}
use Rattle.cloud_table.proofs.look_up.Tie as tie

returns : tie.Need-returns-then-code-lt1000
returns c = rw c.requires (entry _ (omega arith))

returns-2 : tie.Need-returns-else-code-lt1000
returns-2 c = sym (over _ (omega arith))

pub look_up_spec : {M : Type 1} → statement M
look_up_spec = tie.close (tie.spec (λ c. search rules) (λ c. search rules) returns returns-2)
