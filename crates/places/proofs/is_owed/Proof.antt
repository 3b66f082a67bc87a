-- `places::is_owed` meets its contract: up to the row's end is all of it.
-- Assumes nothing.
use borrow.Author.Rules.{rules}
use mathlib.Core.Path.{◌∙◌}
use Rattle.places.proofs.Seek.{owed_all}
use Rattle.places.proofs.is_owed.Statement.{statement}
use Rattle.places.proofs.is_owed.Tie as tie

pub is_owed_spec : {M : Type 1} → statement M
is_owed_spec = tie.close (tie.spec (λ c κs. search rules) (λ c. c.is_owed_before.ensures ∙ owed_all c.args.must.now c.args.place c.args.count))
