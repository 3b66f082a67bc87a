-- `places::turn_unknown` meets its contract, by whether the word halts.
-- Assumes nothing.
use Rattle.places.proofs.turn_unknown.Statement.{statement}
use Rattle.places.proofs.turn_unknown.Tie as tie

pub turn_unknown_spec : {M : Type 1} → statement M
turn_unknown_spec = tie.close (tie.spec (λ c. rw c.if-halts.true) (λ c. rw c.if-halts.false))
