-- `body::read::say_nsw` meets its contract, by its test.
-- Assumes nothing.
use Rattle.body.proofs.read.say_nsw.Statement.{statement}
use Rattle.body.proofs.read.say_nsw.Tie as tie

pub say_nsw_spec : {M : Type 1} → statement M
say_nsw_spec = tie.close (tie.spec (λ c. rw c.if-may-count.true) (λ c. rw c.if-may-count.false))
