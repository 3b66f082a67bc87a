-- `body::judge::unless_absent` meets its contract, by its test.
-- Assumes nothing.
use Rattle.body.proofs.judge.unless_absent.Statement.{statement}
use Rattle.body.proofs.judge.unless_absent.Tie as tie

pub unless_absent_spec : {M : Type 1} → statement M
unless_absent_spec = tie.close (tie.spec (λ c. rw c.if-required-absent.true) (λ c. rw c.if-required-absent.false))
