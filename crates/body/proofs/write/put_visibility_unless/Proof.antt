-- `body::write::put_visibility_unless` meets its contract, by its test.
-- Assumes nothing.
use borrow.Author.Rules.{rules}
use Rattle.text.proofs.Writes.{write-none}
use Rattle.body.proofs.write.put_visibility_unless.Statement.{statement}
use Rattle.body.proofs.write.put_visibility_unless.Tie as tie

pub put_visibility_unless_spec : {M : Type 1} → statement M
put_visibility_unless_spec =
    tie.close
    (tie.spec
    (λ c κs. tt)
    (λ c. rw c.if-left.true (write-none _ _))
    (λ c. search rules)
    (λ c. rw c.if-left.false c.put_visibility.ensures))
