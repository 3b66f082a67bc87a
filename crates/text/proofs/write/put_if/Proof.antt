-- `text::write::put_if` meets its contract: the group, or nothing.
-- Assumes nothing.
use borrow.Author.Rules.{rules}
use Rattle.text.proofs.Writes.{write-none}
use Rattle.text.proofs.write.put_if.Statement.{statement}
use Rattle.text.proofs.write.put_if.Tie as tie

pub put_if_spec : {M : Type 1} → statement M
put_if_spec =
    tie.close
    (tie.spec
    (λ c κs. search rules) (λ c. search rules)
    (λ c. rw c.if-has.true c.put_group.ensures)
    (λ c. rw c.if-has.false (write-none _ _)))
