-- `synop_write::write::put_rest` meets its contract, by its test.
-- Assumes nothing.
use borrow.Author.Rules.{rules}
use Rattle.text.proofs.Writes.{write-groups}
use Rattle.synop_write.proofs.write.put_rest.Statement.{statement}
use Rattle.synop_write.proofs.write.put_rest.Tie as tie

pub put_rest_spec : {M : Type 1} → statement M
put_rest_spec =
    tie.close
    (tie.spec
    (λ c κs. tt) (λ c κs. tt) (λ c κs. tt) (λ c. search rules)
    (λ c. rw c.if-nil.true c.put_group.ensures)
    (λ c. search rules)
    (λ c. rw c.if-nil.false (write-groups _ _ c.put_surface-told.ensures c.put_section3.ensures)))
