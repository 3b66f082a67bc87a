-- `text::write::put_group` meets its contract: the parts are put one after the other.
-- Assumes nothing.
use borrow.Author.Rules.{rules}
use Rattle.text.proofs.Writes.{write-group}
use Rattle.text.proofs.write.put_group.Statement.{statement}
use Rattle.text.proofs.write.put_group.Tie as tie

pub put_group_spec : {M : Type 1} → statement M
put_group_spec =
    tie.close
    (tie.spec
    (λ c κs. tt) (λ c κs. tt) (λ c. search rules)
    (λ c. write-group c.open_group-opened.ensures c.put_text.ensures))
