-- `text::write::open_group` meets its contract: nothing is put at the start of a text, and a space elsewhere.
-- Assumes nothing.
use borrow.Author.Rules.{rules}
use Rattle.text.proofs.Writes.{open-first, open-later}
use Rattle.text.proofs.write.open_group.Statement.{statement}
use Rattle.text.proofs.write.open_group.Tie as tie

pub open_group_spec : {M : Type 1} → statement M
open_group_spec =
    tie.close
    (tie.spec
    (λ c κs. search rules)
    (λ c. open-first _ _ c.if-at-eq0.true)
    (λ c. search rules)
    (λ c. open-later c.if-at-eq0.false c.put_byte.ensures))
