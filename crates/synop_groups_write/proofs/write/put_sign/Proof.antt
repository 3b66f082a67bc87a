-- `synop_groups_write::write::put_sign` meets its contract: the parts are put one after the other.
-- Assumes nothing.
use borrow.Author.Rules.{rules}
use Rattle.text.proofs.Writes.{write-group}
use Rattle.synop_groups.specs.Shows.{show_sign}
use Rattle.synop_groups_write.proofs.write.put_sign.Statement.{statement}
use Rattle.synop_groups_write.proofs.write.put_sign.Tie as tie

pub put_sign_spec : {M : Type 1} → statement M
put_sign_spec =
    tie.close
    (tie.spec
    (λ c κs. tt) (λ c. search rules) (λ c κs. tt) (λ c κs. tt) (λ c. search rules)
    (λ c.
    let first = c in
    let opened = first in
    unfold show_sign in
    rw first.name_part.ensures
    at (write-group opened.open_group-opened.ensures first.put_text.ensures)))
