-- `synop_groups_write::write::put_two` meets its contract: the parts are put one after the other.
-- Assumes nothing.
use borrow.Author.Rules.{rules}
use Rattle.figures.proofs.Puts.{then}
use Rattle.text.proofs.Writes.{write-group}
use Rattle.synop_groups_write.proofs.write.put_two.Statement.{statement}
use Rattle.synop_groups_write.proofs.write.put_two.Tie as tie

pub put_two_spec : {M : Type 1} → statement M
put_two_spec =
    tie.close
    (tie.spec
    (λ c κs. tt) (λ c κs. tt) (λ c κs. tt) (λ c κs. tt) (λ c. search rules)
    (λ c.
    let third = c in
    let second = third in
    let first = second in
    let opened = first in
    write-group opened.open_group-opened.ensures
    (then (then first.put_byte-begun.ensures second.put_number-told.ensures) third.put_number.ensures)))
