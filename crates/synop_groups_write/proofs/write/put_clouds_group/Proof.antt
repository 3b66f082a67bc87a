-- `synop_groups_write::write::put_clouds_group` meets its contract: the parts are put one after the other.
-- Assumes nothing.
use borrow.Author.Rules.{rules}
use Rattle.figures.proofs.Puts.{then}
use Rattle.text.proofs.Writes.{write-group}
use Rattle.synop_groups.specs.Shows.{clouds_text}
use Rattle.synop_groups_write.proofs.write.put_clouds_group.Statement.{statement}
use Rattle.synop_groups_write.proofs.write.put_clouds_group.Tie as tie

pub put_clouds_group_spec : {M : Type 1} → statement M
put_clouds_group_spec =
    tie.close
    (tie.spec
    (λ c κs. tt) (λ c κs. tt) (λ c κs. tt) (λ c κs. tt) (λ c κs. tt) (λ c κs. tt) (λ c. search rules)
    (λ c.
    let fifth = c in
    let fourth = fifth in
    let third = fourth in
    let second = third in
    let first = second in
    let opened = first in
    unfold clouds_text in
    write-group opened.open_group-opened.ensures
    (then (then (then (then first.put_byte-begun.ensures second.put_part-counted.ensures) third.put_part-below.ensures) fourth.put_part-between.ensures) fifth.put_part.ensures)))
