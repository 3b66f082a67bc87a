-- `synop_groups_write::write::put_time` meets its contract: the parts are put one after the other.
-- Assumes nothing.
use borrow.Author.Rules.{rules}
use Rattle.figures.proofs.Puts.{then}
use Rattle.text.proofs.Writes.{write-group}
use Rattle.synop_groups.specs.Shows.{show_time}
use Rattle.synop_groups_write.proofs.write.put_time.Statement.{statement}
use Rattle.synop_groups_write.proofs.write.put_time.Tie as tie

pub put_time_spec : {M : Type 1} → statement M
put_time_spec =
    tie.close
    (tie.spec
    (λ c κs. tt) (λ c κs. tt) (λ c κs. tt) (λ c κs. tt) (λ c. search rules)
    (λ c.
    let third = c in
    let second = third in
    let first = second in
    let opened = first in
    unfold show_time in
    write-group opened.open_group-opened.ensures
    (then (then first.put_part-dated.ensures second.put_part-timed.ensures) third.put_part.ensures)))
