-- `synop_groups_write::write::put_indicators` meets its contract: the parts are put one after the other.
-- Assumes nothing.
use borrow.Author.Rules.{rules}
use Rattle.figures.proofs.Puts.{then}
use Rattle.text.proofs.Writes.{write-group}
use Rattle.synop_groups.specs.Shows.{show_indicators}
use Rattle.synop_groups_write.proofs.write.put_indicators.Statement.{statement}
use Rattle.synop_groups_write.proofs.write.put_indicators.Tie as tie

pub put_indicators_spec : {M : Type 1} → statement M
put_indicators_spec =
    tie.close
    (tie.spec
    (λ c κs. tt) (λ c κs. tt) (λ c κs. tt) (λ c κs. tt) (λ c κs. tt) (λ c κs. tt) (λ c κs. tt) (λ c. search rules)
    (λ c.
    let fourth = c in
    let third = fourth in
    let second = third in
    let first = second in
    let opened = first in
    unfold show_indicators in
    rw (third.base_field.ensures, fourth.sight_field.ensures)
    at (write-group opened.open_group-opened.ensures
    (then (then (then first.put_part-first.ensures second.put_part-second.ensures) third.put_field-third.ensures) fourth.put_field.ensures))))
