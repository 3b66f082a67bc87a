-- `synop_groups_write::write::put_fall` meets its contract: the parts are put one after the other.
-- Assumes nothing.
use borrow.Author.Rules.{rules}
use Rattle.figures.proofs.Puts.{then}
use Rattle.text.proofs.Writes.{write-group}
use Rattle.synop_groups_write.proofs.write.put_fall.Statement.{statement}
use Rattle.synop_groups_write.proofs.write.put_fall.Tie as tie

pub put_fall_spec : {M : Type 1} → statement M
put_fall_spec =
    tie.close
    (tie.spec
    (λ c κs. tt) (λ c κs. tt) (λ c κs. tt) (λ c κs. tt) (λ c κs. tt) (λ c κs. tt) (λ c. search rules)
    (λ c.
    let third = c in
    let second = third in
    let first = second in
    let opened = first in
    rw (second.field_by.ensures, second.rain_figure.ensures)
    at (write-group opened.open_group-opened.ensures
    (then (then first.put_byte-begun.ensures second.put_field-measured.ensures) third.put_part.ensures))))
