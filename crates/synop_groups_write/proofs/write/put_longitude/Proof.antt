-- `synop_groups_write::write::put_longitude` meets its contract: the parts are put one after the other.
-- Assumes nothing.
use borrow.Author.Rules.{rules}
use Rattle.figures.specs.Figures.{number_text}
use Rattle.figures.proofs.Puts.{then}
use Rattle.text.proofs.Writes.{write-group}
use Rattle.synop_groups.specs.Shows.{show_longitude}
use Rattle.synop_groups_write.proofs.write.put_longitude.Statement.{statement}
use Rattle.synop_groups_write.proofs.write.put_longitude.Tie as tie

pub put_longitude_spec : {M : Type 1} → statement M
put_longitude_spec =
    tie.close
    (tie.spec
    (λ c κs. tt) (λ c κs. tt) (λ c κs. tt) (λ c κs. tt) (λ c κs. tt) (λ c κs. tt) (λ c κs. tt) (λ c. search rules)
    (λ c.
    let second = c in
    let first = second in
    let opened = first in
    unfold show_longitude number_text in
    rw (opened.quadrant-q.ensures, opened.is_minus.ensures, opened.is_minus-2.ensures, second.magnitude_of.ensures)
    at (write-group opened.open_group-opened.ensures (then first.put_number-told.ensures second.put_number.ensures))))
