-- `synop_groups_write::write::put_wind` meets its contract: the parts are put one after the other.
-- Assumes nothing.
use borrow.Author.Rules.{rules}
use Rattle.figures.proofs.Puts.{then}
use Rattle.text.proofs.Writes.{write-group}
use Rattle.synop_groups.specs.Shows.{show_wind}
use Rattle.synop_groups_write.proofs.write.put_wind.Statement.{statement}
use Rattle.synop_groups_write.proofs.write.put_wind.Tie as tie

pub put_wind_spec : {M : Type 1} → statement M
put_wind_spec =
    tie.close
    (tie.spec
    (λ c κs. tt) (λ c κs. tt) (λ c κs. tt) (λ c κs. tt) (λ c κs. tt) (λ c κs. tt) (λ c. search rules)
    (λ c.
    let third = c in
    let second = third in
    let first = second in
    let opened = first in
    unfold show_wind in
    rw (second.direction_field.ensures, third.speed_field.ensures)
    at (write-group opened.open_group-opened.ensures
    (then (then first.put_part-covered.ensures second.put_field-pointed.ensures) third.put_field.ensures))))
