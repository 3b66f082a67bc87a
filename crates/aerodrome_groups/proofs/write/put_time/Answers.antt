-- The parts are put one after the other.
use Rattle.figures.proofs.Puts.{then}
use Rattle.text.proofs.Writes.{write-group}
use Rattle.aerodrome_groups.specs.Head.{show_time}
use Rattle.aerodrome_groups.proofs.write.put_time.Goals as goal

pub returns : goal.returns
returns c =
    unfold show_time in
    write-group c.open_group-opened.ensures
    (then (then (then c.put_two-dated.ensures c.put_two-timed.ensures) c.put_two-told.ensures) c.put_byte.ensures)
