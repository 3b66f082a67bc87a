-- The parts are put one after the other.
use Rattle.figures.proofs.Puts.{then}
use Rattle.text.proofs.Writes.{write-group}
use Rattle.aerodrome_groups.specs.Temperatures.{show_qnh}
use Rattle.aerodrome_groups.proofs.write.put_qnh.Goals as goal

pub returns : goal.returns
returns c =
    unfold show_qnh in
    rw (← c.pressure_field.ensures)
    (write-group c.open_group-opened.ensures (then c.put_text-begun.ensures c.put_field.ensures))
