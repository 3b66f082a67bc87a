-- The parts are put one after the other.
use Rattle.figures.proofs.Puts.{then}
use Rattle.text.proofs.Writes.{write-group}
use Rattle.taf_row.specs.Row.{show_period}
use Rattle.taf_write.proofs.write.put_no_day.Goals as goal

pub returns : goal.returns
returns c = unfold show_period in write-group c.open_group-opened.ensures (then c.put_hour_alone-begun.ensures c.put_hour_alone.ensures)
