-- The parts are put one after the other.
use Rattle.figures.proofs.Puts.{then}
use Rattle.text.proofs.Writes.{write-group}
use Rattle.trend_row.proofs.times.put_moment.Goals as goal

pub returns : goal.returns
returns c = write-group c.open_group-opened.ensures (then c.put_text-begun.ensures (then c.put_number-timed.ensures c.put_number.ensures))
