-- No time puts nothing, and two are put one after the other.
use Rattle.text.proofs.Writes.{write-none, write-groups}
use Rattle.trend_row.proofs.times.put_times.Goals as goal

pub returns-in-None : goal.returns-in-None
returns-in-None c = rw c.in-None.is (write-none _ _)

pub returns-in-Between : goal.returns-in-Between
returns-in-Between c = rw c.in-Between.is (write-groups _ _ c.put_moment-begun.ensures c.put_moment-in-Between.ensures)
