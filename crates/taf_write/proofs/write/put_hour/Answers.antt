-- The parts are put one after the other.
use Rattle.figures.proofs.Puts.{then}
use Rattle.taf_write.proofs.write.put_hour.Goals as goal

pub returns : goal.returns
returns c = then c.put_two-dated.ensures c.put_two.ensures
