-- The parts are put one after the other.
use Rattle.figures.proofs.Puts.{then}
use Rattle.text.proofs.Writes.{write-group}
use Rattle.taf_write.proofs.write.put_chance.Goals as goal

pub returns : goal.returns
returns c = write-group c.open_group-opened.ensures (then c.put_text-begun.ensures c.put_number.ensures)
