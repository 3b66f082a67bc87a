-- What opens it, and its part.
use Rattle.text.proofs.Writes.{write-groups}
use Rattle.taf.specs.Write.{show_change}
use Rattle.taf_write.proofs.write.put_change.Goals as goal

pub returns : goal.returns
returns c = unfold show_change in rw (c.part_of.ensures, c.leg_of.ensures) at (write-groups _ _ c.put_opening-opened.ensures c.put_part.ensures)
