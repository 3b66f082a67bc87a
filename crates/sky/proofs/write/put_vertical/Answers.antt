-- The parts are put one after the other.
use Rattle.figures.proofs.Puts.{then}
use Rattle.text.proofs.Writes.{write-group}
use Rattle.sky.proofs.write.put_vertical.Goals as goal

pub returns : goal.returns
returns c =
    rw c.height_field.ensures
    at (write-group c.open_group-opened.ensures (then c.put_text-begun.ensures c.put_field.ensures))
