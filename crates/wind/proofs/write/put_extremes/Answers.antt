-- The parts are put one after the other.
use Rattle.figures.specs.Figures.{number_text}
use Rattle.figures.proofs.Puts.{then}
use Rattle.text.proofs.Writes.{write-group}
use Rattle.wind.proofs.write.put_extremes.Goals as goal

pub returns : goal.returns
unfolding number_text
returns c =
    rw (c.degrees_text.ensures, c.degrees_text-2.ensures)
    at (write-group c.open_group-opened.ensures (then (then c.put_number-first.ensures c.put_byte-second.ensures) c.put_number.ensures))
