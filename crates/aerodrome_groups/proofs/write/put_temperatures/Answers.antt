-- The values are those of the definition, and the last three are not printed.
use Rattle.text.proofs.Writes.{write-group}
use Rattle.aerodrome_groups.specs.Temperatures.{show_temperatures}
use Rattle.aerodrome_groups.proofs.Writings.{temperatures-text, two-values}
use Rattle.aerodrome_groups.proofs.write.put_temperatures.Goals as goal

pub returns : goal.returns
returns c =
    let t = c.args.t in
    unfold show_temperatures in
    rw (two-values t.air, two-values t.dew, ← c.chosen-blank.ensures, ← c.minus_of.ensures, ← c.whole_of.ensures, ← c.minus_of-2.ensures, ← c.whole_of-2.ensures)
    (write-group c.open_group-opened.ensures (rw temperatures-text at c.put_shape.ensures))
