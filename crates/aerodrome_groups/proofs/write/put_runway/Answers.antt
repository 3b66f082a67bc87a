-- The values are those of the definition, and the last two are not printed.
use Rattle.text.proofs.Writes.{write-group}
use Rattle.aerodrome_groups.specs.Runway.{show_runway}
use Rattle.aerodrome_groups.proofs.Writings.{runway-text}
use Rattle.aerodrome_groups.proofs.write.put_runway.Goals as goal

pub returns : goal.returns
returns c =
    unfold show_runway in
    rw (← c.chosen-blank.ensures, ← c.field_of.ensures, ← c.numbered.ensures, ← c.side_value.ensures, ← c.mark_value.ensures, ← c.range_value.ensures, ← c.course_value.ensures)
    (write-group c.open_group-opened.ensures (rw runway-text at c.put_shape.ensures))
