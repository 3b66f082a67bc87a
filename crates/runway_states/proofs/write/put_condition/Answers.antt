-- The parts are put one after the other.
use Rattle.figures.proofs.Puts.{then}
use Rattle.runway_states.proofs.write.put_condition.Goals as goal

pub returns-in-Covered : goal.returns-in-Covered
returns-in-Covered c =
    rw (c.in-Covered.is, ← c.field_of.ensures, ← c.field_of-in-Covered.ensures, ← c.depth_field.ensures)
    (then (then (then c.put_field-lain.ensures c.put_field-covered.ensures) c.put_field-deep.ensures) c.put_two.ensures)
