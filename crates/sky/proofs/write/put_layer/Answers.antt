-- The group is put after what opens it.
use Rattle.text.proofs.Writes.{write-group}
use Rattle.elements.specs.Sky.{show_layer}
use Rattle.sky.proofs.Writings.{three-parts}
use Rattle.sky.proofs.write.put_layer.Goals as goal

pub returns : goal.returns
unfolding show_layer
returns c =
    write-group c.open_group-opened.ensures
    (rw (c.convective_value.ensures, c.amount_value.ensures, c.height_field.ensures, three-parts) at c.put_shape.ensures)
