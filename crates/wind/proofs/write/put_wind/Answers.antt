-- The values are printed by the shape.
use Rattle.std.proofs.Common.{[], ◌∷◌}
use Rattle.text.proofs.Writes.{write-group}
use Rattle.elements.specs.Wind.{class_speed, direction_value, speed_value, gust_value, unit_value, show_wind}
use Rattle.wind.proofs.RoundTripWind.{print-four}
use Rattle.wind.proofs.write.put_wind.Goals as goal

pub returns : goal.returns
unfolding show_wind
returns c =
    let w = c.args.w in
    let u = unit_value w.unit in
    rw (
      c.unit_value-values.ensures,
      c.direction_value.ensures,
      c.speed_value.ensures,
      c.gust_value.ensures,
      c.class_speed.ensures,
      c.class_speed-2.ensures,
      print-four (direction_value w.direction) (speed_value (class_speed w.unit w.speed)) (gust_value (class_speed w.unit w.gust)) u (u ∷ u ∷ u ∷ u ∷ []),
    )
    at (write-group c.open_group-opened.ensures c.put_shape.ensures)
