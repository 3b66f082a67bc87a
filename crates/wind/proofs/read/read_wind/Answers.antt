-- The parts of the scan are the parts that the definition reads.
use Rattle.std.proofs.Common.{◌≡◌, Bool, ap, ◌∙◌, arith, get_or}
use Rattle.figures.specs.declared.kinds.Field.TheVariants as field
use Rattle.shapes.specs.declared.kinds.Value.{Value}
use Rattle.shapes.specs.declared.kinds.Scan.{Scan}
use Rattle.shapes.specs.Shape.{scan_of}
use Rattle.places.specs.Engine.{Group}
use Rattle.elements.specs.Answers.{as_wind}
use Rattle.elements.specs.Wind.{wind_shape, unit_of, wind_by, read_wind}
use Rattle.elements.proofs.Scanned.{value-is}
use Rattle.wind.proofs.read.read_wind.Goals as goal

-- what an array of values has past its end
abbrev none : Value
none = record { which = 0; field = field.Number 0 }

by_parts : (forecast : Bool) (g : Group) (s : Scan) → s ≡ scan_of wind_shape g
    → wind_by forecast (unit_of (get_or s.values 3 none).which) (get_or s.values 0 none) (get_or s.values 1 none) (get_or s.values 2 none) ≡ read_wind forecast g
unfolding read_wind
by_parts forecast g s e =
    rw (
      e,
      value-is wind_shape g 0 none (omega arith),
      value-is wind_shape g 1 none (omega arith),
      value-is wind_shape g 2 none (omega arith),
      value-is wind_shape g 3 none (omega arith),
    )

pub returns-in-Ok : goal.returns-in-Ok
returns-in-Ok c = ap as_wind (rw c.unit_of.ensures at c.in-Ok.ensures ∙ by_parts c.args.forecast c.args.g.now _ c.scan_wind.ensures)

pub returns-in-Err : goal.returns-in-Err
returns-in-Err c = ap as_wind (rw c.unit_of.ensures at c.in-Err.ensures ∙ by_parts c.args.forecast c.args.g.now _ c.scan_wind.ensures)
