-- The two values of one temperature, as the writer makes them: M or nothing, and the figures or slashes.
-- Assumes nothing: these are definitions.
use Rattle.std.specs.Prelude.{ℤ, None, Option, Some}
use Rattle.figures.specs.declared.kinds.Field.TheVariants as field
use Rattle.shapes.specs.declared.kinds.Value.{Value}
use Rattle.scales.specs.Degrees.{degrees_of}
use Rattle.elements.specs.Wind.{chosen, numbered}
use Rattle.aerodrome_groups.specs.Temperatures.{minus_value, whole_value}

abbrev pub minus_of : Option ℤ → Value
minus_of None = chosen 1
minus_of (Some t) = minus_value (degrees_of t)

abbrev pub whole_of : Option ℤ → Value
whole_of None = numbered 0 field.Missing
whole_of (Some t) = whole_value (degrees_of t)
