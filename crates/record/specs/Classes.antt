-- What a value of the record is read back as once it was written: the reading of its class, by its scale. What is missing, calm or variable stays.
-- Assumes nothing: these are definitions.
use Rattle.std.specs.Prelude.{ℕ, None, Option, Some}
use Rattle.scales.specs.Scale.{Scale, foot_of}
use Rattle.scales.specs.Rounded.{rounded_direction}
use Rattle.record.specs.declared.values.Direction.{Direction}
use Rattle.record.specs.declared.values.Direction.TheVariants as direction

-- a number on a scale that rounds down: the foot of its class
abbrev pub class_on : {F : Type 0} → Scale F → Option ℕ → Option ℕ
class_on s None = None
class_on s (Some m) = Some (foot_of s m)

abbrev pub class_direction : Direction → Direction
class_direction direction.Missing = direction.Missing
class_direction direction.Calm = direction.Calm
class_direction direction.Variable = direction.Variable
class_direction (direction.Degrees d) = direction.Degrees (rounded_direction d)
