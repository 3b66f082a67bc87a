-- What the reader finds in a part of a group: a value that may be missing, or a wrong figure.
-- Assumes nothing: these are definitions.
use Rattle.std.specs.Prelude.{ℕ, cond, leb, None, Option, Some}
use Rattle.figures.specs.declared.kinds.Field.{Field}
use Rattle.figures.specs.declared.kinds.Field.TheVariants as field
use Rattle.scales.specs.Metres.{land, sea, base, metres_reading}
use Rattle.scales.specs.Layers.{layer_steps, layer_bands}
use Rattle.record.specs.declared.surface.Sight.{Sight}
use Rattle.record.specs.declared.surface.Sight.TheVariants as sight
use Rattle.record.specs.declared.surface.BaseHeight.{BaseHeight}
use Rattle.record.specs.declared.surface.BaseHeight.TheVariants as height

-- a number field that may be missing
unfoldable pub part_of : Field → Option (Option ℕ)
part_of (field.Number n) = Some (Some n)
part_of field.Missing = Some None
part_of field.Mixed = None
part_of field.Other = None

-- the height of the lowest cloud's base
abbrev pub height_part : Option ℕ → Option (Option ℕ)
height_part (Some m) = Some (Some m)
height_part None = None

unfoldable pub base_part : Field → Option (Option ℕ)
base_part (field.Number n) = height_part (metres_reading base n)
base_part field.Missing = Some None
base_part field.Mixed = None
base_part field.Other = None

-- the visibility, on the scale that its figure is of
abbrev pub seen_by : (ℕ → Sight) → Option ℕ → Option Sight
seen_by scale (Some m) = Some (scale m)
seen_by scale None = None

unfoldable pub sight_for : ℕ → Option Sight
sight_for n = cond (leb 90 n) (seen_by sight.Sea (metres_reading sea n)) (seen_by sight.Land (metres_reading land n))

unfoldable pub sight_part : Field → Option Sight
sight_part (field.Number n) = sight_for n
sight_part field.Missing = Some sight.Missing
sight_part field.Mixed = None
sight_part field.Other = None

-- the height of a layer's base, on the scale that its figure is of
abbrev pub based_by : (ℕ → BaseHeight) → Option ℕ → Option BaseHeight
based_by scale (Some m) = Some (scale m)
based_by scale None = None

unfoldable pub height_for : ℕ → Option BaseHeight
height_for n = cond (leb 90 n) (based_by height.Bands (metres_reading layer_bands n)) (based_by height.Steps (metres_reading layer_steps n))

unfoldable pub layer_part : Field → Option BaseHeight
layer_part (field.Number n) = height_for n
layer_part field.Missing = Some height.Missing
layer_part field.Mixed = None
layer_part field.Other = None
