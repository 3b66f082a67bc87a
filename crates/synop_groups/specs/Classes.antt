-- The record that a written group is read back as: each rounded number replaced by the reading of its class, all else as it is.
-- Assumes nothing: these are definitions.
use Rattle.std.specs.Prelude.{ℕ, cond, leb, pos, None, Option, Some}
use Rattle.scales.specs.Scale.{foot_of}
use Rattle.scales.specs.Metres.{land, sea, base}
use Rattle.scales.specs.Layers.{layer_steps, layer_bands}
use Rattle.scales.specs.Rounded.{rounded_rain}
use Rattle.record.specs.declared.values.Speed.{Speed}
use Rattle.record.specs.declared.values.Speed.TheVariants as speed
use Rattle.record.specs.declared.surface.Position.{Position}
use Rattle.record.specs.declared.surface.Sight.{Sight}
use Rattle.record.specs.declared.surface.Sight.TheVariants as sight
use Rattle.record.specs.declared.surface.Indicators.{Indicators}
use Rattle.record.specs.declared.surface.Wind.{Wind}
use Rattle.record.specs.declared.surface.Fall.{Fall}
use Rattle.record.specs.declared.surface.Rainfall.{Rainfall}
use Rattle.record.specs.declared.surface.BaseHeight.{BaseHeight}
use Rattle.record.specs.declared.surface.BaseHeight.TheVariants as height
use Rattle.record.specs.declared.surface.CloudLayer.{CloudLayer}
use Rattle.record.specs.Classes.{class_on, class_direction}
use Rattle.record.specs.Values.{fall_of}
use Rattle.synop_groups.specs.Shows.{magnitude_of}

-- ---- h and VV: the foot of the class

abbrev pub class_base : Option ℕ → Option ℕ
class_base = class_on base

abbrev pub class_sight : Sight → Sight
class_sight sight.Missing = sight.Missing
class_sight (sight.Land m) = sight.Land (foot_of land m)
class_sight (sight.Sea m) = sight.Sea (foot_of sea m)

abbrev pub class_indicators : Indicators → Indicators
class_indicators i = record { rain = i.rain; weather = i.weather; base = class_base i.base; sight = class_sight i.sight }

-- ---- direction and rain

abbrev pub class_wind : Wind → Wind
class_wind w = record { cover = w.cover; direction = class_direction w.direction; speed = w.speed }

abbrev pub class_fall : Option Fall → Option Fall
class_fall None = None
class_fall (Some x) = Some (fall_of (rounded_rain x.amount) x.period)

abbrev pub class_rainfall : Rainfall → Rainfall
class_rainfall r = record { is = class_fall r.is }

-- ---- hh of section 3: the foot of the class, on the same scale

abbrev pub class_height : BaseHeight → BaseHeight
class_height height.Missing = height.Missing
class_height (height.Steps m) = height.Steps (foot_of layer_steps m)
class_height (height.Bands m) = height.Bands (foot_of layer_bands m)

abbrev pub class_layer : CloudLayer → CloudLayer
class_layer l = record { amount = l.amount; cloud = l.cloud; height = class_height l.height }

-- ---- what the first of two groups leaves

-- the latitude before the quadrant is read
abbrev pub unsigned_position : Position → Position
unsigned_position p = record { latitude = Some (pos (magnitude_of p.latitude)); longitude = None }

-- the wind as Nddff leaves it, before 00fff is read
abbrev pub in_two : ℕ → ℕ
in_two s = cond (leb 99 s) 99 s

abbrev pub speed_in_two : Speed → Speed
speed_in_two speed.Missing = speed.Missing
speed_in_two (speed.Is s) = speed.Is (in_two s)
speed_in_two (speed.Above s) = speed.Above s

abbrev pub wind_in_two : Wind → Wind
wind_in_two w = record { cover = w.cover; direction = class_direction w.direction; speed = speed_in_two w.speed }
