-- How each group of a SYNOP or SHIP is written: document 01's list, in its order. A part that is missing is slashes, "as many as letters"; "a group
-- all of slashes after its first figure reads as absent, and the writer omits it, except that a required 6 or 7 group is written with slashes".
-- Assumes nothing: these are definitions.
use Rattle.std.specs.Prelude.{ℕ, ◌%◌, Bool, false, cond, List, [], ◌∷◌, ◌++◌, take, leb, ℤ, pos, nat_abs, None, Option, Some}
use Rattle.figures.specs.declared.kinds.Field.{Field}
use Rattle.figures.specs.declared.kinds.Field.TheVariants as field
use Rattle.figures.specs.Quote.{bytes}
use Rattle.figures.specs.Figures.{figures, field_text}
use Rattle.figures.specs.Signed.{negative}
use Rattle.scales.specs.Metres.{land, sea, base, metres_figure}
use Rattle.scales.specs.Layers.{layer_steps, layer_bands}
use Rattle.scales.specs.Rounded.{rain_figure, direction_figure}
use Rattle.scales.specs.Fields.{field_by}
use Rattle.record.specs.declared.values.Direction.{Direction}
use Rattle.record.specs.declared.values.Direction.TheVariants as direction
use Rattle.record.specs.declared.values.Speed.{Speed}
use Rattle.record.specs.declared.values.Speed.TheVariants as speed
use Rattle.record.specs.declared.surface.CallSign.{CallSign}
use Rattle.record.specs.declared.surface.Position.{Position}
use Rattle.record.specs.declared.surface.Time.{Time}
use Rattle.record.specs.declared.surface.Sight.{Sight}
use Rattle.record.specs.declared.surface.Sight.TheVariants as sight
use Rattle.record.specs.declared.surface.Indicators.{Indicators}
use Rattle.record.specs.declared.surface.Wind.{Wind}
use Rattle.record.specs.declared.surface.Air.{Air}
use Rattle.record.specs.declared.surface.Moist.{Moist}
use Rattle.record.specs.declared.surface.Moist.TheVariants as moist
use Rattle.record.specs.declared.surface.Moisture.{Moisture}
use Rattle.record.specs.declared.surface.Pressure.{Pressure}
use Rattle.record.specs.declared.surface.AtLevel.{AtLevel}
use Rattle.record.specs.declared.surface.AtLevel.TheVariants as at_level
use Rattle.record.specs.declared.surface.Level.{Level}
use Rattle.record.specs.declared.surface.PressureChange.{PressureChange}
use Rattle.record.specs.declared.surface.Tendency.{Tendency}
use Rattle.record.specs.declared.surface.Fall.{Fall}
use Rattle.record.specs.declared.surface.Rainfall.{Rainfall}
use Rattle.record.specs.declared.surface.Weather.{Weather}
use Rattle.record.specs.declared.surface.Clouds.{Clouds}
use Rattle.record.specs.declared.surface.Observed.{Observed}
use Rattle.record.specs.declared.surface.Clock.{Clock}
use Rattle.record.specs.declared.surface.BaseHeight.{BaseHeight}
use Rattle.record.specs.declared.surface.BaseHeight.TheVariants as height
use Rattle.record.specs.declared.surface.CloudLayer.{CloudLayer}
use Rattle.record.specs.SilentSurface.{no_weather, no_clouds}
use Rattle.shapes.specs.Pattern.{Pattern}
use Rattle.synop_groups.specs.Position.{quadrant_of}
use Rattle.synop_groups.specs.Reads.{Group}

-- ---- parts

-- a number as a field
abbrev pub field_of : Option ℕ → Field
field_of None = field.Missing
field_of (Some n) = field.Number n

abbrev pub magnitude_of : Option ℤ → ℕ
magnitude_of None = 0
magnitude_of (Some t) = nat_abs t

abbrev pub signed_value : Option ℤ → ℤ
signed_value None = pos 0
signed_value (Some t) = t

-- sTTT: the sign's figure and three figures
abbrev pub sign_text : ℤ → List ℕ
sign_text t = cond (negative t) (bytes "1") (bytes "0") ++ figures 3 (nat_abs t)

-- ---- the groups through Nddff

unfoldable pub show_time : Time → Group
show_time t = field_text 2 (field_of t.day) ++ field_text 2 (field_of t.hour) ++ field_text 1 (field_of t.unit)

unfoldable pub show_station : Option ℕ → Group
show_station n = field_text 5 (field_of n)

unfoldable pub show_sign : CallSign → Group
show_sign s = take s.length s.letters

unfoldable pub show_latitude : Position → Group
show_latitude p = bytes "99" ++ figures 3 (magnitude_of p.latitude)

unfoldable pub show_longitude : Position → Group
show_longitude p = figures 1 (quadrant_of (signed_value p.latitude) (signed_value p.longitude)) ++ figures 4 (magnitude_of p.longitude)

abbrev pub base_field : Option ℕ → Field
base_field None = field.Missing
base_field (Some m) = field_by (metres_figure base m)

abbrev pub sight_field : Sight → Field
sight_field sight.Missing = field.Missing
sight_field (sight.Land m) = field_by (metres_figure land m)
sight_field (sight.Sea m) = field_by (metres_figure sea m)

unfoldable pub show_indicators : Indicators → Group
show_indicators i =
    field_text 1 (field_of i.rain) ++ field_text 1 (field_of i.weather) ++ field_text 1 (base_field i.base) ++ field_text 2 (sight_field i.sight)

abbrev pub direction_field : Direction → Field
direction_field direction.Missing = field.Missing
direction_field direction.Calm = field.Number 0
direction_field direction.Variable = field.Number 99
direction_field (direction.Degrees d) = field_by (direction_figure d)

-- "A speed of 99 units or more is ff 99 and at once 00fff"; an "above" is refused, and so never written
abbrev pub speed_field : Speed → Field
speed_field speed.Missing = field.Missing
speed_field (speed.Is s) = field.Number (cond (leb 99 s) 99 s)
speed_field (speed.Above s) = field.Missing

unfoldable pub show_wind : Wind → Group
show_wind w = field_text 1 (field_of w.cover) ++ field_text 2 (direction_field w.direction) ++ field_text 2 (speed_field w.speed)

-- a speed that has to be written in 00fff
abbrev pub is_in_three : Speed → Bool
is_in_three speed.Missing = false
is_in_three (speed.Is s) = leb 99 s
is_in_three (speed.Above s) = false

abbrev pub speed_group : Speed → List Group
speed_group speed.Missing = []
speed_group (speed.Is s) = cond (leb 99 s) ((bytes "00" ++ figures 3 s) ∷ []) []
speed_group (speed.Above s) = []

-- ---- section 1

unfoldable pub show_speed : Wind → List Group
show_speed w = speed_group w.speed

-- a first figure and sTTT
abbrev pub signed_group : ℕ → Option ℤ → List Group
signed_group first None = []
signed_group first (Some t) = (first ∷ sign_text t) ∷ []

unfoldable pub show_air : Air → List Group
show_air a = signed_group 49 a.temperature

abbrev pub moist_group : Moist → List Group
moist_group moist.Missing = []
moist_group (moist.DewPoint t) = (bytes "2" ++ sign_text t) ∷ []
moist_group (moist.Humidity u) = (bytes "29" ++ figures 3 u) ∷ []

-- a dew point is written with the sign 0 or 1, a humidity with 9: no such group is the stop word 222 with two more characters
abbrev pub moisture_spoken : List Pattern
moisture_spoken = bytes "20###" ∷ bytes "21###" ∷ bytes "29###" ∷ []

unfoldable pub show_moisture : Moisture → List Group
show_moisture m = moist_group m.is

-- 1000.0 hPa and more without the first figure
abbrev pub pressure_text : ℕ → List ℕ
pressure_text p = figures 4 (p % 10000)

abbrev pub pressure_group : Option ℕ → List Group
pressure_group None = []
pressure_group (Some p) = (bytes "3" ++ pressure_text p) ∷ []

unfoldable pub show_pressure : Pressure → List Group
show_pressure p = pressure_group p.station

abbrev pub level_group : AtLevel → List Group
level_group at_level.Missing = []
level_group (at_level.Pressure p) = (bytes "4" ++ pressure_text p) ∷ []
level_group (at_level.Isobaric a h) = (bytes "4" ++ figures 1 a ++ figures 3 h) ∷ []

unfoldable pub show_level : Level → List Group
show_level l = level_group l.is

abbrev pub tendency_group : Option PressureChange → List Group
tendency_group None = []
tendency_group (Some x) = (bytes "5" ++ figures 1 x.tendency ++ figures 3 (nat_abs x.change)) ∷ []

unfoldable pub show_tendency : Tendency → List Group
show_tendency t = tendency_group t.is

-- a group that is all slashes is written only where it is required
abbrev pub if_required : Bool → Group → List Group
if_required required g = cond required (g ∷ []) []

abbrev pub rainfall_group : Bool → Option Fall → List Group
rainfall_group required None = if_required required (bytes "6////")
rainfall_group required (Some x) = (bytes "6" ++ field_text 3 (field_by (rain_figure x.amount)) ++ field_text 1 (field_of x.period)) ∷ []

unfoldable pub show_rainfall : Bool → Rainfall → List Group
show_rainfall required r = rainfall_group required r.is

unfoldable pub weather_text : Weather → Group
weather_text w = bytes "7" ++ field_text 2 (field_of w.present) ++ field_text 1 (field_of w.past) ++ field_text 1 (field_of w.past2)

unfoldable pub show_weather : Bool → Weather → List Group
show_weather required w = cond (no_weather w) (if_required required (weather_text w)) (weather_text w ∷ [])

unfoldable pub clouds_text : Clouds → Group
clouds_text c =
    bytes "8" ++ field_text 1 (field_of c.amount) ++ field_text 1 (field_of c.low) ++ field_text 1 (field_of c.middle) ++ field_text 1 (field_of c.high)

unfoldable pub show_clouds : Clouds → List Group
show_clouds c = cond (no_clouds c) [] (clouds_text c ∷ [])

abbrev pub clock_group : Option Observed → List Group
clock_group None = []
clock_group (Some x) = (bytes "9" ++ figures 2 x.hour ++ figures 2 x.minute) ∷ []

unfoldable pub show_clock : Clock → List Group
show_clock c = clock_group c.is

-- ---- section 3: 1sTTT is written as in section 1; 2sTTT, never the stop word 222 with two more characters; 8NChh

unfoldable pub show_minimum : Air → List Group
show_minimum a = signed_group 50 a.temperature

abbrev pub minimum_spoken : List Pattern
minimum_spoken = bytes "20###" ∷ bytes "21###" ∷ []

abbrev pub height_field : BaseHeight → Field
height_field height.Missing = field.Missing
height_field (height.Steps m) = field_by (metres_figure layer_steps m)
height_field (height.Bands m) = field_by (metres_figure layer_bands m)

unfoldable pub show_layer : CloudLayer → Group
show_layer l = bytes "8" ++ field_text 1 (field_of l.amount) ++ field_text 1 (field_of l.cloud) ++ field_text 2 (height_field l.height)
