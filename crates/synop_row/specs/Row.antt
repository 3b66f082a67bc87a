-- Section 1 of SYNOP and SHIP after Nddff as a row of places: "in this order; the first two are required, the rest follow by rising first figure",
-- 00fff at once after Nddff. What iR, ix and ff said before decides which places must have a group and which must not.
-- Assumes nothing: these are definitions.
use Rattle.std.specs.Prelude.{ℕ, Bool, false, not, ◌||◌, List, [], ◌∷◌, eqb, Err, None, Ok, Option, Result, Some}
use Rattle.text.specs.declared.kinds.Refusal.{Refusal}
use Prim.Native.String.{String}
use Rattle.figures.specs.Quote.{bytes}
use Rattle.shapes.specs.Pattern.{Pattern, has_pattern}
use Rattle.places.specs.Engine.{Group, Place}
use Rattle.record.specs.declared.values.Speed.{Speed}
use Rattle.record.specs.declared.values.Speed.TheVariants as speed
use Rattle.record.specs.declared.surface.Surface.{Surface}
use Rattle.record.specs.Set.{set_indicators, set_wind, set_air, set_moisture, set_pressure, set_level, set_tendency, set_rainfall, set_weather, set_clouds, set_clock}
use Rattle.synop_groups.specs.declared.kinds.Said.{Said}
use Rattle.synop_groups.specs.declared.kinds.Said.TheVariants as said
use Rattle.synop_groups.specs.Reads.{said_speed, said_air, said_moisture, said_pressure, said_level, said_tendency, said_rainfall, said_weather, said_clouds, said_clock}
use Rattle.synop_groups.specs.Shows.{is_in_three, moisture_spoken, show_speed, show_air, show_moisture, show_pressure, show_level, show_tendency, show_rainfall, show_weather, show_clouds, show_clock}
use Rattle.synop_groups.specs.Classes.{class_rainfall}
use Rattle.synop_row.specs.declared.kinds.Needs.{Needs}

-- What iR, ix and ff say of the groups to come: "iR 0 or 1 requires the 6 group, ix 1, 4 or 7 the 7 group (absent: 8); other figures forbid it"; "ff 99
-- without [00fff] is 8".
abbrev pub rain_due : ℕ → Bool
rain_due r = eqb r 0 || eqb r 1

abbrev pub weather_due : ℕ → Bool
weather_due x = eqb x 1 || eqb x 4 || eqb x 7

abbrev pub figure_is : (ℕ → Bool) → Option ℕ → Bool
figure_is test None = false
figure_is test (Some n) = test n

unfoldable pub needs_of : Surface → Needs
needs_of s =
    record {
      rain = figure_is rain_due s.indicators.rain;
      weather = figure_is weather_due s.indicators.weather;
      speed = is_in_three s.wind.speed;
    }

-- 00fff gives the wind its speed
abbrev pub set_speed : Speed → Surface → Surface
set_speed x s = set_wind (record { cover = s.wind.cover; direction = s.wind.direction; speed = x }) s

-- the surface with what a group says, or the group's refusal; what names the place and time, and a layer of section 3, is no part of it
unfoldable pub with_said : Said → Surface → Result Surface Refusal
with_said (said.Refused f) s = Err f
with_said (said.Time t) s = Ok s
with_said (said.Station n) s = Ok s
with_said (said.Position p) s = Ok s
with_said (said.Indicators i) s = Ok (set_indicators i s)
with_said (said.Wind w) s = Ok (set_wind w s)
with_said (said.Speed n) s = Ok (set_speed (speed.Is n) s)
with_said (said.Air a) s = Ok (set_air a s)
with_said (said.Moisture m) s = Ok (set_moisture m s)
with_said (said.Pressure p) s = Ok (set_pressure p s)
with_said (said.Level l) s = Ok (set_level l s)
with_said (said.Tendency t) s = Ok (set_tendency t s)
with_said (said.Rainfall r) s = Ok (set_rainfall r s)
with_said (said.Weather w) s = Ok (set_weather w s)
with_said (said.Clouds c) s = Ok (set_clouds c s)
with_said (said.Clock c) s = Ok (set_clock c s)
with_said (said.Layer l) s = Ok s

-- a place for one group: its pattern, the patterns of what is written there, whether a group must stand there, what the group says, how it is written,
-- and what it is read back as
abbrev pub place_for : String → List Pattern → Bool → (Group → Said) → (Surface → List Group) → (Surface → Surface → Surface) → Place Surface
place_for shape spoken must says show put =
    record {
      has = λ g. has_pattern g (bytes shape);
      cover = bytes shape ∷ [];
      spoken = spoken;
      most = 1;
      must = must;
      ends = false;
      read = λ k g s. with_said (says g) s;
      show = show;
      put = put;
    }

unfoldable pub row : Needs → List (Place Surface)
row n =
    place_for "00###" (bytes "00###" ∷ []) n.speed (said_speed n.speed) (λ s. show_speed s.wind) (λ s acc. set_speed s.wind.speed acc)
    ∷ place_for "1####" (bytes "1####" ∷ []) false said_air (λ s. show_air s.air) (λ s acc. set_air s.air acc)
    ∷ place_for "2####" moisture_spoken false said_moisture (λ s. show_moisture s.moisture) (λ s acc. set_moisture s.moisture acc)
    ∷ place_for "3####" (bytes "3####" ∷ []) false said_pressure (λ s. show_pressure s.pressure) (λ s acc. set_pressure s.pressure acc)
    ∷ place_for "4####" (bytes "4####" ∷ []) false said_level (λ s. show_level s.level) (λ s acc. set_level s.level acc)
    ∷ place_for "5####" (bytes "5####" ∷ []) false said_tendency (λ s. show_tendency s.tendency) (λ s acc. set_tendency s.tendency acc)
    ∷ place_for "6####" (bytes "6####" ∷ []) n.rain (said_rainfall (not n.rain)) (λ s. show_rainfall n.rain s.rainfall) (λ s acc. set_rainfall (class_rainfall s.rainfall) acc)
    ∷ place_for "7####" (bytes "7####" ∷ []) n.weather (said_weather (not n.weather)) (λ s. show_weather n.weather s.weather) (λ s acc. set_weather s.weather acc)
    ∷ place_for "8####" (bytes "8####" ∷ []) false said_clouds (λ s. show_clouds s.clouds) (λ s acc. set_clouds s.clouds acc)
    ∷ place_for "9####" (bytes "9####" ∷ []) false said_clock (λ s. show_clock s.clock) (λ s acc. set_clock s.clock acc)
    ∷ []

-- "once Nddff has stood, reading stops at 222 with two more characters, 333, 444 or 555"
unfoldable pub stop_words : List Pattern
stop_words = bytes "222??" ∷ bytes "333" ∷ bytes "444" ∷ bytes "555" ∷ []

-- document 02, No. 10: "Group 333 no longer stops reading": section 1 ends there, and section 3 follows
abbrev pub section3_word : Pattern
section3_word = bytes "333"
