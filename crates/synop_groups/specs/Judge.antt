-- What the writer judges of each group, 11 before 7: "a value outside its range, a bad name, a required one missing, half of a pair, a count over its
-- limit, a slot past its count" are 11; "agreement being judged on the figures it would write".
-- Assumes nothing: these are definitions.
use Rattle.std.specs.Prelude.{⊤, ℕ, Bool, true, false, cond, not, ◌&&◌, ◌||◌, take, drop, leb, ltb, eqb, ℤ, pos, negsuc, nat_abs, None, Option, Result, Some}
use Rattle.text.specs.declared.kinds.Refusal.{Refusal}
use Rattle.std.specs.Int.Signed.{le_z}
use Rattle.figures.specs.Figures.{is_figure, is_letter, every}
use Rattle.figures.specs.Signed.{negative}
use Rattle.text.specs.Judge.{judge}
use Rattle.scales.specs.Rounded.{rain_fits}
use Rattle.record.specs.declared.values.Direction.{Direction}
use Rattle.record.specs.declared.values.Direction.TheVariants as direction
use Rattle.record.specs.declared.values.Speed.{Speed}
use Rattle.record.specs.declared.values.Speed.TheVariants as speed
use Rattle.record.specs.declared.surface.CallSign.{CallSign}
use Rattle.record.specs.declared.surface.Position.{Position}
use Rattle.record.specs.declared.surface.Time.{Time}
use Rattle.record.specs.declared.surface.Sight.{Sight}
use Rattle.record.specs.declared.surface.Sight.TheVariants as sight
use Rattle.record.specs.declared.surface.Indicators.{Indicators}
use Rattle.record.specs.declared.surface.Wind.{Wind}
use Rattle.record.specs.declared.surface.Air.{Air}
use Rattle.record.specs.declared.surface.Moist.{Moist}
use Rattle.record.specs.declared.surface.Moist.TheVariants as moist
use Rattle.record.specs.declared.surface.Moisture.{Moisture}
use Rattle.record.specs.declared.surface.Pressure.{Pressure}
use Rattle.record.specs.declared.surface.AtLevel.{AtLevel}
use Rattle.record.specs.declared.surface.AtLevel.TheVariants as at_level
use Rattle.record.specs.declared.surface.Level.{Level}
use Rattle.record.specs.declared.surface.PressureChange.{PressureChange}
use Rattle.record.specs.declared.surface.Tendency.{Tendency}
use Rattle.record.specs.declared.surface.Fall.{Fall}
use Rattle.record.specs.declared.surface.Rainfall.{Rainfall}
use Rattle.record.specs.declared.surface.Weather.{Weather}
use Rattle.record.specs.declared.surface.Clouds.{Clouds}
use Rattle.record.specs.declared.surface.Observed.{Observed}
use Rattle.record.specs.declared.surface.Clock.{Clock}
use Rattle.record.specs.declared.surface.BaseHeight.{BaseHeight}
use Rattle.record.specs.declared.surface.BaseHeight.TheVariants as height
use Rattle.record.specs.declared.surface.CloudLayer.{CloudLayer}
use Rattle.synop_groups.specs.Reads.{is_unit, is_level, agree}
use Rattle.record.specs.Missing.{is_missing, between, present, optional, no_speed, is_still, no_letters}
use Rattle.record.specs.SilentSurface.{no_weather, is_blank_layer}

-- ---- ranges

abbrev pub present_tenths : (ℤ → Bool) → Option ℤ → Bool
present_tenths ok None = false
present_tenths ok (Some t) = ok t

-- "0 to 99,999 may be written"
abbrev pub metres : ℕ → Bool
metres m = leb m 99999

abbrev pub unit_fits : Option ℕ → Bool
unit_fits = present is_unit

-- ---- the groups through Nddff

unfoldable pub judge_time : Time → Result ⊤ Refusal
judge_time t = judge (present (between 1 31) t.day && present (between 0 23) t.hour && unit_fits t.unit) true

-- IIiii is 00000 to 99999
abbrev pub is_station : ℕ → Bool
is_station = between 0 99999

unfoldable pub judge_station : Option ℕ → Result ⊤ Refusal
judge_station n = judge (present is_station n) true

-- a slot of a name: a letter or figure up to the count, blank past it
abbrev pub slot_fits : Bool → ℕ → Bool
slot_fits filled b = cond filled (is_letter b || is_figure b) (eqb b 0)

-- "a call sign of 3 to 9 letters and figures"; "a slot past its count .. that is not blank"
unfoldable pub judge_sign : CallSign → Result ⊤ Refusal
judge_sign s =
    judge
    (between 3 9 s.length
    && every (λ b. is_letter b || is_figure b) (take s.length s.letters)
    && no_letters (drop s.length s.letters))
    true

-- "Latitude 000-900"; "a record's longitude runs from -179.9 to 180.0"
abbrev pub latitude_fits : Option ℤ → Bool
latitude_fits = present_tenths (λ t. leb (nat_abs t) 900)

abbrev pub longitude_fits : Option ℤ → Bool
longitude_fits = present_tenths (λ t. le_z (negsuc 1798) t && le_z t (pos 1800))

unfoldable pub judge_position : Position → Result ⊤ Refusal
judge_position p = judge (latitude_fits p.latitude && longitude_fits p.longitude) true

abbrev pub sight_fits : Sight → Bool
sight_fits sight.Missing = true
sight_fits (sight.Land m) = metres m
sight_fits (sight.Sea m) = metres m

unfoldable pub judge_indicators : Indicators → Result ⊤ Refusal
judge_indicators i =
    judge (present (between 0 4) i.rain && present (between 1 7) i.weather && optional metres i.base && sight_fits i.sight) true

-- the speed beside a direction that is not missing; document 02, No. 8: "any "above" in a SYNOP or SHIP" is 11
abbrev pub speed_fits : Speed → Bool
speed_fits speed.Missing = false
speed_fits (speed.Is s) = leb s 999
speed_fits (speed.Above s) = false

-- direction and speed in range, missing together; "A zero speed with dd not 00, or the reverse, is 7."
abbrev pub wind_fits : Direction → Speed → Bool
wind_fits direction.Missing s = no_speed s
wind_fits direction.Calm s = speed_fits s
wind_fits direction.Variable s = speed_fits s
wind_fits (direction.Degrees d) s = leb d 359 && speed_fits s

abbrev pub wind_agrees : Direction → Speed → Bool
wind_agrees direction.Missing s = true
wind_agrees direction.Calm s = agree true (is_still s)
wind_agrees direction.Variable s = agree false (is_still s)
wind_agrees (direction.Degrees d) s = agree false (is_still s)

unfoldable pub judge_wind : Wind → Result ⊤ Refusal
judge_wind w = judge (optional (between 0 9) w.cover && wind_fits w.direction w.speed) (wind_agrees w.direction w.speed)

-- ---- section 1

abbrev pub tenths_fit : Option ℤ → Bool
tenths_fit None = true
tenths_fit (Some t) = leb (nat_abs t) 999

unfoldable pub judge_air : Air → Result ⊤ Refusal
judge_air a = judge (tenths_fit a.temperature) true

abbrev pub moist_fits : Moist → Bool
moist_fits moist.Missing = true
moist_fits (moist.DewPoint t) = leb (nat_abs t) 999
moist_fits (moist.Humidity u) = leb u 100

unfoldable pub judge_moisture : Moisture → Result ⊤ Refusal
judge_moisture m = judge (moist_fits m.is) true

unfoldable pub judge_pressure : Pressure → Result ⊤ Refusal
judge_pressure p = judge (optional (between 1000 10999) p.station) true

abbrev pub level_fits : AtLevel → Bool
level_fits at_level.Missing = true
level_fits (at_level.Pressure p) = between 9000 10999 p
level_fits (at_level.Isobaric a h) = is_level a && leb h 999

unfoldable pub judge_level : Level → Result ⊤ Refusal
judge_level l = judge (level_fits l.is) true

abbrev pub change_fits : Option PressureChange → Bool
change_fits None = true
change_fits (Some x) = leb x.tendency 8 && leb (nat_abs x.change) 999

-- "In a record a change against a is 7."
abbrev pub change_suits : ℕ → ℤ → Bool
change_suits a c = cond (ltb a 4) (not (negative c)) (cond (eqb a 4) (eqb (nat_abs c) 0) (negative c || eqb (nat_abs c) 0))

abbrev pub change_agrees : Option PressureChange → Bool
change_agrees None = true
change_agrees (Some x) = change_suits x.tendency x.change

unfoldable pub judge_tendency : Tendency → Result ⊤ Refusal
judge_tendency t = judge (change_fits t.is) (change_agrees t.is)

abbrev pub fall_fits : Option Fall → Bool
fall_fits None = true
fall_fits (Some x) = rain_fits x.amount && optional (between 0 9) x.period

-- forbidden: iR is not 0 or 1
unfoldable pub judge_rainfall : Bool → Rainfall → Result ⊤ Refusal
judge_rainfall forbidden r = judge (fall_fits r.is) (not forbidden || is_missing r.is)

-- forbidden: ix is not 1, 4 or 7
unfoldable pub judge_weather : Bool → Weather → Result ⊤ Refusal
judge_weather forbidden w =
    judge (optional (between 0 99) w.present && optional (between 0 9) w.past && optional (between 0 9) w.past2) (not forbidden || no_weather w)

unfoldable pub judge_clouds : Clouds → Result ⊤ Refusal
judge_clouds c =
    judge
    (optional (between 0 9) c.amount && optional (between 0 9) c.low && optional (between 0 9) c.middle && optional (between 0 9) c.high)
    true

abbrev pub clock_fits : Option Observed → Bool
clock_fits None = true
clock_fits (Some x) = leb x.hour 23 && leb x.minute 59

unfoldable pub judge_clock : Clock → Result ⊤ Refusal
judge_clock c = judge (clock_fits c.is) true

-- ---- a layer of section 3: "a record's layer all missing is 11"

abbrev pub height_fits : BaseHeight → Bool
height_fits height.Missing = true
height_fits (height.Steps m) = metres m
height_fits (height.Bands m) = metres m

unfoldable pub layer_fits : CloudLayer → Bool
layer_fits l = not (is_blank_layer l) && optional (between 0 9) l.amount && optional (between 0 9) l.cloud && height_fits l.height
