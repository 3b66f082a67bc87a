-- SYNOP and SHIP: THE CAUSES for which the writer refuses a record, in the order of judging, "foreign fields first, then the others in written order, 11 before
-- 7 at each".
-- Assumes nothing.
use Rattle.std.specs.Prelude.{None, Option, Some}
use Prim.Native.Nat.{ℕ, ◌+◌}
use mathlib.Core.Path.{◌≡◌, refl}
use mathlib.Core.Bool.{Bool, true, false, cond, not, ◌&&◌, ◌||◌}
use mathlib.Core.List.{List, [], ◌∷◌, ◌++◌}
use lib.ListN.{take, drop}
use lib.Dec.{leb, eqb}
use lib.IntN.{ℤ, pos, negsuc, nat_abs}
use lib.Signed.{le_z}
use borrow.Author.Tests.{eqb-true}
use Rattle.figures.specs.Figures.{is_figure, is_letter, every}
use Rattle.text.specs.declared.kinds.Refusal.TheVariants as refusal
use Rattle.text.specs.Judge.{judge}
use Rattle.shapes.proofs.Patterns.{both}
use Rattle.scales.specs.Rounded.{rain_fits}
use Rattle.record.specs.declared.values.Direction.{Direction}
use Rattle.record.specs.declared.values.Direction.TheVariants as direction
use Rattle.record.specs.declared.values.Speed.{Speed}
use Rattle.record.specs.declared.values.Speed.TheVariants as speed
use Rattle.record.specs.declared.surface.CallSign.{CallSign}
use Rattle.record.specs.declared.surface.Position.{Position}
use Rattle.record.specs.declared.surface.Time.{Time}
use Rattle.record.specs.declared.surface.Indicators.{Indicators}
use Rattle.record.specs.declared.surface.Wind.{Wind}
use Rattle.record.specs.declared.surface.Air.{Air}
use Rattle.record.specs.declared.surface.Moisture.{Moisture}
use Rattle.record.specs.declared.surface.Pressure.{Pressure}
use Rattle.record.specs.declared.surface.Level.{Level}
use Rattle.record.specs.declared.surface.Clock.{Clock}
use Rattle.record.specs.declared.surface.AtLevel.{AtLevel}
use Rattle.record.specs.declared.surface.AtLevel.TheVariants as at_level
use Rattle.record.specs.declared.surface.PressureChange.{PressureChange}
use Rattle.record.specs.declared.surface.Tendency.{Tendency}
use Rattle.record.specs.declared.surface.Fall.{Fall}
use Rattle.record.specs.declared.surface.Rainfall.{Rainfall}
use Rattle.record.specs.declared.surface.Weather.{Weather}
use Rattle.record.specs.declared.surface.Clouds.{Clouds}
use Rattle.record.specs.declared.surface.Observed.{Observed}
use Rattle.record.specs.declared.surface.Surface.{Surface}
use Rattle.record.specs.declared.surface.CloudLayer.{CloudLayer}
use Rattle.record.specs.declared.surface.CloudLayers.{CloudLayers}
use Rattle.record.specs.declared.surface.Section3.{Section3}
use Rattle.record.specs.declared.surface.Synop.{Synop}
use Rattle.record.specs.Missing.{is_missing, no_speed, no_letters, between}
use Rattle.record.specs.SilentSurface.{no_sign, no_position, no_surface, no_weather, is_blank_layer, no_section3}
use Rattle.synop_groups.specs.Reads.{is_unit, is_level}
use Rattle.synop_groups.specs.Judge.{present_tenths, metres, is_station, sight_fits, speed_fits, wind_fits, wind_agrees, tenths_fit, moist_fits, level_fits, change_fits, change_suits, change_agrees, fall_fits, clock_fits, height_fits, layer_fits, judge_time, judge_station, judge_sign, judge_position, judge_indicators, judge_wind, judge_air, judge_moisture, judge_pressure, judge_level, judge_tendency, judge_rainfall, judge_weather, judge_clouds, judge_clock}
use Rattle.section3.specs.Row.{rises}
use Rattle.section3.specs.Write.{judge_each, judge_layers, judge_section3}
use Rattle.synop_row.specs.declared.kinds.Needs.{Needs}
use Rattle.synop_row.specs.Row.{needs_of}
use Rattle.synop.specs.Write.{foreign_blank, judge_site, judge_section, judge_surface, judge_of}
use Rattle.report_laws.proofs.Listed.{outside-its-range, required-missing, half-of-a-pair, slot-past-its-count, foreign, disagreeing, Asked, asked, unless, needed, free, named, none, one_more, twice, clear, Judges, Clears, group-judges, value-judges, in-turn, chosen, no-cause, both-clear, clear-unless, clear-needed, clear-free, clear-asked, clear-named, clear-where, counted, count-clear}

-- the fields of a record, by what they are called in the groups; a layer of section 3 by its number, from 0
pub data Field : Type 0 where
  day : Field
  hour : Field
  speed-unit : Field
  station : Field
  call-sign : Field
  latitude : Field
  longitude : Field
  position : Field
  nil : Field
  groups-after-nil : Field
  section3-after-nil : Field
  rain-indicator : Field
  weather-indicator : Field
  cloud-base : Field
  visibility : Field
  cloud-cover : Field
  wind-direction : Field
  wind-speed : Field
  wind : Field
  temperature : Field
  moisture : Field
  station-pressure : Field
  sea-level-pressure : Field
  isobaric-surface : Field
  height-of-surface : Field
  tendency : Field
  pressure-change : Field
  rain-amount : Field
  rain-period : Field
  rainfall : Field
  present-weather : Field
  past-weather : Field
  second-past-weather : Field
  weather : Field
  cloud-amount : Field
  low-clouds : Field
  middle-clouds : Field
  high-clouds : Field
  clock-hour : Field
  clock-minute : Field
  maximum : Field
  minimum : Field
  layers : Field
  amount-of-layer : ℕ → Field
  cloud-of-layer : ℕ → Field
  height-of-layer : ℕ → Field
  layer : ℕ → Field

abbrev Causes : Type 0
Causes = List (Asked Field)

-- ---- the groups through Nddff

abbrev time_causes : Time → Causes
time_causes t = (needed day (between 1 31) t.day ++ needed hour (between 0 23) t.hour) ++ needed speed-unit is_unit t.unit

time-judged : (t : Time) → Judges (judge_time t) (time_causes t)
unfolding judge_time
time-judged t =
    value-judges
    (both-clear (both-clear (clear-needed (between 1 31) t.day) (clear-needed (between 0 23) t.hour)) (clear-needed is_unit t.unit))

abbrev station_causes : Option ℕ → Causes
station_causes n = needed station is_station n

station-judged : (n : Option ℕ) → Judges (judge_station n) (station_causes n)
unfolding judge_station
station-judged n = value-judges (clear-needed is_station n)

-- "a call sign of 3 to 9 letters and figures"
abbrev name_right : ℕ → List ℕ → Bool
name_right n l = between 3 9 n && every (λ b. is_letter b || is_figure b) (take n l)

abbrev sign_causes : CallSign → Causes
sign_causes s = named call-sign (no_sign s) (name_right s.length s.letters) ++ unless (no_letters (drop s.length s.letters)) (slot-past-its-count call-sign)

sign-judged : (s : CallSign) → Judges (judge_sign s) (sign_causes s)
unfolding judge_sign
sign-judged s = value-judges (both-clear (clear-named (no_sign s) (name_right s.length s.letters) (go s.length s.letters)) (clear-unless (no_letters (drop s.length s.letters))))
  where
    go : (n : ℕ) (l : List ℕ) → (eqb n 0 && no_letters l) ≡ true → name_right n l ≡ false
    go n l e = rw (eqb-true n 0 (both (eqb n 0) (no_letters l) e).0)

-- tenths of a degree that have to be there
abbrev outside_tenths : (ℤ → Bool) → Option ℤ → Bool
outside_tenths ok None = false
outside_tenths ok (Some t) = not (ok t)

abbrev needed_tenths : Field → (ℤ → Bool) → Option ℤ → Causes
needed_tenths f ok t = asked (required-missing f) (is_missing t) ∷ asked (outside-its-range f) (outside_tenths ok t) ∷ []

clear-tenths : {f : Field} (ok : ℤ → Bool) (t : Option ℤ) → Clears refusal.Value (present_tenths ok t) (needed_tenths f ok t)
clear-tenths ok None = record { alike = one_more refl (one_more refl none); is = refl }
clear-tenths ok (Some t) = record { alike = one_more refl (one_more refl none); is = twice (ok t) }

-- "Latitude 000-900"; "a record's longitude runs from -179.9 to 180.0"
abbrev latitude_right : ℤ → Bool
latitude_right t = leb (nat_abs t) 900

abbrev longitude_right : ℤ → Bool
longitude_right t = le_z (negsuc 1798) t && le_z t (pos 1800)

abbrev position_causes : Position → Causes
position_causes p = needed_tenths latitude latitude_right p.latitude ++ needed_tenths longitude longitude_right p.longitude

position-judged : (p : Position) → Judges (judge_position p) (position_causes p)
unfolding judge_position
position-judged p =
    value-judges
    (both-clear (clear-tenths latitude_right p.latitude) (clear-tenths longitude_right p.longitude))

-- iR, ix, h and VV
abbrev indicator_causes : Indicators → Causes
indicator_causes i =
    ((needed rain-indicator (between 0 4) i.rain ++ needed weather-indicator (between 1 7) i.weather) ++ free cloud-base metres i.base)
    ++ unless (sight_fits i.sight) (outside-its-range visibility)

indicators-judged : (i : Indicators) → Judges (judge_indicators i) (indicator_causes i)
unfolding judge_indicators
indicators-judged i =
    value-judges
    (both-clear (both-clear (both-clear (clear-needed (between 0 4) i.rain) (clear-needed (between 1 7) i.weather)) (clear-free metres i.base)) (clear-unless (sight_fits i.sight)))

-- a direction without a speed, or the reverse
abbrev half_wind : Direction → Speed → Bool
half_wind direction.Missing s = not (no_speed s)
half_wind direction.Calm s = no_speed s
half_wind direction.Variable s = no_speed s
half_wind (direction.Degrees d) s = no_speed s

abbrev direction_right : Direction → Bool
direction_right direction.Missing = true
direction_right direction.Calm = true
direction_right direction.Variable = true
direction_right (direction.Degrees d) = leb d 359

-- document 02, No. 8: "any "above" in a SYNOP or SHIP" is 11
abbrev speed_strays : Speed → Bool
speed_strays speed.Missing = false
speed_strays (speed.Is s) = not (leb s 999)
speed_strays (speed.Above s) = true

abbrev flow_causes : Direction → Speed → Causes
flow_causes d s = unless (direction_right d) (outside-its-range wind-direction) ++ (asked (half-of-a-pair wind) (half_wind d s) ∷ asked (outside-its-range wind-speed) (speed_strays s) ∷ [])

-- "A zero speed with dd not 00, or the reverse, is 7."
abbrev wind_causes : Wind → Causes
wind_causes w = (free cloud-cover (between 0 9) w.cover ++ flow_causes w.direction w.speed) ++ unless (wind_agrees w.direction w.speed) (disagreeing wind)

flow-clear : (d : Direction) (s : Speed) → Clears refusal.Value (wind_fits d s) (flow_causes d s)
flow-clear d s = record { alike = one_more refl (one_more refl (one_more refl none)); is = go d s }
  where
    beside : (b : Bool) (s : Speed) → (b && speed_fits s) ≡ (not (not b) && (not (no_speed s) && (not (speed_strays s) && true)))
    beside false s = refl
    beside true speed.Missing = refl
    beside true (speed.Is s) = twice (leb s 999)
    beside true (speed.Above s) = refl

    alone : (s : Speed) → no_speed s ≡ (not (not (no_speed s)) && (not (speed_strays s) && true))
    alone speed.Missing = refl
    alone (speed.Is s) = refl
    alone (speed.Above s) = refl

    go : (d : Direction) (s : Speed) → wind_fits d s ≡ clear (flow_causes d s)
    go direction.Missing s = alone s
    go direction.Calm s = beside true s
    go direction.Variable s = beside true s
    go (direction.Degrees d) s = beside (leb d 359) s

wind-judged : (w : Wind) → Judges (judge_wind w) (wind_causes w)
unfolding judge_wind
wind-judged w =
    group-judges
    (both-clear (clear-free (between 0 9) w.cover) (flow-clear w.direction w.speed))
    (clear-unless {c = disagreeing wind} (wind_agrees w.direction w.speed))

-- ---- section 1

-- the temperature; in section 3 the maximum and the minimum
abbrev air_causes : Field → Air → Causes
air_causes f a = unless (tenths_fit a.temperature) (outside-its-range f)

air-judged : (f : Field) (a : Air) → Judges (judge_air a) (air_causes f a)
unfolding judge_air
air-judged f a = value-judges (clear-unless (tenths_fit a.temperature))

abbrev moisture_causes : Moisture → Causes
moisture_causes m = unless (moist_fits m.is) (outside-its-range moisture)

moisture-judged : (m : Moisture) → Judges (judge_moisture m) (moisture_causes m)
unfolding judge_moisture
moisture-judged m = value-judges (clear-unless (moist_fits m.is))

abbrev pressure_causes : Pressure → Causes
pressure_causes p = free station-pressure (between 1000 10999) p.station

pressure-judged : (p : Pressure) → Judges (judge_pressure p) (pressure_causes p)
unfolding judge_pressure
pressure-judged p = value-judges (clear-free (between 1000 10999) p.station)

-- sea-level pressure, or an isobaric surface and its height
abbrev level_causes : AtLevel → Causes
level_causes at_level.Missing = []
level_causes (at_level.Pressure p) = unless (between 9000 10999 p) (outside-its-range sea-level-pressure)
level_causes (at_level.Isobaric a h) = unless (is_level a) (outside-its-range isobaric-surface) ++ unless (leb h 999) (outside-its-range height-of-surface)

level-judged : (l : Level) → Judges (judge_level l) (level_causes l.is)
unfolding judge_level
level-judged l = go l.is
  where
    go : (x : AtLevel) → Judges (judge (level_fits x) true) (level_causes x)
    go at_level.Missing = no-cause
    go (at_level.Pressure p) = value-judges (clear-unless (between 9000 10999 p))
    go (at_level.Isobaric a h) = value-judges (both-clear (clear-unless (is_level a)) (clear-unless (leb h 999)))

-- "In a record a change against a is 7."
abbrev tendency_causes : Option PressureChange → Causes
tendency_causes None = []
tendency_causes (Some x) =
    (unless (leb x.tendency 8) (outside-its-range tendency) ++ unless (leb (nat_abs x.change) 999) (outside-its-range pressure-change)) ++ unless (change_suits x.tendency x.change) (disagreeing tendency)

tendency-judged : (t : Tendency) → Judges (judge_tendency t) (tendency_causes t.is)
unfolding judge_tendency
tendency-judged t = go t.is
  where
    go : (x : Option PressureChange) → Judges (judge (change_fits x) (change_agrees x)) (tendency_causes x)
    go None = no-cause
    go (Some x) =
        group-judges
        (both-clear (clear-unless (leb x.tendency 8)) (clear-unless (leb (nat_abs x.change) 999))) (clear-unless {c = disagreeing tendency} (change_suits x.tendency x.change))

-- an amount and its period, which may be missing; and whether iR forbids the group
abbrev rain_causes : Bool → Option Fall → Causes
rain_causes forbidden None = []
rain_causes forbidden (Some x) = (unless (rain_fits x.amount) (outside-its-range rain-amount) ++ free rain-period (between 0 9) x.period) ++ asked (disagreeing rainfall) forbidden ∷ []

rainfall-judged : (forbidden : Bool) (r : Rainfall) → Judges (judge_rainfall forbidden r) (rain_causes forbidden r.is)
unfolding judge_rainfall
rainfall-judged forbidden r = go r.is
  where
    forbids : (b : Bool) → Clears refusal.Disagreement (not b || false) (asked (disagreeing rainfall) b ∷ [])
    forbids true = record { alike = one_more refl none; is = refl }
    forbids false = record { alike = one_more refl none; is = refl }

    allowed : (b : Bool) → Judges {F = Field} (judge true (not b || true)) []
    allowed true = no-cause
    allowed false = no-cause

    go : (x : Option Fall) → Judges (judge (fall_fits x) (not forbidden || is_missing x)) (rain_causes forbidden x)
    go None = allowed forbidden
    go (Some x) =
        group-judges
        (both-clear (clear-unless (rain_fits x.amount)) (clear-free (between 0 9) x.period)) (forbids forbidden)

-- and whether ix forbids the group
abbrev weather_causes : Bool → Weather → Causes
weather_causes forbidden w =
    ((free present-weather (between 0 99) w.present ++ free past-weather (between 0 9) w.past) ++ free second-past-weather (between 0 9) w.past2)
    ++ unless (not forbidden || no_weather w) (disagreeing weather)

weather-judged : (forbidden : Bool) (w : Weather) → Judges (judge_weather forbidden w) (weather_causes forbidden w)
unfolding judge_weather
weather-judged forbidden w =
    group-judges
    (both-clear (both-clear (clear-free (between 0 99) w.present) (clear-free (between 0 9) w.past)) (clear-free (between 0 9) w.past2))
    (clear-unless {c = disagreeing weather} (not forbidden || no_weather w))

abbrev cloud_causes : Clouds → Causes
cloud_causes c =
    ((free cloud-amount (between 0 9) c.amount ++ free low-clouds (between 0 9) c.low) ++ free middle-clouds (between 0 9) c.middle) ++ free high-clouds (between 0 9) c.high

clouds-judged : (c : Clouds) → Judges (judge_clouds c) (cloud_causes c)
unfolding judge_clouds
clouds-judged c =
    value-judges
    (both-clear (both-clear (both-clear (clear-free (between 0 9) c.amount) (clear-free (between 0 9) c.low)) (clear-free (between 0 9) c.middle)) (clear-free (between 0 9) c.high))

abbrev clock_causes : Option Observed → Causes
clock_causes None = []
clock_causes (Some x) = unless (leb x.hour 23) (outside-its-range clock-hour) ++ unless (leb x.minute 59) (outside-its-range clock-minute)

clock-judged : (c : Clock) → Judges (judge_clock c) (clock_causes c.is)
unfolding judge_clock
clock-judged c = go c.is
  where
    go : (x : Option Observed) → Judges (judge (clock_fits x) true) (clock_causes x)
    go None = no-cause
    go (Some x) = value-judges (both-clear (clear-unless (leb x.hour 23)) (clear-unless (leb x.minute 59)))

-- ---- section 3

-- a layer, after those before it: "a record's layer all missing is 11"; "heights within one scale that fall are 7"
abbrev layer_causes : List CloudLayer → ℕ → CloudLayer → Causes
layer_causes before n l =
    ((((asked (required-missing (layer n)) (is_blank_layer l) ∷ []) ++ free (amount-of-layer n) (between 0 9) l.amount) ++ free (cloud-of-layer n) (between 0 9) l.cloud)
    ++ unless (height_fits l.height) (outside-its-range (height-of-layer n)))
    ++ unless (rises before l) (disagreeing (layer n))

layer-judged : (before : List CloudLayer) (n : ℕ) (l : CloudLayer) → Judges (judge (layer_fits l) (rises before l)) (layer_causes before n l)
unfolding layer_fits
layer-judged before n l =
    group-judges
    (both-clear (both-clear (both-clear (clear-asked (is_blank_layer l)) (clear-free (between 0 9) l.amount)) (clear-free (between 0 9) l.cloud)) (clear-unless (height_fits l.height)))
    (clear-unless {c = disagreeing (layer n)} (rises before l))

abbrev each_layer : List CloudLayer → ℕ → List CloudLayer → Causes
each_layer before n [] = []
each_layer before n (l ∷ ls) = layer_causes before n l ++ each_layer (before ++ (l ∷ [])) (n + 1) ls

each-layer : (before : List CloudLayer) (n : ℕ) (ls : List CloudLayer) → Judges (judge_each before ls) (each_layer before n ls)
each-layer before n [] = no-cause
each-layer before n (l ∷ ls) = in-turn (layer-judged before n l) (each-layer (before ++ (l ∷ [])) (n + 1) ls)

abbrev layers_causes : CloudLayers → Causes
layers_causes ls = counted layers (leb ls.count 4) (every is_blank_layer (drop ls.count ls.items)) ++ each_layer [] 0 (take ls.count ls.items)

layers-judged : (ls : CloudLayers) → Judges (judge_layers ls) (layers_causes ls)
unfolding judge_layers
layers-judged ls =
    in-turn (value-judges (count-clear (leb ls.count 4) (every is_blank_layer (drop ls.count ls.items)))) (each-layer [] 0 (take ls.count ls.items))

abbrev pub section3_causes : Section3 → Causes
section3_causes s = air_causes maximum s.maximum ++ (air_causes minimum s.minimum ++ layers_causes s.layers)

pub section3-judged : (s : Section3) → Judges (judge_section3 s) (section3_causes s)
unfolding judge_section3
section3-judged s = in-turn (air-judged maximum s.maximum) (in-turn (air-judged minimum s.minimum) (layers-judged s.layers))

-- ---- the record

-- "a field foreign to the kind (or to NIL, CNL) that is not blank": a land report has no call sign and no position, a ship no station number and no NIL; a NIL
-- report has nothing after its station
abbrev foreign_causes : Synop → Causes
foreign_causes r =
    cond r.ship
    (unless (is_missing r.site.station) (foreign station) ++ asked (foreign nil) r.site.nil ∷ [])
    (unless (no_sign r.site.sign) (foreign call-sign) ++ unless (no_position r.site.position) (foreign position))
    ++ cond r.site.nil (unless (no_surface r.surface) (foreign groups-after-nil) ++ unless (no_section3 r.section3) (foreign section3-after-nil)) []

foreign-judged : (r : Synop) → Judges (judge (foreign_blank r) true) (foreign_causes r)
unfolding foreign_blank
foreign-judged r = value-judges (both-clear (go r.ship) (clear-where r.site.nil (both-clear (clear-unless (no_surface r.surface)) (clear-unless (no_section3 r.section3)))))
  where
    go : (ship : Bool) → Clears refusal.Value (cond ship (is_missing r.site.station && not r.site.nil) (no_sign r.site.sign && no_position r.site.position))
        (cond ship (unless (is_missing r.site.station) (foreign station) ++ asked (foreign nil) r.site.nil ∷ []) (unless (no_sign r.site.sign) (foreign call-sign) ++ unless (no_position r.site.position) (foreign position)))
    go true = both-clear (clear-unless (is_missing r.site.station)) (clear-asked r.site.nil)
    go false = both-clear (clear-unless (no_sign r.site.sign)) (clear-unless (no_position r.site.position))

abbrev site_causes : Synop → Causes
site_causes r =
    cond r.ship (sign_causes r.site.sign ++ (time_causes r.site.time ++ position_causes r.site.position))
    (time_causes r.site.time ++ station_causes r.site.station)

site-judged : (r : Synop) → Judges (judge_site r) (site_causes r)
unfolding judge_site
site-judged r =
    chosen r.ship (in-turn (sign-judged r.site.sign) (in-turn (time-judged r.site.time) (position-judged r.site.position)))
    (in-turn (time-judged r.site.time) (station-judged r.site.station))

abbrev section_causes : Needs → Surface → Causes
section_causes n s =
    air_causes temperature s.air
    ++ (moisture_causes s.moisture
    ++ (pressure_causes s.pressure
    ++ (level_causes s.level.is
    ++ (tendency_causes s.tendency.is
    ++ (rain_causes (not n.rain) s.rainfall.is
    ++ (weather_causes (not n.weather) s.weather ++ (cloud_causes s.clouds ++ clock_causes s.clock.is)))))))

section-judged : (n : Needs) (s : Surface) → Judges (judge_section n s) (section_causes n s)
unfolding judge_section
section-judged n s =
    in-turn (air-judged temperature s.air)
    (in-turn (moisture-judged s.moisture)
    (in-turn (pressure-judged s.pressure)
    (in-turn (level-judged s.level)
    (in-turn (tendency-judged s.tendency)
    (in-turn (rainfall-judged (not n.rain) s.rainfall)
    (in-turn (weather-judged (not n.weather) s.weather) (in-turn (clouds-judged s.clouds) (clock-judged s.clock))))))))

abbrev surface_causes : Surface → Causes
surface_causes s = indicator_causes s.indicators ++ (wind_causes s.wind ++ section_causes (needs_of s) s)

surface-judged : (s : Surface) → Judges (judge_surface s) (surface_causes s)
unfolding judge_surface
surface-judged s = in-turn (indicators-judged s.indicators) (in-turn (wind-judged s.wind) (section-judged (needs_of s) s))

-- "The writer judges foreign fields first, then the others in written order, 11 before 7 at each"
abbrev pub causes_of : Synop → Causes
causes_of r = foreign_causes r ++ (site_causes r ++ cond r.site.nil [] (surface_causes r.surface ++ section3_causes r.section3))

-- so every record is judged
pub record-judged : (r : Synop) → Judges (judge_of r) (causes_of r)
unfolding judge_of
record-judged r = in-turn (foreign-judged r) (in-turn (site-judged r) (chosen r.site.nil no-cause (in-turn (surface-judged r.surface) (section3-judged r.section3))))
