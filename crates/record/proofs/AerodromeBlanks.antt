-- A part of a METAR, SPECI or TAF of which nothing is said is the blank one.
-- Assumes nothing.
use Rattle.std.specs.Prelude.{None, Option, Some}
use mathlib.Core.Path.{◌≡◌, refl}
use mathlib.Core.Bool.{true, false, false≢true}
use lib.ListN.{length}
use borrow.Author.Tests.{eqb-true, not-true}
use Rattle.figures.proofs.Every.{every-is}
use Rattle.shapes.proofs.Patterns.{both}
use Rattle.record.specs.Missing.{is_missing}
use Rattle.record.specs.declared.values.Direction.TheVariants as direction
use Rattle.record.specs.declared.values.Speed.TheVariants as speed
use Rattle.record.specs.declared.aerodrome.Unit.{Unit}
use Rattle.record.specs.declared.aerodrome.Unit.TheVariants as unit
use Rattle.record.specs.declared.aerodrome.Wind.{Wind}
use Rattle.record.specs.declared.aerodrome.Extremes.{Extremes}
use Rattle.record.specs.declared.aerodrome.View.{View}
use Rattle.record.specs.declared.aerodrome.View.TheVariants as view
use Rattle.record.specs.declared.aerodrome.Visibility.{Visibility}
use Rattle.record.specs.declared.aerodrome.Body.{Body}
use Rattle.record.specs.declared.aerodrome.Side.{Side}
use Rattle.record.specs.declared.aerodrome.Side.TheVariants as side
use Rattle.record.specs.declared.aerodrome.Course.{Course}
use Rattle.record.specs.declared.aerodrome.Course.TheVariants as course
use Rattle.record.specs.declared.aerodrome.Runway.{Runway}
use Rattle.record.specs.declared.aerodrome.Runways.{Runways}
use Rattle.record.specs.declared.aerodrome.Depth.{Depth}
use Rattle.record.specs.declared.aerodrome.Depth.TheVariants as depth
use Rattle.record.specs.declared.aerodrome.Condition.{Condition}
use Rattle.record.specs.declared.aerodrome.Condition.TheVariants as condition
use Rattle.record.specs.declared.aerodrome.RunwayState.{RunwayState}
use Rattle.record.specs.declared.aerodrome.RunwayStates.{RunwayStates}
use Rattle.record.specs.declared.aerodrome.Phenomena.{Phenomena}
use Rattle.record.specs.declared.aerodrome.Weather.{Weather}
use Rattle.record.specs.declared.aerodrome.Weathers.{Weathers}
use Rattle.record.specs.declared.aerodrome.Amount.{Amount}
use Rattle.record.specs.declared.aerodrome.Amount.TheVariants as amount
use Rattle.record.specs.declared.aerodrome.Convective.{Convective}
use Rattle.record.specs.declared.aerodrome.Convective.TheVariants as convective
use Rattle.record.specs.declared.aerodrome.Layer.{Layer}
use Rattle.record.specs.declared.aerodrome.Cover.{Cover}
use Rattle.record.specs.declared.aerodrome.Cover.TheVariants as cover
use Rattle.record.specs.declared.aerodrome.Sky.{Sky}
use Rattle.record.specs.declared.aerodrome.Temperatures.{Temperatures}
use Rattle.record.specs.declared.aerodrome.Station.{Station}
use Rattle.record.specs.declared.aerodrome.Instant.{Instant}
use Rattle.record.specs.declared.aerodrome.Period.{Period}
use Rattle.record.specs.declared.aerodrome.Correction.{Correction}
use Rattle.record.specs.declared.aerodrome.Correction.TheVariants as correction
use Rattle.record.specs.declared.aerodrome.Opening.{Opening}
use Rattle.record.specs.declared.aerodrome.Opening.TheVariants as opening
use Rattle.record.specs.declared.aerodrome.Leg.{Leg}
use Rattle.record.specs.declared.aerodrome.Change.{Change}
use Rattle.record.specs.declared.aerodrome.Observation.{Observation}
use Rattle.record.specs.declared.aerodrome.Hours.{Hours}
use Rattle.record.specs.declared.aerodrome.Hours.TheVariants as hours
use Rattle.record.specs.declared.aerodrome.Tendency.{Tendency}
use Rattle.record.specs.declared.aerodrome.Tendency.TheVariants as tendency
use Rattle.record.specs.declared.aerodrome.TrendChange.{TrendChange}
use Rattle.record.specs.declared.aerodrome.Trend.{Trend}
use Rattle.record.specs.declared.aerodrome.Metar.{Metar}
use Rattle.record.specs.declared.aerodrome.Edition.{Edition}
use Rattle.record.specs.declared.aerodrome.Edition.TheVariants as edition
use Rattle.record.specs.declared.aerodrome.Taf.{Taf}
use Rattle.record.specs.Body.{blank_weather, blank_weathers, blank_layer, blank_sky, blank_wind, blank_visibility, blank_body}
use Rattle.record.specs.Observation.{blank_runway, blank_runways, blank_state, blank_states, blank_observation}
use Rattle.record.specs.Trend.{blank_trend_change, blank_trend, blank_metar}
use Rattle.record.specs.Taf.{blank_instant, blank_period, blank_leg, blank_change, blank_taf}
use Rattle.record.proofs.Counted.{blank-each}
use Rattle.record.specs.Arrays.{BodyArrays, ObservationArrays, TrendArrays, MetarArrays, TafArrays}
use Rattle.record.specs.SilentAerodrome.{no_unit, is_blank_wind, no_view, no_side, no_course, is_blank_runway, no_runways, no_depth, no_condition, is_blank_state, no_states, is_blank_weather, no_weathers}
use Rattle.record.specs.SilentAerodrome.{no_amount, no_convective, is_blank_layer, is_layers, no_sky, no_temperatures, no_station, no_instant, no_period, no_correction, no_opening}
use Rattle.record.specs.SilentAerodrome.{is_blank_body, no_head, is_blank_change, no_observation, is_blank_observation, no_hours, no_tendency, is_blank_trend_change, no_trend, is_blank_metar, is_present, is_same_edition, is_blank_taf}
use Rattle.record.proofs.Blanks.{none-said, direction-blank, speed-blank, letters-blank}

-- ---- wind, visibility, runways

unit-blank : (u : Unit) → no_unit u ≡ true → u ≡ unit.Missing
unit-blank unit.Missing e = refl
unit-blank unit.Knots e = absurd (false≢true e)
unit-blank unit.MetresPerSecond e = absurd (false≢true e)
unit-blank unit.KilometresPerHour e = absurd (false≢true e)

pub wind-blank : (w : Wind) → is_blank_wind w ≡ true → w ≡ blank_wind
wind-blank w e =
    let u = both _ _ e in
    let g = both _ _ u.0 in
    let s = both _ _ g.0 in
    λ i. record { direction = direction-blank w.direction s.0 i; speed = speed-blank w.speed s.1 i; gust = speed-blank w.gust g.1 i; unit = unit-blank w.unit u.1 i }

pub view-blank : (v : View) → no_view v ≡ true → v ≡ view.Missing
view-blank view.Missing e = refl
view-blank view.Cavok e = absurd (false≢true e)
view-blank (view.Metres m) e = absurd (false≢true e)

pub visibility-blank : (v : Visibility) → no_view v.is ≡ true → v ≡ blank_visibility
visibility-blank v e = λ i. record { is = view-blank v.is e i }

side-blank : (s : Side) → no_side s ≡ true → s ≡ side.None
side-blank side.None e = refl
side-blank side.Left e = absurd (false≢true e)
side-blank side.Centre e = absurd (false≢true e)
side-blank side.Right e = absurd (false≢true e)

course-blank : (c : Course) → no_course c ≡ true → c ≡ course.None
course-blank course.None e = refl
course-blank course.Up e = absurd (false≢true e)
course-blank course.Down e = absurd (false≢true e)
course-blank course.NoChange e = absurd (false≢true e)

pub runway-blank : (w : Runway) → is_blank_runway w ≡ true → w ≡ blank_runway
runway-blank w e =
    let c = both _ _ e in
    let r = both _ _ c.0 in
    let s = both _ _ r.0 in
    λ i. record { number = none-said w.number s.0 i; side = side-blank w.side s.1 i; range = none-said w.range r.1 i; course = course-blank w.course c.1 i }

pub runways-blank : (x : Runways) → length x.items ≡ 4 → no_runways x ≡ true → x ≡ blank_runways
runways-blank x all e =
    let t = both _ _ e in
    λ i. record { items = (rw all at (every-is is_blank_runway blank_runway runway-blank x.items t.1)) i; count = eqb-true x.count 0 t.0 i }

-- ---- runway states

depth-blank : (d : Depth) → no_depth d ≡ true → d ≡ depth.Missing
depth-blank depth.Missing e = refl
depth-blank depth.Closed e = absurd (false≢true e)
depth-blank (depth.Millimetres m) e = absurd (false≢true e)

condition-blank : (c : Condition) → no_condition c ≡ true → c ≡ blank_state.condition
condition-blank condition.Cleared e = absurd (false≢true e)
condition-blank (condition.Covered d e h b) n =
    let brakes = both _ _ n in
    let deep = both _ _ brakes.0 in
    let lies = both _ _ deep.0 in
    λ i. condition.Covered (none-said d lies.0 i) (none-said e lies.1 i) (depth-blank h deep.1 i) (none-said b brakes.1 i)

pub state-blank : (s : RunwayState) → is_blank_state s ≡ true → s ≡ blank_state
state-blank s e =
    let t = both _ _ e in
    λ i. record { runway = none-said s.runway t.0 i; condition = condition-blank s.condition t.1 i }

states-blank : (x : RunwayStates) → length x.items ≡ 4 → no_states x ≡ true → x ≡ blank_states
states-blank x all e =
    let t = both _ _ e in
    let u = both _ _ t.0 in
    λ i. record { items = (rw all at (every-is is_blank_state blank_state state-blank x.items t.1)) i; count = eqb-true x.count 0 u.1 i; snoclo = not-true x.snoclo u.0 i }

-- ---- weather and sky

pub weather-blank : (w : Weather) → is_blank_weather w ≡ true → w ≡ blank_weather
weather-blank w e = same w.is e
  where
    same : (p : Option Phenomena) → is_missing p ≡ true → ◌≡◌ {A = Weather} (record { is = p }) blank_weather
    same None e = refl
    same (Some x) e = absurd (false≢true e)

pub weathers-blank : (x : Weathers) → length x.items ≡ 3 → no_weathers x ≡ true → x ≡ blank_weathers
weathers-blank x all e =
    let t = both _ _ e in
    λ i. record { items = (rw all at (every-is is_blank_weather blank_weather weather-blank x.items t.1)) i; count = eqb-true x.count 0 t.0 i }

amount-blank : (a : Amount) → no_amount a ≡ true → a ≡ amount.None
amount-blank amount.None e = refl
amount-blank amount.Few e = absurd (false≢true e)
amount-blank amount.Scattered e = absurd (false≢true e)
amount-blank amount.Broken e = absurd (false≢true e)
amount-blank amount.Overcast e = absurd (false≢true e)

convective-blank : (c : Convective) → no_convective c ≡ true → c ≡ convective.None
convective-blank convective.None e = refl
convective-blank convective.Cumulonimbus e = absurd (false≢true e)
convective-blank convective.ToweringCumulus e = absurd (false≢true e)

pub layer-blank : (l : Layer) → is_blank_layer l ≡ true → l ≡ blank_layer
layer-blank l e =
    let c = both _ _ e in
    let h = both _ _ c.0 in
    λ i. record { amount = amount-blank l.amount h.0 i; height = none-said l.height h.1 i; convective = convective-blank l.convective c.1 i }

pub cover-layers : (c : Cover) → is_layers c ≡ true → c ≡ cover.Layers
cover-layers cover.Layers e = refl
cover-layers cover.Clear e = absurd (false≢true e)
cover-layers cover.NoneSignificant e = absurd (false≢true e)
cover-layers cover.NoneDetected e = absurd (false≢true e)
cover-layers (cover.Vertical h) e = absurd (false≢true e)

pub sky-blank : (s : Sky) → length s.layers ≡ 4 → no_sky s ≡ true → s ≡ blank_sky
sky-blank s four e =
    let t = both _ _ e in
    let u = both _ _ t.0 in
    λ i. record { cover = cover-layers s.cover u.0 i; layers = (rw four at (every-is is_blank_layer blank_layer layer-blank s.layers t.1)) i; count = eqb-true s.count 0 u.1 i }

-- ---- temperatures, station and times

temperatures-blank : (t : Temperatures) → no_temperatures t ≡ true → t ≡ blank_observation.temperatures
temperatures-blank t e =
    let b = both _ _ e in
    λ i. record { air = none-said t.air b.0 i; dew = none-said t.dew b.1 i }

station-blank : (s : Station) → length s.letters ≡ 4 → no_station s ≡ true → s ≡ blank_observation.station
station-blank s four e = λ i. record { letters = (rw four at (letters-blank s.letters e)) i }

pub instant-blank : (t : Instant) → no_instant t ≡ true → t ≡ blank_instant
instant-blank t e =
    let m = both _ _ e in
    let h = both _ _ m.0 in
    λ i. record { day = none-said t.day h.0 i; hour = none-said t.hour h.1 i; minute = none-said t.minute m.1 i }

pub period-blank : (p : Period) → no_period p ≡ true → p ≡ blank_period
period-blank p e =
    let t = both _ _ e in
    λ i. record { from = instant-blank p.from t.0 i; to = instant-blank p.to t.1 i }

correction-blank : (c : Correction) → no_correction c ≡ true → c ≡ correction.None
correction-blank correction.None e = refl
correction-blank correction.Amended e = absurd (false≢true e)
correction-blank correction.Corrected e = absurd (false≢true e)

opening-blank : (o : Opening) → no_opening o ≡ true → o ≡ opening.None
opening-blank opening.None e = refl
opening-blank opening.Becoming e = absurd (false≢true e)
opening-blank opening.Temporary e = absurd (false≢true e)
opening-blank (opening.Probable n) e = absurd (false≢true e)
opening-blank (opening.ProbablyTemporary n) e = absurd (false≢true e)
opening-blank opening.From e = absurd (false≢true e)

-- ---- the body

pub body-blank : (b : Body) → BodyArrays b → is_blank_body b ≡ true → b ≡ blank_body
unfolding is_blank_body
body-blank b arrays e =
    let sky = both _ _ e in
    let nsw = both _ _ sky.0 in
    let weathers = both _ _ nsw.0 in
    let view = both _ _ weathers.0 in
    λ i. record { wind = wind-blank b.wind view.0 i; visibility = visibility-blank b.visibility view.1 i; weathers = weathers-blank b.weathers arrays.weathers weathers.1 i; nsw = not-true b.nsw nsw.1 i; sky = sky-blank b.sky arrays.layers sky.1 i }

-- ---- METAR and SPECI

-- nothing stands after the time
pub record Bare (r : Observation) : Type 0 where
  pub automatic : r.automatic ≡ false
  pub body : r.body ≡ blank_body
  pub variation : r.variation ≡ blank_observation.variation
  pub runways : r.runways ≡ blank_observation.runways
  pub temperatures : r.temperatures ≡ blank_observation.temperatures
  pub qnh : r.qnh ≡ blank_observation.qnh
  pub recents : r.recents ≡ blank_observation.recents
  pub states : r.states ≡ blank_observation.states

pub bare : (r : Observation) → ObservationArrays r → no_observation r ≡ true → Bare r
unfolding no_observation
bare r arrays e =
    let states = both _ _ e in
    let recents = both _ _ states.0 in
    let qnh = both _ _ recents.0 in
    let temperatures = both _ _ qnh.0 in
    let runways = both _ _ temperatures.0 in
    let extremes = both _ _ runways.0 in
    let first = both _ _ extremes.0 in
    record {
      automatic = not-true r.automatic first.0;
      body = body-blank r.body arrays.body first.1;
      variation = rw (none-said r.variation.is extremes.1);
      runways = runways-blank r.runways arrays.runways runways.1;
      temperatures = temperatures-blank r.temperatures temperatures.1;
      qnh = rw (none-said r.qnh.is qnh.1);
      recents = weathers-blank r.recents arrays.recents recents.1;
      states = states-blank r.states arrays.states states.1;
    }

pub observation-blank : (r : Observation) → ObservationArrays r → is_blank_observation r ≡ true → r ≡ blank_observation
unfolding is_blank_observation
observation-blank r arrays e =
    let observed = both _ _ e in
    let nil = both _ _ observed.0 in
    let time = both _ _ nil.0 in
    let station = both _ _ time.0 in
    let special = both _ _ station.0 in
    let b = bare r arrays observed.1 in
    λ i. record { special = not-true r.special special.0 i; corrected = not-true r.corrected special.1 i; station = station-blank r.station arrays.letters station.1 i; time = instant-blank r.time time.1 i; nil = not-true r.nil nil.1 i; automatic = b.automatic i; body = b.body i; variation = b.variation i; runways = b.runways i; temperatures = b.temperatures i; qnh = b.qnh i; recents = b.recents i; states = b.states i }

-- ---- the trend

hours-blank : (h : Hours) → no_hours h ≡ true → h ≡ hours.None
hours-blank hours.None e = refl
hours-blank (hours.From f) e = absurd (false≢true e)
hours-blank (hours.Until u) e = absurd (false≢true e)
hours-blank (hours.Between f u) e = absurd (false≢true e)
hours-blank (hours.At t) e = absurd (false≢true e)

tendency-blank : (t : Tendency) → no_tendency t ≡ true → t ≡ tendency.None
tendency-blank tendency.None e = refl
tendency-blank tendency.Becoming e = absurd (false≢true e)
tendency-blank tendency.Temporary e = absurd (false≢true e)

pub trend-change-blank : (c : TrendChange) → BodyArrays c.body → is_blank_trend_change c ≡ true → c ≡ blank_trend_change
trend-change-blank c arrays e =
    let b = both _ _ e in
    let t = both _ _ b.0 in
    λ i. record { tendency = tendency-blank c.tendency t.0 i; times = record { is = hours-blank c.times.is t.1 i }; body = body-blank c.body arrays b.1 i }

pub trend-blank : (t : Trend) → length t.items ≡ 3 → TrendArrays t.items → no_trend t ≡ true → t ≡ blank_trend
trend-blank t three arrays e =
    let items = both _ _ e in
    let first = both _ _ items.0 in
    λ i. record { items = (rw three at (blank-each (λ (c : TrendChange). BodyArrays c.body) is_blank_trend_change blank_trend_change trend-change-blank t.items arrays items.1)) i; count = eqb-true t.count 0 first.1 i; nosig = not-true t.nosig first.0 i }

pub metar-blank : (r : Metar) → MetarArrays r → is_blank_metar r ≡ true → r ≡ blank_metar
unfolding is_blank_metar
metar-blank r arrays e =
    let b = both _ _ e in
    λ i. record { observation = observation-blank r.observation arrays.observation b.0 i; trend = trend-blank r.trend arrays.trend arrays.each b.1 i }

-- ---- TAF

edition-present : (e : Edition) → is_present e ≡ true → e ≡ edition.Present
edition-present edition.Present p = refl
edition-present edition.Of2005 p = absurd (false≢true p)

pub edition-same : (e f : Edition) → is_same_edition e f ≡ true → e ≡ f
edition-same edition.Present edition.Present p = refl
edition-same edition.Present edition.Of2005 p = absurd (false≢true p)
edition-same edition.Of2005 edition.Present p = absurd (false≢true p)
edition-same edition.Of2005 edition.Of2005 p = refl

pub same-edition : (e : Edition) → is_same_edition e e ≡ true
same-edition edition.Present = refl
same-edition edition.Of2005 = refl

pub change-blank : (c : Change) → BodyArrays c.body → is_blank_change c ≡ true → c ≡ blank_change
change-blank c arrays e =
    let b = both _ _ e in
    let p = both _ _ b.0 in
    λ i. record { opening = opening-blank c.opening p.0 i; period = period-blank c.period p.1 i; body = body-blank c.body arrays b.1 i }

leg-blank : (r : Leg) → length r.station.letters ≡ 4 → BodyArrays r.body → no_head r ≡ true → is_blank_body r.body ≡ true → r ≡ blank_leg
leg-blank r n arrays e p =
    let cancelled = both _ _ e in
    let period = both _ _ cancelled.0 in
    let nil = both _ _ period.0 in
    let time = both _ _ nil.0 in
    let station = both _ _ time.0 in
    λ i. record { correction = correction-blank r.correction station.0 i; station = station-blank r.station n station.1 i; time = instant-blank r.time time.1 i; nil = not-true r.nil nil.1 i; period = period-blank r.period period.1 i; cancelled = not-true r.cancelled cancelled.1 i; body = body-blank r.body arrays p i }

pub taf-blank : (t : Taf) → TafArrays t → is_blank_taf t ≡ true → t ≡ blank_taf
unfolding is_blank_taf
taf-blank t arrays e =
    let changes = both _ _ e in
    let part = both _ _ changes.0 in
    let head = both _ _ part.0 in
    let items = both _ _ changes.1 in
    λ i. record { edition = edition-present t.edition head.0 i; leg = leg-blank t.leg arrays.letters arrays.body head.1 part.1 i; changes = record { items = (rw arrays.changes at (blank-each (λ (c : Change). BodyArrays c.body) is_blank_change blank_change change-blank t.changes.items arrays.each items.1)) i; count = eqb-true t.changes.count 0 items.0 i } }
