-- Why each kind's reader refuses a text, and where: the refusal is one of 1 to 9 and its place is within the text or at its end. What a group says is put
-- together of fields that have to be numbers, of figures that have to be used and of agreements: each is the value, 5 or 7.
-- Assumes nothing.
use Rattle.std.specs.Prelude.{Err, None, Option, Result, Some}
use Rattle.text.specs.declared.kinds.Refusal.{Refusal}
use Prim.Native.Nat.{ℕ, ◌+◌, ◌≤◌}
use mathlib.Core.Path.{refl}
use mathlib.Core.Bool.{Bool, true, false, cond, ◌&&◌}
use mathlib.Core.List.{List, [], ◌∷◌}
use native.Mathlib.Omega.{arith}
use lib.ListN.{length, take}
use lib.Dec.{leb}
use lib.IntN.{ℤ}
use Rattle.figures.specs.Quote.{bytes}
use Rattle.figures.specs.declared.kinds.Field.{Field}
use Rattle.figures.specs.declared.kinds.Field.TheVariants as field
use Rattle.text.specs.declared.kinds.Refusal.TheVariants as refusal
use Rattle.text.specs.declared.kinds.Bytes.{Bytes}
use Rattle.text.specs.declared.kinds.Bytes.TheVariants as judgement
use Rattle.text.specs.Groups.{Piece, groups_from}
use Rattle.text.specs.Text.{bytes_of}
use Rattle.scales.specs.declared.kinds.Rain.{Rain}
use Rattle.shapes.specs.declared.kinds.Value.{Value}
use Rattle.shapes.specs.Pattern.{has_pattern}
use Rattle.places.specs.Engine.{Group, then, Outcome}
use Rattle.places.specs.Parts.{Word, Bars}
use Rattle.record.specs.declared.aerodrome.Unit as speed-unit
use Rattle.record.specs.declared.aerodrome.Weather.{Weather}
use Rattle.record.specs.declared.aerodrome.Sky.{Sky}
use Rattle.record.specs.declared.aerodrome.Body.{Body}
use Rattle.record.specs.declared.aerodrome.Trend.{Trend}
use Rattle.record.specs.declared.aerodrome.Leg.{Leg}
use Rattle.record.specs.declared.aerodrome.Edition.{Edition}
use Rattle.record.specs.declared.aerodrome.Edition.TheVariants as edition
use Rattle.record.specs.declared.aerodrome.Taf.{Taf}
use Rattle.record.specs.Taf.{blank_leg}
use Rattle.record.specs.Set.{set_site}
use Rattle.record.specs.Observation.{blank_observation}
use Rattle.record.specs.declared.surface.Position.{Position}
use Rattle.record.specs.declared.surface.Surface.{Surface}
use Rattle.record.specs.declared.surface.Synop.{Synop}
use Rattle.record.specs.declared.surface.CloudLayers.{CloudLayers}
use Rattle.record.specs.declared.surface.Section3.{Section3}
use Rattle.record.specs.Blank.{blank_surface}
use Rattle.synop_groups.specs.declared.kinds.Said.{Said}
use Rattle.synop_groups.specs.declared.kinds.Said.TheVariants as said
use Rattle.synop_groups.specs.Reads as surface
use Rattle.synop_row.specs.declared.kinds.Needs.{Needs}
use Rattle.synop_row.specs.Row.{with_said}
use Rattle.synop_row.specs.Row as synop-row
use Rattle.synop_section.specs.Answer as section
use Rattle.synop_section.specs.Answer.{begun}
use Rattle.section3.specs.declared.kinds.Told.{Told}
use Rattle.section3.specs.declared.kinds.Told.TheVariants as third
use Rattle.section3.specs.Row as section3
use Rattle.synop.specs.Read as synop
use Rattle.elements.specs.Parts.{figured, may_miss, used}
use Rattle.elements.specs.Wind as wind
use Rattle.elements.specs.Visibility as visibility
use Rattle.elements.specs.Weather as weather
use Rattle.elements.specs.Sky as sky
use Rattle.elements.specs.Body as body
use Rattle.aerodrome_groups.specs.Head as head
use Rattle.aerodrome_groups.specs.Runway as runway
use Rattle.aerodrome_groups.specs.Temperatures as temperatures
use Rattle.runway_states.specs.State as state
use Rattle.metar_row.specs.Row as metar-row
use Rattle.metar.specs.Read as metar
use Rattle.trend_row.specs.Times as times
use Rattle.trend_row.specs.Row as trend-row
use Rattle.trend.specs.Read as trend
use Rattle.taf_row.specs.declared.kinds.Part.{Part}
use Rattle.taf_row.specs.declared.kinds.Part.TheVariants as part
use Rattle.taf_row.specs.declared.kinds.Form.{Form}
use Rattle.taf_row.specs.declared.kinds.Form.TheVariants as form
use Rattle.taf_row.specs.Row as taf-row
use Rattle.taf.specs.Read as taf
use Rattle.report_record.specs.declared.kinds.Name.{Name}
use Rattle.report_record.specs.declared.kinds.Name.TheVariants as name
use Rattle.report.specs.Read.{word, name_by, first_name, after_bytes, name_of}
use Rattle.report_laws.proofs.Placed.{Each, ◌&◌, Fair, Fairly, good, bad, Placed, done, fault, Within, TailWithin, groups-within, BytesWithin, bytes-within, FairPlace, FairRow, FairWord, ends, opens, bars, FairPart, report-placed}

-- ---- what a group says, put together
module _ {A : Type 0} where
  five : Fairly {R = A} (Err refusal.Figure)
  five = bad refusal.Figure refl

  six : Fairly {R = A} (Err refusal.Order)
  six = bad refusal.Order refl

  seven : Fairly {R = A} (Err refusal.Disagreement)
  seven = bad refusal.Disagreement refl

  either : (b : Bool) {x y : Result A Refusal} → Fairly x → Fairly y → Fairly (cond b x y)
  either true p q = p
  either false p q = q

  number : (f : Field) (k : ℕ → Result A Refusal) → ((n : ℕ) → Fairly (k n)) → Fairly (figured f k)
  number (field.Number n) k p = p n
  number field.Missing k p = five
  number field.Mixed k p = five
  number field.Other k p = five

  number-or : (f : Field) (x : Result A Refusal) (k : ℕ → Result A Refusal) → Fairly x → ((n : ℕ) → Fairly (k n)) → Fairly (may_miss f x k)
  number-or (field.Number n) x k q p = p n
  number-or field.Missing x k q p = q
  number-or field.Mixed x k q p = five
  number-or field.Other x k q p = five

  figure : (x : Option ℕ) (k : ℕ → Result A Refusal) → ((n : ℕ) → Fairly (k n)) → Fairly (used x k)
  figure (Some n) k p = p n
  figure None k p = five

  after : {B : Type 0} {x : Result B Refusal} (k : B → Result A Refusal) → Fairly x → ((b : B) → Fairly (k b)) → Fairly (then x k)
  after k (good b) p = p b
  after k (bad f h) p = bad f h

-- a search by these goes as deep as fields, figures and agreements stand within one another, which is the `depth` that the longer ones say
ruleset told = (good, five, seven, either, number, number-or, figure, after)

-- ---- wind, visibility, weather, sky

direction-fair : (v : Value) → Fairly (wind.direction_of v)
direction-fair v = search told

module _ (u : speed-unit.Unit) (v : Value) where
  speed-fair : Fairly (wind.speed_of u v)
  speed-fair = search told depth 8

  gust-fair : Fairly (wind.gust_of u v)
  gust-fair = search (told, speed-fair)

wind-fair : (forecast : Bool) (g : Group) → Fairly (wind.read_wind forecast g)
unfolding wind.read_wind wind.wind_by
wind-fair forecast g = search (told, direction-fair, speed-fair, gust-fair) depth 8

variation-fair : (g : Group) → Fairly (wind.read_variation g)
unfolding wind.read_variation
variation-fair g = search told depth 8

visibility-fair : (forecast : Bool) (g : Group) → Fairly (visibility.read_visibility forecast g)
unfolding visibility.read_visibility
visibility-fair forecast g = search told depth 8

unsigned-fair : (cs : List (List ℕ)) → Fairly (weather.unsigned cs)
unsigned-fair [] = five
unsigned-fair (c ∷ cs) = search told

said-fair : (g : Group) → Fairly (weather.said_weather g)
unfolding weather.said_weather
said-fair [] = five
said-fair (b ∷ g) = search (told, unsigned-fair)

unknown-fair : (automatic : Bool) (x : Result Weather Refusal) → Fairly x → Fairly (weather.unless_unknown automatic x)
unknown-fair automatic _ (good w) = search told
unknown-fair automatic _ (bad f h) = bad f h

plain-fair : (x : Result Weather Refusal) → Fairly x → Fairly (weather.only_plain x)
plain-fair _ (good w) = search told
plain-fair _ (bad f h) = bad f h

weather-fair : (forecast automatic : Bool) (g : Group) → Fairly (weather.read_weather forecast automatic g)
unfolding weather.read_weather
weather-fair forecast automatic g = let said = unknown-fair automatic (weather.said_weather g) (said-fair g) in search told

recent-fair : (automatic : Bool) (g : Group) → Fairly (weather.read_recent automatic g)
unfolding weather.read_recent
recent-fair automatic [] = five
recent-fair automatic (r ∷ []) = five
recent-fair automatic (r ∷ e ∷ g) =
    unknown-fair automatic (weather.only_plain (weather.said_weather g)) (plain-fair (weather.said_weather g) (said-fair g))

sky-fair : (forecast cavok : Bool) (k : ℕ) (g : Group) (s : Sky) → Fairly (sky.read_sky forecast cavok k g s)
unfolding sky.read_sky sky.read_layer sky.read_alone
sky-fair forecast cavok k g s = search told depth 12

-- ---- the places of the body, in any terms, and the time

module _ (t : body.Terms) where
  wind-place : FairPlace (body.wind_place t)
  wind-place k g b = let x = wind-fair t.forecast g in search told

  visibility-place : FairPlace (body.visibility_place t)
  visibility-place k g b = let x = visibility-fair t.forecast g in search told

  beside-fair : (b : Body) (x : Result Weather Refusal) → Fairly x → Fairly (body.beside_others b x)
  beside-fair b _ (good w) = search told
  beside-fair b _ (bad f h) = bad f h

  weather-place : FairPlace (body.weather_place t)
  unfolding body.read_weather_or_nsw
  weather-place k g b =
      let x = weather.read_weather t.forecast t.automatic g in
      let y = beside-fair b x (weather-fair t.forecast t.automatic g) in
      search told

  sky-place : FairPlace (body.sky_place t)
  sky-place k g b = let x = sky-fair t.forecast (visibility.is_cavok b.visibility) k g b.sky in search told

time-fair : (g : Group) → Fairly (head.read_time g)
unfolding head.read_time
time-fair g = search told depth 8

-- ---- METAR and SPECI

runway-fair : (g : Group) → Fairly (runway.read_runway g)
unfolding runway.read_runway
runway-fair g = search told depth 10

degrees-fair : (x : Option ℤ) → Fairly (temperatures.degrees_is x)
degrees-fair (Some t) = good _
degrees-fair None = five

temperatures-fair : (g : Group) → Fairly (temperatures.read_temperatures g)
unfolding temperatures.read_temperatures
temperatures-fair g = search (told, degrees-fair) depth 10

qnh-fair : (g : Group) → Fairly (temperatures.read_qnh g)
unfolding temperatures.read_qnh
qnh-fair g = search told

depth-fair : (f : Field) → Fairly (state.read_depth f)
depth-fair f = search told depth 8

state-fair : (g : Group) → Fairly (state.read_state g)
unfolding state.read_state
state-fair g = search (told, depth-fair) depth 10

observation-row : FairRow metar-row.row
unfolding metar-row.row
observation-row =
    (λ k g r. search told)
    & (λ k g r. search told)
    & (λ k g r. search told)
    & (λ k g r. let x = time-fair g in search told)
    & (λ k g r. search told)
    & (λ k g r. search told)
    & (λ k g r. let x = wind-place (metar-row.observed r) k g r.body in search told)
    & (λ k g r. let x = variation-fair g in search told)
    & (λ k g r. let x = visibility-place (metar-row.observed r) k g r.body in search told)
    & (λ k g r. let x = runway-fair g in search told)
    & (λ k g r. let x = weather-place (metar-row.observed r) k g r.body in search told)
    & (λ k g r. let x = sky-place (metar-row.observed r) k g r.body in search told)
    & (λ k g r. let x = temperatures-fair g in search told)
    & (λ k g r. let x = qnh-fair g in search told)
    & (λ k g r. let x = recent-fair r.automatic g in search told)
    & (λ k g r. let x = state-fair g in search told)
    & (λ k g r. search told)
    & (λ k g r. let x = state-fair g in search told)
    & (λ k g r. six)
    & tt

-- ---- the trend

module _ (free : Bool) where
  trend-row-fair : FairRow (trend-row.row free)
  unfolding trend-row.row times.read_moment
  trend-row-fair =
      (λ k g r. six)
      & (λ k g r. search told depth 9)
      & (λ k g r. search told depth 9)
      & (λ k g r. search (told, six) depth 9)
      & (λ k g r. let x = wind-place body.changing k g r.body in search told)
      & (λ k g r. let x = visibility-place body.changing k g r.body in search told)
      & (λ k g r. let x = weather-place body.changing k g r.body in search told)
      & (λ k g r. let x = sky-place body.changing k g r.body in search told)
      & tt

-- what a word comes to in a trend: 6 for a second NOSIG, 7 for NOSIG beside a change
module _ {W P : Type 0} where
  word-either : (b : Bool) {x y : Word W P} → FairWord x → FairWord y → FairWord (cond b x y)
  word-either true p q = p
  word-either false p q = q

  out_of_order : FairWord {W = W} {P = P} (Bars refusal.Order)
  out_of_order = bars refusal.Order refl

  beside : FairWord {W = W} {P = P} (Bars refusal.Disagreement)
  beside = bars refusal.Disagreement refl

comes-fair : (t : Trend) (g : Group) → FairWord (trend.comes_to t g)
unfolding trend.comes_to
comes-fair t g = search (ends, opens, good, out_of_order, beside, word-either) depth 8

module _ (n : ℕ) (tail : Option ℕ) (end : ℕ) (w : TailWithin n tail) (h : end ≤ n) (gs : List Piece) (v : Within n gs) where
  pub observed-placed : Placed n (metar.groups_read tail end gs)
  unfolding metar.groups_read
  observed-placed =
      report-placed n tail end w h trend.parts
      (λ r o. record { row = trend-row-fair (trend-row.is_change o); word = λ t g. comes-fair t.trend g }) 3 metar.main_part
      (record { row = observation-row; word = λ t g. comes-fair t.trend g }) blank_observation gs v

-- ---- TAF

period-fair : (f : Form) (g : Group) → Fairly (taf-row.read_period f g)
unfolding taf-row.read_period
period-fair form.BothDays g = search told depth 10
period-fair form.FirstDay g = search told depth 10
period-fair form.NoDay g = search told depth 10

module _ (e : Edition) (p : Part) where
  part-row-fair : FairRow (taf-row.row e p)
  unfolding taf-row.row
  part-row-fair =
      (λ k g r. search told)
      & (λ k g r. search told)
      & (λ k g r. search told)
      & (λ k g r. let x = time-fair g in search told)
      & (λ k g r. search told)
      & (λ k g r. let x = period-fair (taf-row.own_form e) g in search told)
      & (λ k g r. let x = period-fair (taf-row.change_form e) g in search told)
      & (λ k g r. search told)
      & (λ k g r. let x = wind-place (taf-row.forecast_in p) k g r.body in search told)
      & (λ k g r. let x = visibility-place (taf-row.forecast_in p) k g r.body in search told)
      & (λ k g r. let x = weather-place (taf-row.forecast_in p) k g r.body in search told)
      & (λ k g r. let x = sky-place (taf-row.forecast_in p) k g r.body in search told)
      & tt

opened-fair : (e : Edition) (g : Group) → Fairly (taf.opened_by e g)
unfolding taf.opened_by
opened-fair edition.Present g = search told depth 10
opened-fair edition.Of2005 g = search told depth 10

leg-fair : (e : Edition) (p : Part) (takes : Leg → Taf) → FairPart (taf.part_in e p takes)
leg-fair e p takes = record { row = part-row-fair e p; word = λ t g. opens (taf.opened_by e g) (opened-fair e g) }

module _ (n : ℕ) (tail : Option ℕ) (end : ℕ) (w : TailWithin n tail) (h : end ≤ n) (gs : List Piece) (v : Within n gs) where
  pub forecast-placed : (e : Edition) → Placed n (taf.groups_read e tail end gs)
  unfolding taf.groups_read
  forecast-placed e = report-placed n tail end w h (taf.changes e) (λ t o. leg-fair e (taf.part_of o) _) 16 (taf.main_part e) (leg-fair e part.Main _) blank_leg gs v

-- ---- SYNOP and SHIP: what a group says, added to the surface

module _ (s : Surface) where
  abbrev Adds : Said → Type 0
  Adds x = Fairly (with_said x s)

  adds-wrong : Adds surface.wrong
  unfolding with_said
  adds-wrong = five

  adds-disagrees : Adds surface.disagrees
  unfolding with_said
  adds-disagrees = seven

  adds-either : (b : Bool) (x y : Said) → Adds x → Adds y → Adds (cond b x y)
  adds-either true x y p q = p
  adds-either false x y p q = q

  adds-unless : (b : Bool) (x : Said) → Adds x → Adds (surface.unless b x)
  adds-unless true x p = adds-disagrees
  adds-unless false x p = p

  adds-number : (f : Field) (k : ℕ → Said) → ((n : ℕ) → Adds (k n)) → Adds (surface.figured f k)
  adds-number (field.Number n) k p = p n
  adds-number field.Missing k p = adds-wrong
  adds-number field.Mixed k p = adds-wrong
  adds-number field.Other k p = adds-wrong

  adds-number-or : (f : Field) (x : Said) (k : ℕ → Said) → Adds x → ((n : ℕ) → Adds (k n)) → Adds (surface.may_miss f x k)
  adds-number-or (field.Number n) x k q p = p n
  adds-number-or field.Missing x k q p = q
  adds-number-or field.Mixed x k q p = adds-wrong
  adds-number-or field.Other x k q p = adds-wrong

  adds-missing : (f : Field) (x : Said) → Adds x → Adds (surface.missing f x)
  adds-missing (field.Number n) x p = adds-wrong
  adds-missing field.Missing x p = p
  adds-missing field.Mixed x p = adds-wrong
  adds-missing field.Other x p = adds-wrong

  adds-figure : (x : Option ℕ) (k : ℕ → Said) → ((n : ℕ) → Adds (k n)) → Adds (surface.used x k)
  adds-figure (Some n) k p = p n
  adds-figure None k p = adds-wrong

  adds-tenths : (x : Option ℤ) (k : ℤ → Said) → ((n : ℤ) → Adds (k n)) → Adds (surface.used_tenths x k)
  adds-tenths (Some n) k p = p n
  adds-tenths None k p = adds-wrong

  adds-rain : (x : Option Rain) (k : Rain → Said) → ((r : Rain) → Adds (k r)) → Adds (surface.used_rain x k)
  adds-rain (Some r) k p = p r
  adds-rain None k p = adds-wrong

ruleset added = (good, adds-wrong, adds-disagrees, adds-either, adds-unless, adds-number, adds-number-or, adds-missing, adds-figure, adds-tenths, adds-rain)

module _ (s : Surface) (g : Group) where
  time-adds : Adds s (surface.said_time g)
  unfolding with_said surface.said_time surface.time_of
  time-adds = search added depth 8

  station-adds : Adds s (surface.said_station g)
  unfolding with_said surface.said_station
  station-adds = search added

  latitude-adds : Adds s (surface.said_latitude g)
  unfolding with_said surface.said_latitude surface.latitude_is
  latitude-adds = search added

  longitude-adds : (p : Position) → Adds s (surface.said_longitude p g)
  unfolding with_said surface.said_longitude surface.position_of
  longitude-adds p = search added depth 8

  indicators-adds : Adds s (surface.said_indicators g)
  unfolding with_said surface.said_indicators surface.indicators_of
  indicators-adds = search added depth 12

  wind-adds : Adds s (surface.said_wind g)
  unfolding with_said surface.said_wind surface.wind_by
  wind-adds = search added depth 10

section-row : (n : Needs) → FairRow (synop-row.row n)
unfolding synop-row.row with_said surface.said_speed surface.speed_is surface.said_air surface.air_is surface.said_moisture surface.moisture_is surface.said_pressure
    surface.said_level surface.level_is surface.said_tendency surface.tendency_is surface.said_rainfall surface.said_weather surface.said_clouds surface.said_clock
    surface.clock_is
section-row n =
    (λ k g s. search added depth 8)
    & (λ k g s. search added depth 8)
    & (λ k g s. search added depth 8)
    & (λ k g s. search added depth 8)
    & (λ k g s. search added depth 8)
    & (λ k g s. search added depth 8)
    & (λ k g s. search added depth 10)
    & (λ k g s. search added depth 12)
    & (λ k g s. search added depth 12)
    & (λ k g s. search added depth 8)
    & tt

-- ---- section 3

-- what a group of it says: a refusal is a reader's
abbrev FairTold : Told → Type 0
FairTold third.Nothing = Unit {0}
FairTold (third.Refused f) = Fair f
FairTold (third.Maximum a) = Unit {0}
FairTold (third.Minimum a) = Unit {0}
FairTold (third.Layer l) = Unit {0}

told-fair : (s : Surface) (b : Bool) (x : Said) → Adds s x → FairTold (section3.told_by (section3.air_by b) x)
unfolding with_said
told-fair s b (said.Refused f) p = refused p
  where
    refused : Fairly {R = Surface} (Err f) → Fair f
    refused (bad _ h) = h
told-fair s b (said.Time t) p = tt
told-fair s b (said.Station n) p = tt
told-fair s b (said.Position x) p = tt
told-fair s b (said.Indicators i) p = tt
told-fair s b (said.Wind w) p = tt
told-fair s b (said.Speed n) p = tt
told-fair s true (said.Air a) p = tt
told-fair s false (said.Air a) p = tt
told-fair s b (said.Moisture m) p = tt
told-fair s b (said.Pressure x) p = tt
told-fair s b (said.Level l) p = tt
told-fair s b (said.Tendency t) p = tt
told-fair s b (said.Rainfall r) p = tt
told-fair s b (said.Weather w) p = tt
told-fair s b (said.Clouds c) p = tt
told-fair s b (said.Clock c) p = tt
told-fair s b (said.Layer l) p = tt

told-either : (b : Bool) (x y : Told) → FairTold x → FairTold y → FairTold (cond b x y)
told-either true x y p q = p
told-either false x y p q = q

risen-fair : (ls : CloudLayers) (x : Told) → FairTold x → FairTold (section3.risen ls x)
risen-fair ls third.Nothing p = tt
risen-fair ls (third.Refused f) p = p
risen-fair ls (third.Maximum a) p = tt
risen-fair ls (third.Minimum a) p = tt
risen-fair ls (third.Layer l) p = told-either (section3.rises (take ls.count ls.items) l) (third.Layer l) (third.Refused refusal.Disagreement) tt refl

tells : (x : Told) → FairTold x → (s : Section3) → Fairly (section3.with_told x s)
tells third.Nothing p s = good _
tells (third.Refused f) p s = bad f p
tells (third.Maximum a) p s = good _
tells (third.Minimum a) p s = good _
tells (third.Layer l) p s = good _

module _ (s : Surface) (g : Group) where
  air-adds : Adds s (surface.said_air g)
  unfolding with_said surface.said_air surface.air_is
  air-adds = search added depth 8

  layer-adds : Adds s (surface.said_layer g)
  unfolding with_said surface.said_layer
  layer-adds = search added depth 12

air-told : (b : Bool) (g : Group) → FairTold (section3.told_by (section3.air_by b) (surface.said_air g))
air-told b g = told-fair blank_surface b (surface.said_air g) (air-adds blank_surface g)

layer-told : (ls : CloudLayers) (g : Group) → FairTold (section3.layer_at ls g)
unfolding section3.layer_at
layer-told ls g =
    let said = section3.told_by (section3.air_by false) (surface.said_layer g) in
    let after = section3.risen ls said in
    told-either (has_pattern g (bytes "8////")) third.Nothing (cond (leb 4 ls.count) (third.Refused refusal.Limit) after) tt
    (told-either (leb 4 ls.count) (third.Refused refusal.Limit) after refl (risen-fair ls said (told-fair blank_surface false (surface.said_layer g) (layer-adds blank_surface g))))

third-row : FairRow section3.row
unfolding section3.row
third-row =
    (λ k g s. tells (section3.told_by (section3.air_by false) (surface.said_air g)) (air-told false g) s)
    & (λ k g s. tells (section3.told_by (section3.air_by true) (surface.said_air g)) (air-told true g) s)
    & (λ k g s. tells (section3.layer_at s.layers g) (layer-told s.layers g) s)
    & tt

-- 333 opens section 3, any other stop word ends the reading
word-fair : (g : Group) → FairWord (section.word_of g)
word-fair g = word-either (has_pattern g synop-row.section3_word) (opens _ (good _)) ends

-- ---- the groups through Nddff, known by their position

abbrev FairPost : synop.Post → Type 0
FairPost p = (g : Group) (r : Synop) → Fairly (p.read g r)

head-fair : (x : Said) (r : Synop) → Adds r.surface x → Fairly (synop.with_head x r)
unfolding synop.with_head
head-fair x r p = go (with_said x r.surface) p
  where
    go : (y : Result Surface Refusal) → Fairly y → Fairly (synop.onto_surface (set_site (synop.site_onto x r.site) r) y)
    go _ (good a) = good _
    go _ (bad f h) = bad f h

posts-fair : (ship : Bool) → Each FairPost (synop.posts ship)
unfolding synop.posts
posts-fair false =
    (λ g r. head-fair _ r (time-adds r.surface g))
    & (λ g r. head-fair _ r (station-adds r.surface g))
    & (λ g r. head-fair _ r (indicators-adds r.surface g))
    & (λ g r. head-fair _ r (wind-adds r.surface g))
    & tt
posts-fair true =
    (λ g r. good _)
    & (λ g r. head-fair _ r (time-adds r.surface g))
    & (λ g r. head-fair _ r (latitude-adds r.surface g))
    & (λ g r. head-fair _ r (longitude-adds r.surface g r.site.position))
    & (λ g r. head-fair _ r (indicators-adds r.surface g))
    & (λ g r. head-fair _ r (wind-adds r.surface g))
    & tt

module _ (n : ℕ) (tail : Option ℕ) (end : ℕ) (w : TailWithin n tail) (h : end ≤ n) where
  section-placed : (r : Synop) (gs : List Piece) → Within n gs → Placed n (section.section r tail end gs)
  unfolding section.section
  section-placed r gs v =
      report-placed n tail end w h section.parts (λ t o. record { row = third-row; word = λ u g. ends }) 1 _
      (record { row = section-row (synop-row.needs_of r.surface); word = λ u g. word-fair g }) r.surface gs v

  short-placed : (u : Option ℕ) → TailWithin n u → Placed n (synop.cut_short u end)
  short-placed (Some at) v = fault refusal.Shape at refl v
  short-placed None v = fault refusal.Absence end refl h

  nil-placed : (u : Option ℕ) → TailWithin n u → (r : Synop) (gs : List Piece) → Within n gs → Placed n (synop.after_nil u end r gs)
  nil-placed (Some at) v r [] x = fault refusal.Shape at refl v
  nil-placed None v r [] x = done end _ h
  nil-placed (Some at) v r (g ∷ gs) x = fault refusal.Shape g.start refl x.0
  nil-placed None v r (g ∷ gs) x = fault refusal.Shape g.start refl x.0

  placed-either : (b : Bool) {x y : Outcome Synop} → Placed n x → Placed n y → Placed n (cond b x y)
  placed-either true p q = p
  placed-either false p q = q

  walk-placed : (ps : List synop.Post) → Each FairPost ps → (r : Synop) (gs : List Piece) → Within n gs → Placed n (synop.walk ps r tail end gs)
  unfolding synop.walk
  walk-placed [] fair r gs v = section-placed r gs v
  walk-placed (p ∷ ps) fair r [] v = short-placed tail w
  walk-placed (p ∷ ps) fair r (g ∷ gs) v =
      placed-either (p.nil && synop.is_nil g.bytes) (nil-placed tail w r gs v.1)
      (placed-either (p.has g.bytes) (go (p.read g.bytes r) (fair.0 g.bytes r) (λ r'. walk-placed ps fair.1 r' gs v.1)) (fault refusal.Shape g.start refl v.0))
    where
      go : (x : Result Synop Refusal) → Fairly x → ((r : Synop) → Placed n (synop.walk ps r tail end gs)) → Placed n (synop.onward x g.start (λ r'. synop.walk ps r' tail end gs))
      go _ (good a) k = k a
      go _ (bad f a) k = fault f g.start a v.0

  pub surface-placed : (ship : Bool) (gs : List Piece) → Within n gs → Placed n (synop.groups_read ship tail end gs)
  unfolding synop.groups_read
  surface-placed ship gs v = walk-placed (synop.posts ship) (posts-fair ship) (begun ship) gs v

-- ---- a text that has no name: 1 at 0, 2 at the byte, 3 at the first group

abbrev pub NamePlaced : ℕ → Name → Type 0
NamePlaced n (name.Surface ship at) = Unit {0}
NamePlaced n (name.Observed special at) = Unit {0}
NamePlaced n (name.Forecast at) = Unit {0}
NamePlaced n (name.Refused f at) = Fair f × (at ≤ n)

module _ (n : ℕ) where
  by-placed : (g : Group) (start end : ℕ) → start ≤ n → NamePlaced n (name_by g start end)
  by-placed g start end h = go (word "AAXX" g) (word "BBXX" g) (word "METAR" g) (word "SPECI" g) (word "TAF" g)
    where
      go : (a b c d e : Bool)
          → NamePlaced n (cond a (name.Surface false end) (cond b (name.Surface true end) (cond c (name.Observed false end) (cond d (name.Observed true end) (cond e (name.Forecast end) (name.Refused refusal.Kind start))))))
      go true b c d e = tt
      go false true c d e = tt
      go false false true d e = tt
      go false false false true e = tt
      go false false false false true = tt
      go false false false false false = (refl, h)

  first-placed : (gs : List Piece) → Within n gs → NamePlaced n (first_name gs)
  first-placed [] v = (refl, omega arith)
  first-placed (g ∷ gs) v = by-placed g.bytes g.start (g.start + length g.bytes) v.0

  after-bytes : (b : Bytes) (m : Name) → BytesWithin n b → NamePlaced n m → NamePlaced n (after_bytes b m)
  after-bytes judgement.Sound m h p = p
  after-bytes judgement.Length m h p = (refl, omega arith)
  after-bytes (judgement.Byte at) m h p = (refl, h)

pub name-placed : (t : List ℕ) → NamePlaced (length t) (name_of t)
unfolding name_of
name-placed t =
    after-bytes (length t) (bytes_of t) (first_name (groups_from t 0)) (bytes-within t) (first-placed (length t) (groups_from t 0) (groups-within t 0))
