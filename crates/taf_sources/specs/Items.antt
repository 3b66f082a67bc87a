-- THE ITEMS OF A TAF'S MAIN PART: where each stands in the record, at which place of the row its group is taken, and what the definition of that group says of
-- its bytes.
-- Assumes nothing: these are definitions.
use Rattle.std.specs.Prelude.{ℕ, ◌≡◌, Bool, true, Ok}
use Rattle.places.specs.Engine.{Group}
use Rattle.record.specs.declared.aerodrome.Correction.{Correction}
use Rattle.record.specs.declared.aerodrome.Station.{Station}
use Rattle.record.specs.declared.aerodrome.Instant.{Instant}
use Rattle.record.specs.declared.aerodrome.Period.{Period}
use Rattle.record.specs.declared.aerodrome.Wind.{Wind}
use Rattle.record.specs.declared.aerodrome.Visibility.{Visibility}
use Rattle.record.specs.declared.aerodrome.Leg.{Leg}
use Rattle.record.specs.declared.aerodrome.Edition.{Edition}
use Rattle.aerodrome_groups.specs.Head.{station_of, read_time}
use Rattle.taf_row.specs.Row.{word, correction_of, own_form, read_period}
use Rattle.body_sources.specs.Items.{WindSaid, VisibilitySaid, WeatherItem, weather_at, WeatherSaid, SkyItem, sky_at, SkySaid}
use Rattle.taf_sources.specs.declared.kinds.Element.{Element}
use Rattle.taf_sources.specs.declared.kinds.Element.TheVariants as element

-- the place of its group in the row, and how many groups may stand there; place 6 is that of a change's period
abbrev pub place_of : Element → ℕ
place_of element.Name = 0
place_of element.Correction = 1
place_of element.Station = 2
place_of element.Time = 3
place_of element.Nil = 4
place_of element.Period = 5
place_of element.Cancelled = 7
place_of element.Wind = 8
place_of element.Visibility = 9
place_of element.Weather = 10
place_of element.Clouds = 11

abbrev pub most_of : Element → ℕ
most_of element.Name = 1
most_of element.Correction = 1
most_of element.Station = 1
most_of element.Time = 1
most_of element.Nil = 1
most_of element.Period = 1
most_of element.Cancelled = 1
most_of element.Wind = 1
most_of element.Visibility = 1
most_of element.Weather = 3
most_of element.Clouds = 4

-- the item's value in the record: of those that may be several, the k-th. The name says of which kind the report is, and nothing in its record.
abbrev pub Value : Element → Type 0
Value element.Name = Unit {0}
Value element.Correction = Correction
Value element.Station = Station
Value element.Time = Instant
Value element.Nil = Bool
Value element.Period = Period
Value element.Cancelled = Bool
Value element.Wind = Wind
Value element.Visibility = Visibility
Value element.Weather = WeatherItem
Value element.Clouds = SkyItem

abbrev pub value_of : (e : Element) → ℕ → Leg → Value e
value_of element.Name k r = tt
value_of element.Correction k r = r.correction
value_of element.Station k r = r.station
value_of element.Time k r = r.time
value_of element.Nil k r = r.nil
value_of element.Period k r = r.period
value_of element.Cancelled k r = r.cancelled
value_of element.Wind k r = r.body.wind
value_of element.Visibility k r = r.body.visibility
value_of element.Weather k r = weather_at k r.body
value_of element.Clouds k r = sky_at k r.body

-- WHAT THE DEFINITION OF THE GROUP SAYS OF ITS BYTES, in an edition. NIL and CNL are words: that the group stands is all they say.
abbrev pub Said : Edition → (e : Element) → Group → Value e → Type 0
Said x element.Name g v = word "TAF" g ≡ true
Said x element.Correction g v = v ≡ correction_of g
Said x element.Station g v = v ≡ station_of g
Said x element.Time g v = read_time g ≡ Ok v
Said x element.Nil g v = v ≡ true
Said x element.Period g v = read_period (own_form x) g ≡ Ok v
Said x element.Cancelled g v = v ≡ true
Said x element.Wind g v = WindSaid true g v
Said x element.Visibility g v = VisibilitySaid true g v
Said x element.Weather g v = WeatherSaid true g v
Said x element.Clouds g v = SkySaid true g v
