-- THE ITEMS OF A METAR'S OR SPECI'S OBSERVATION: where each stands in the record, at which place of the row its group is taken, and what the definition of that
-- group says of its bytes.
-- Assumes nothing: these are definitions.
use Rattle.std.specs.Prelude.{ℕ, ◌≡◌, Bool, true, false, get_or, Ok}
use Rattle.figures.specs.Quote.{bytes}
use Rattle.shapes.specs.Pattern.{has_pattern}
use Rattle.places.specs.Engine.{Group}
use Rattle.record.specs.declared.aerodrome.Station.{Station}
use Rattle.record.specs.declared.aerodrome.Instant.{Instant}
use Rattle.record.specs.declared.aerodrome.Wind.{Wind}
use Rattle.record.specs.declared.aerodrome.Variation.{Variation}
use Rattle.record.specs.declared.aerodrome.Visibility.{Visibility}
use Rattle.record.specs.declared.aerodrome.Runway.{Runway}
use Rattle.record.specs.declared.aerodrome.Weather.{Weather}
use Rattle.record.specs.declared.aerodrome.Temperatures.{Temperatures}
use Rattle.record.specs.declared.aerodrome.Qnh.{Qnh}
use Rattle.record.specs.declared.aerodrome.RunwayState.{RunwayState}
use Rattle.record.specs.declared.aerodrome.Observation.{Observation}
use Rattle.record.specs.Body.{blank_weather}
use Rattle.record.specs.Observation.{blank_runway, blank_state}
use Rattle.elements.specs.Wind.{read_variation}
use Rattle.elements.specs.Weather.{read_recent}
use Rattle.aerodrome_groups.specs.Head.{station_of, read_time}
use Rattle.aerodrome_groups.specs.Runway.{read_runway}
use Rattle.aerodrome_groups.specs.Temperatures.{read_temperatures, read_qnh}
use Rattle.runway_states.specs.State.{read_state}
use Rattle.body_sources.specs.Items.{WindSaid, VisibilitySaid, WeatherItem, weather_at, WeatherSaid, SkyItem, sky_at, SkySaid}
use Rattle.metar_sources.specs.declared.kinds.Element.{Element}
use Rattle.metar_sources.specs.declared.kinds.Element.TheVariants as element

-- the place of its group in the row, and how many groups may stand there
abbrev pub place_of : Element → ℕ
place_of element.Name = 0
place_of element.Correction = 1
place_of element.Station = 2
place_of element.Time = 3
place_of element.Nil = 4
place_of element.Automatic = 5
place_of element.Wind = 6
place_of element.Variation = 7
place_of element.Visibility = 8
place_of element.Runway = 9
place_of element.Weather = 10
place_of element.Clouds = 11
place_of element.Temperatures = 12
place_of element.Pressure = 13
place_of element.Recent = 14
place_of element.State = 15
place_of element.Snoclo = 16

abbrev pub most_of : Element → ℕ
most_of element.Name = 1
most_of element.Correction = 1
most_of element.Station = 1
most_of element.Time = 1
most_of element.Nil = 1
most_of element.Automatic = 1
most_of element.Wind = 1
most_of element.Variation = 1
most_of element.Visibility = 1
most_of element.Runway = 4
most_of element.Weather = 3
most_of element.Clouds = 4
most_of element.Temperatures = 1
most_of element.Pressure = 1
most_of element.Recent = 3
most_of element.State = 4
most_of element.Snoclo = 1

-- the item's value in the record: of those that may be several, the k-th
abbrev pub Value : Element → Type 0
Value element.Name = Bool
Value element.Correction = Bool
Value element.Station = Station
Value element.Time = Instant
Value element.Nil = Bool
Value element.Automatic = Bool
Value element.Wind = Wind
Value element.Variation = Variation
Value element.Visibility = Visibility
Value element.Runway = Runway
Value element.Weather = WeatherItem
Value element.Clouds = SkyItem
Value element.Temperatures = Temperatures
Value element.Pressure = Qnh
Value element.Recent = Weather
Value element.State = RunwayState
Value element.Snoclo = Bool

abbrev pub value_of : (e : Element) → ℕ → Observation → Value e
value_of element.Name k r = r.special
value_of element.Correction k r = r.corrected
value_of element.Station k r = r.station
value_of element.Time k r = r.time
value_of element.Nil k r = r.nil
value_of element.Automatic k r = r.automatic
value_of element.Wind k r = r.body.wind
value_of element.Variation k r = r.variation
value_of element.Visibility k r = r.body.visibility
value_of element.Runway k r = get_or r.runways.items k blank_runway
value_of element.Weather k r = weather_at k r.body
value_of element.Clouds k r = sky_at k r.body
value_of element.Temperatures k r = r.temperatures
value_of element.Pressure k r = r.qnh
value_of element.Recent k r = get_or r.recents.items k blank_weather
value_of element.State k r = get_or r.states.items k blank_state
value_of element.Snoclo k r = r.states.snoclo

-- WHAT THE DEFINITION OF THE GROUP SAYS OF ITS BYTES. COR, NIL, AUTO and SNOCLO are words: that the group stands is all they say. Of recent weather, AUTO
-- decides only whether UP is refused.
abbrev pub Said : (e : Element) → Group → Value e → Type 0
Said element.Name g v = v ≡ has_pattern g (bytes "SPECI")
Said element.Correction g v = v ≡ true
Said element.Station g v = v ≡ station_of g
Said element.Time g v = read_time g ≡ Ok v
Said element.Nil g v = v ≡ true
Said element.Automatic g v = v ≡ true
Said element.Wind g v = WindSaid false g v
Said element.Variation g v = read_variation g ≡ Ok v
Said element.Visibility g v = VisibilitySaid false g v
Said element.Runway g v = read_runway g ≡ Ok v
Said element.Weather g v = WeatherSaid false g v
Said element.Clouds g v = SkySaid false g v
Said element.Temperatures g v = read_temperatures g ≡ Ok v
Said element.Pressure g v = read_qnh g ≡ Ok v
Said element.Recent g v = (automatic : Bool) × (read_recent automatic g ≡ Ok v)
Said element.State g v = read_state g ≡ Ok v
Said element.Snoclo g v = v ≡ true
