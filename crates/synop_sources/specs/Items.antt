-- THE ITEMS OF A SYNOP OR SHIP: where each stands in the record, at which place its group is taken, and what the definition of that group says of its bytes.
-- Assumes nothing: these are definitions.
use Rattle.std.specs.Prelude.{ℤ, ℕ, zero, suc, ◌≡◌, Bool, true, false, cond, not, ◌&&◌, List, [], ◌∷◌, get_or, eqb, leb, pos, nat_abs, None, Option, Some}
use Rattle.figures.specs.Quote.{bytes}
use Rattle.text.specs.Groups.{Piece}
use Rattle.shapes.specs.Pattern.{has_pattern}
use Rattle.places.specs.Engine.{Group}
use Rattle.record.specs.declared.values.Speed.{Speed}
use Rattle.record.specs.declared.values.Speed.TheVariants as speed
use Rattle.record.specs.declared.surface.CallSign.{CallSign}
use Rattle.record.specs.declared.surface.Position.{Position}
use Rattle.record.specs.declared.surface.Time.{Time}
use Rattle.record.specs.declared.surface.Indicators.{Indicators}
use Rattle.record.specs.declared.surface.Wind.{Wind}
use Rattle.record.specs.declared.surface.Air.{Air}
use Rattle.record.specs.declared.surface.Moisture.{Moisture}
use Rattle.record.specs.declared.surface.Pressure.{Pressure}
use Rattle.record.specs.declared.surface.Level.{Level}
use Rattle.record.specs.declared.surface.Tendency.{Tendency}
use Rattle.record.specs.declared.surface.Rainfall.{Rainfall}
use Rattle.record.specs.declared.surface.Weather.{Weather}
use Rattle.record.specs.declared.surface.Clouds.{Clouds}
use Rattle.record.specs.declared.surface.Clock.{Clock}
use Rattle.record.specs.declared.surface.CloudLayer.{CloudLayer}
use Rattle.record.specs.declared.surface.Synop.{Synop}
use Rattle.record.specs.Blank.{blank_layer}
use Rattle.synop_groups.specs.declared.kinds.Said.TheVariants as said
use Rattle.synop_groups.specs.Reads.{said_time, said_station, said_latitude, said_longitude, said_indicators, said_wind, said_speed, said_air, said_moisture, said_pressure, said_level, said_tendency, said_rainfall, said_weather, said_clouds, said_clock, said_layer}
use Rattle.synop_groups.specs.Classes.{speed_in_two}
use Rattle.synop.specs.Read.{sign_of}
use Rattle.sources.specs.declared.kinds.Spot.{Spot}
use Rattle.sources.specs.declared.kinds.Spot.TheVariants as spot
use Rattle.sources.specs.Trail.{Taken, Origin, nowhere, group}
use Rattle.synop_sources.specs.Trail.{name_place, sign_place, time_place, station_place, latitude_place, longitude_place, nil_place, indicators_place, wind_place}
use Rattle.synop_sources.specs.declared.kinds.Element.{Element}
use Rattle.synop_sources.specs.declared.kinds.Element.TheVariants as element

-- the part of the report, and the place of its group there
abbrev pub part_of : Element → ℕ
part_of element.Name = 0
part_of element.Sign = 0
part_of element.Time = 0
part_of element.Station = 0
part_of element.Latitude = 0
part_of element.Longitude = 0
part_of element.Nil = 0
part_of element.Indicators = 0
part_of element.Wind = 0
part_of element.Speed = 0
part_of element.Air = 0
part_of element.Moisture = 0
part_of element.Pressure = 0
part_of element.Level = 0
part_of element.Tendency = 0
part_of element.Rainfall = 0
part_of element.Weather = 0
part_of element.Clouds = 0
part_of element.Clock = 0
part_of element.Maximum = 1
part_of element.Minimum = 1

abbrev pub place_of : Element → ℕ
place_of element.Name = name_place
place_of element.Sign = sign_place
place_of element.Time = time_place
place_of element.Station = station_place
place_of element.Latitude = latitude_place
place_of element.Longitude = longitude_place
place_of element.Nil = nil_place
place_of element.Indicators = indicators_place
place_of element.Wind = wind_place
place_of element.Speed = 0
place_of element.Air = 1
place_of element.Moisture = 2
place_of element.Pressure = 3
place_of element.Level = 4
place_of element.Tendency = 5
place_of element.Rainfall = 6
place_of element.Weather = 7
place_of element.Clouds = 8
place_of element.Clock = 9
place_of element.Maximum = 0
place_of element.Minimum = 1

-- one group at most says each of them
abbrev pub spot_of : Element → Spot
spot_of e = spot.At (place_of e) 0

-- ---- values that two groups say together

-- A ship's position as 99LaLaLa leaves it: the latitude without its sign, which QcLoLoLoLo says with the longitude.
abbrev pub unsigned : Option ℤ → Option ℤ
unsigned None = None
unsigned (Some t) = Some (pos (nat_abs t))

abbrev pub northern : Position → Position
northern p = record { latitude = unsigned p.latitude; longitude = None }

-- The wind as Nddff leaves it: a speed of 99 or more is its ff 99. And a speed over 99, which 00fff alone says. Both together are the wind of the record.
abbrev pub wind_in_two : Wind → Wind
wind_in_two w = record { cover = w.cover; direction = w.direction; speed = speed_in_two w.speed }

abbrev pub over99 : Speed → Speed
over99 speed.Missing = speed.Missing
over99 (speed.Is s) = cond (leb s 99) speed.Missing (speed.Is s)
over99 (speed.Above s) = speed.Missing

-- ---- the items

abbrev pub Value : Element → Type 0
Value element.Name = Bool
Value element.Sign = CallSign
Value element.Time = Time
Value element.Station = Option ℕ
Value element.Latitude = Position
Value element.Longitude = Position
Value element.Nil = Bool
Value element.Indicators = Indicators
Value element.Wind = Wind
Value element.Speed = Speed
Value element.Air = Air
Value element.Moisture = Moisture
Value element.Pressure = Pressure
Value element.Level = Level
Value element.Tendency = Tendency
Value element.Rainfall = Rainfall
Value element.Weather = Weather
Value element.Clouds = Clouds
Value element.Clock = Clock
Value element.Maximum = Air
Value element.Minimum = Air

abbrev pub value_of : (e : Element) → Synop → Value e
value_of element.Name r = r.ship
value_of element.Sign r = r.site.sign
value_of element.Time r = r.site.time
value_of element.Station r = r.site.station
value_of element.Latitude r = northern r.site.position
value_of element.Longitude r = r.site.position
value_of element.Nil r = r.site.nil
value_of element.Indicators r = r.surface.indicators
value_of element.Wind r = wind_in_two r.surface.wind
value_of element.Speed r = over99 r.surface.wind.speed
value_of element.Air r = r.surface.air
value_of element.Moisture r = r.surface.moisture
value_of element.Pressure r = r.surface.pressure
value_of element.Level r = r.surface.level
value_of element.Tendency r = r.surface.tendency
value_of element.Rainfall r = r.surface.rainfall
value_of element.Weather r = r.surface.weather
value_of element.Clouds r = r.surface.clouds
value_of element.Clock r = r.surface.clock
value_of element.Maximum r = r.section3.maximum
value_of element.Minimum r = r.section3.minimum

-- a station's number
pub data StationSaid (g : Group) : Option ℕ → Type 0 where
  says : {n : ℕ} → said_station g ≡ said.Station n → StationSaid g (Some n)

-- 00fff after ff 99
pub data SpeedSaid (g : Group) : Speed → Type 0 where
  says : {n : ℕ} → said_speed true g ≡ said.Speed n → SpeedSaid g (over99 (speed.Is n))

-- WHAT THE DEFINITION OF THE GROUP SAYS OF ITS BYTES. NIL is a word: that the group stands is all it says. QcLoLoLoLo is read after a latitude without its
-- sign, and says with which one. 6RRRt and 7wwWW are read as groups that iR and ix allow: where these forbid one, the text is refused.
abbrev pub Said : (e : Element) → Group → Value e → Type 0
Said element.Name g v = v ≡ has_pattern g (bytes "BBXX")
Said element.Sign g v = v ≡ sign_of g
Said element.Time g v = said_time g ≡ said.Time v
Said element.Station g v = StationSaid g v
Said element.Latitude g v = said_latitude g ≡ said.Position v
Said element.Longitude g v = said_longitude (northern v) g ≡ said.Position v
Said element.Nil g v = v ≡ true
Said element.Indicators g v = said_indicators g ≡ said.Indicators v
Said element.Wind g v = said_wind g ≡ said.Wind v
Said element.Speed g v = SpeedSaid g v
Said element.Air g v = said_air g ≡ said.Air v
Said element.Moisture g v = said_moisture g ≡ said.Moisture v
Said element.Pressure g v = said_pressure g ≡ said.Pressure v
Said element.Level g v = said_level g ≡ said.Level v
Said element.Tendency g v = said_tendency g ≡ said.Tendency v
Said element.Rainfall g v = said_rainfall false g ≡ said.Rainfall v
Said element.Weather g v = said_weather false g ≡ said.Weather v
Said element.Clouds g v = said_clouds g ≡ said.Clouds v
Said element.Clock g v = said_clock g ≡ said.Clock v
Said element.Maximum g v = said_air g ≡ said.Air v
Said element.Minimum g v = said_air g ≡ said.Air v

-- ---- the layers of section 3: "8//// is no layer", so that the k-th layer need not be what the k-th of the groups 8NChh says

abbrev pub layers_place : ℕ
layers_place = 2

abbrev pub at_layers : Spot → Bool
at_layers spot.Opening = false
at_layers spot.Joined = false
at_layers (spot.At i n) = eqb i layers_place

-- a group that says a layer: one of section 3 at its place, that is not 8////
abbrev pub says_layer : ℕ → Bool → Group → Bool
says_layer part there g = (eqb part 1 && there) && not (has_pattern g (bytes "8////"))

abbrev pub is_layer : Taken → Bool
is_layer x = says_layer x.part (at_layers x.spot) x.piece.bytes

-- the group of a trail that says the k-th layer
abbrev pub kth : ℕ → Piece → (ℕ → Origin) → Origin
kth zero g more = group g
kth (suc k) g more = more k

unfoldable pub layer_in : ℕ → List Taken → Origin
layer_in k [] = nowhere
layer_in k (x ∷ xs) = cond (is_layer x) (kth k x.piece (λ j. layer_in j xs)) (layer_in k xs)

abbrev pub layer_of : ℕ → Synop → CloudLayer
layer_of k r = get_or r.section3.layers.items k blank_layer

abbrev pub LayerSaid : Group → CloudLayer → Type 0
LayerSaid g v = said_layer g ≡ said.Layer v
