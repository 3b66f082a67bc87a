-- The items of a body, wind, visibility, each weather group and each cloud group, and what the definition of each group says of its bytes. `forecast` is
-- what the body's terms say.
-- Assumes nothing: these are definitions.
use Rattle.std.specs.Prelude.{ℕ, ◌≡◌, Bool, true, false, cond, ◌&&◌, get_or, eqb, Ok}
use Rattle.shapes.specs.Shape.{has_shape}
use Rattle.places.specs.Engine.{Group}
use Rattle.record.specs.declared.aerodrome.Wind.{Wind}
use Rattle.record.specs.declared.aerodrome.Visibility.{Visibility}
use Rattle.record.specs.declared.aerodrome.Weather.{Weather}
use Rattle.record.specs.declared.aerodrome.Cover.{Cover}
use Rattle.record.specs.declared.aerodrome.Cover.TheVariants as cover
use Rattle.record.specs.declared.aerodrome.Layer.{Layer}
use Rattle.record.specs.declared.aerodrome.Body.{Body}
use Rattle.record.specs.Body.{blank_weather, blank_layer}
use Rattle.elements.specs.Wind.{read_wind}
use Rattle.elements.specs.Visibility.{read_visibility}
use Rattle.elements.specs.Weather.{read_weather}
use Rattle.elements.specs.Sky.{layer_shape, read_layer, read_alone}
use Rattle.elements.specs.Body.{is_nsw}

abbrev pub WindSaid : Bool → Group → Wind → Type 0
WindSaid forecast g w = read_wind forecast g ≡ Ok w

abbrev pub VisibilitySaid : Bool → Group → Visibility → Type 0
VisibilitySaid forecast g v = read_visibility forecast g ≡ Ok v

-- ---- the k-th weather group: NSW, which is the first and sole one, or a weather

pub record WeatherItem : Type 0 where
  pub nsw : Bool
  pub weather : Weather

abbrev pub weather_at : ℕ → Body → WeatherItem
weather_at k b = record { nsw = eqb k 0 && b.nsw; weather = get_or b.weathers.items k blank_weather }

-- what a weather group says, with AUTO or without: that decides only whether UP is refused
pub data WeatherSaid (forecast : Bool) (g : Group) : WeatherItem → Type 0 where
  no-weather : {w : Weather} → is_nsw g ≡ true → WeatherSaid forecast g (record { nsw = true; weather = w })
  a-weather : {n : Bool} {w : Weather} (automatic : Bool) → is_nsw g ≡ false → read_weather forecast automatic g ≡ Ok w → WeatherSaid forecast g (record { nsw = n; weather = w })

-- ---- the k-th cloud group: what stands alone, which is the first and sole one, or a layer

pub record SkyItem : Type 0 where
  pub cover : Cover
  pub layer : Layer

abbrev pub sky_at : ℕ → Body → SkyItem
sky_at k b = record { cover = cond (eqb k 0) b.sky.cover cover.Layers; layer = get_or b.sky.layers k blank_layer }

pub data SkySaid (forecast : Bool) (g : Group) : SkyItem → Type 0 where
  a-layer : {l : Layer} → has_shape layer_shape g ≡ true → read_layer forecast g ≡ Ok l → SkySaid forecast g (record { cover = cover.Layers; layer = l })
  a-cover : {c : Cover} {l : Layer} → has_shape layer_shape g ≡ false → read_alone forecast g ≡ Ok c → SkySaid forecast g (record { cover = c; layer = l })
