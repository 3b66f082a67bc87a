-- The body, which an observation and each part of a forecast have alike, with one element set, and the blank one.
-- Assumes nothing: these are definitions.
use Rattle.std.specs.Prelude.{Bool, false, replicate, None}
use Rattle.record.specs.declared.aerodrome.Wind.{Wind}
use Rattle.record.specs.declared.aerodrome.Visibility.{Visibility}
use Rattle.record.specs.declared.aerodrome.Weather.{Weather}
use Rattle.record.specs.declared.aerodrome.Weathers.{Weathers}
use Rattle.record.specs.declared.aerodrome.Layer.{Layer}
use Rattle.record.specs.declared.aerodrome.Sky.{Sky}
use Rattle.record.specs.declared.aerodrome.Body.{Body}
use Rattle.record.specs.declared.aerodrome.Unit.TheVariants as unit
use Rattle.record.specs.declared.aerodrome.View.TheVariants as view
use Rattle.record.specs.declared.aerodrome.Amount.TheVariants as amount
use Rattle.record.specs.declared.aerodrome.Convective.TheVariants as convective
use Rattle.record.specs.declared.aerodrome.Cover.TheVariants as cover
use Rattle.record.specs.declared.values.Direction.TheVariants as direction
use Rattle.record.specs.declared.values.Speed.TheVariants as speed

abbrev pub set_wind : Wind → Body → Body
set_wind x r = record { wind = x; visibility = r.visibility; weathers = r.weathers; nsw = r.nsw; sky = r.sky }

abbrev pub set_visibility : Visibility → Body → Body
set_visibility x r = record { wind = r.wind; visibility = x; weathers = r.weathers; nsw = r.nsw; sky = r.sky }

abbrev pub set_weathers : Weathers → Body → Body
set_weathers x r = record { wind = r.wind; visibility = r.visibility; weathers = x; nsw = r.nsw; sky = r.sky }

abbrev pub set_nsw : Bool → Body → Body
set_nsw x r = record { wind = r.wind; visibility = r.visibility; weathers = r.weathers; nsw = x; sky = r.sky }

abbrev pub set_sky : Sky → Body → Body
set_sky x r = record { wind = r.wind; visibility = r.visibility; weathers = r.weathers; nsw = r.nsw; sky = x }

abbrev pub blank_wind : Wind
blank_wind = record { direction = direction.Missing; speed = speed.Missing; gust = speed.Missing; unit = unit.Missing }

abbrev pub blank_visibility : Visibility
blank_visibility = record { is = view.Missing }

abbrev pub blank_weather : Weather
blank_weather = record { is = None }

abbrev pub blank_weathers : Weathers
blank_weathers = record { items = replicate 3 blank_weather; count = 0 }

abbrev pub blank_layer : Layer
blank_layer = record { amount = amount.None; height = None; convective = convective.None }

abbrev pub blank_sky : Sky
blank_sky = record { cover = cover.Layers; layers = replicate 4 blank_layer; count = 0 }

abbrev pub blank_body : Body
blank_body = record { wind = blank_wind; visibility = blank_visibility; weathers = blank_weathers; nsw = false; sky = blank_sky }
