-- Nothing is said in a SYNOP or SHIP, group by group and in the whole: "a field foreign to the kind (or to NIL, CNL) that is not blank" is refused 11.
-- Assumes nothing: these are definitions.
use Rattle.std.specs.Prelude.{Bool, true, false, not, ◌&&◌, eqb, None, Option, Some}
use Rattle.figures.specs.Figures.{every}
use Rattle.record.specs.declared.surface.CallSign.{CallSign}
use Rattle.record.specs.declared.surface.Position.{Position}
use Rattle.record.specs.declared.surface.Time.{Time}
use Rattle.record.specs.declared.surface.Sight.{Sight}
use Rattle.record.specs.declared.surface.Sight.TheVariants as sight
use Rattle.record.specs.declared.surface.Indicators.{Indicators}
use Rattle.record.specs.declared.surface.Wind.{Wind}
use Rattle.record.specs.declared.surface.Moist.{Moist}
use Rattle.record.specs.declared.surface.Moist.TheVariants as moist
use Rattle.record.specs.declared.surface.AtLevel.{AtLevel}
use Rattle.record.specs.declared.surface.AtLevel.TheVariants as at_level
use Rattle.record.specs.declared.surface.PressureChange.{PressureChange}
use Rattle.record.specs.declared.surface.Fall.{Fall}
use Rattle.record.specs.declared.surface.Weather.{Weather}
use Rattle.record.specs.declared.surface.Clouds.{Clouds}
use Rattle.record.specs.declared.surface.Observed.{Observed}
use Rattle.record.specs.declared.surface.BaseHeight.{BaseHeight}
use Rattle.record.specs.declared.surface.BaseHeight.TheVariants as height
use Rattle.record.specs.declared.surface.CloudLayer.{CloudLayer}
use Rattle.record.specs.declared.surface.CloudLayers.{CloudLayers}
use Rattle.record.specs.declared.surface.Section3.{Section3}
use Rattle.record.specs.declared.surface.Surface.{Surface}
use Rattle.record.specs.declared.surface.Site.{Site}
use Rattle.record.specs.declared.surface.Synop.{Synop}
use Rattle.record.specs.Missing.{is_missing, no_direction, no_speed, no_letters}

-- ---- the groups, in written order

abbrev pub no_sign : CallSign → Bool
no_sign s = eqb s.length 0 && no_letters s.letters

abbrev pub no_position : Position → Bool
no_position p = is_missing p.latitude && is_missing p.longitude

abbrev pub no_time : Time → Bool
no_time t = is_missing t.day && is_missing t.hour && is_missing t.unit

abbrev pub no_sight : Sight → Bool
no_sight sight.Missing = true
no_sight (sight.Land m) = false
no_sight (sight.Sea m) = false

abbrev pub no_indicators : Indicators → Bool
no_indicators i = is_missing i.rain && is_missing i.weather && is_missing i.base && no_sight i.sight

abbrev pub no_wind : Wind → Bool
no_wind w = is_missing w.cover && no_direction w.direction && no_speed w.speed

abbrev pub no_moist : Moist → Bool
no_moist moist.Missing = true
no_moist (moist.DewPoint t) = false
no_moist (moist.Humidity u) = false

abbrev pub no_level : AtLevel → Bool
no_level at_level.Missing = true
no_level (at_level.Pressure p) = false
no_level (at_level.Isobaric a h) = false

abbrev pub no_weather : Weather → Bool
no_weather w = is_missing w.present && is_missing w.past && is_missing w.past2

abbrev pub no_clouds : Clouds → Bool
no_clouds c = is_missing c.amount && is_missing c.low && is_missing c.middle && is_missing c.high

-- ---- section 3

abbrev pub no_height : BaseHeight → Bool
no_height height.Missing = true
no_height (height.Steps m) = false
no_height (height.Bands m) = false

abbrev pub is_blank_layer : CloudLayer → Bool
is_blank_layer l = is_missing l.amount && is_missing l.cloud && no_height l.height

abbrev pub no_layers : CloudLayers → Bool
no_layers ls = eqb ls.count 0 && every is_blank_layer ls.items

abbrev pub no_section3 : Section3 → Bool
no_section3 s = is_missing s.maximum.temperature && is_missing s.minimum.temperature && no_layers s.layers

-- ---- the report

abbrev pub no_site : Site → Bool
no_site s = is_missing s.station && no_sign s.sign && no_position s.position && no_time s.time && not s.nil

-- nothing stands after the station or position
unfoldable pub no_surface : Surface → Bool
no_surface s =
    no_indicators s.indicators && no_wind s.wind && is_missing s.air.temperature && no_moist s.moisture.is && is_missing s.pressure.station
    && no_level s.level.is && is_missing s.tendency.is && is_missing s.rainfall.is && no_weather s.weather && no_clouds s.clouds
    && is_missing s.clock.is

unfoldable pub is_blank_synop : Synop → Bool
is_blank_synop r = not r.ship && no_site r.site && no_surface r.surface && no_section3 r.section3
