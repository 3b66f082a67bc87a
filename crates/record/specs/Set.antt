-- The record with one part set.
-- Assumes nothing: these are definitions.
use Rattle.record.specs.declared.surface.Indicators.{Indicators}
use Rattle.record.specs.declared.surface.Wind.{Wind}
use Rattle.record.specs.declared.surface.Air.{Air}
use Rattle.record.specs.declared.surface.Moisture.{Moisture}
use Rattle.record.specs.declared.surface.Pressure.{Pressure}
use Rattle.record.specs.declared.surface.Level.{Level}
use Rattle.record.specs.declared.surface.Tendency.{Tendency}
use Rattle.record.specs.declared.surface.Rainfall.{Rainfall}
use Rattle.record.specs.declared.surface.Weather.{Weather}
use Rattle.record.specs.declared.surface.Clouds.{Clouds}
use Rattle.record.specs.declared.surface.Clock.{Clock}
use Rattle.record.specs.declared.surface.Surface.{Surface}
use Rattle.std.specs.Prelude.{ℕ, Bool, Option}
use Rattle.record.specs.declared.surface.CallSign.{CallSign}
use Rattle.record.specs.declared.surface.Position.{Position}
use Rattle.record.specs.declared.surface.Time.{Time}
use Rattle.record.specs.declared.surface.Site.{Site}
use Rattle.record.specs.declared.surface.CloudLayers.{CloudLayers}
use Rattle.record.specs.declared.surface.Section3.{Section3}
use Rattle.record.specs.declared.surface.Synop.{Synop}

abbrev pub set_indicators : Indicators → Surface → Surface
set_indicators x s = record { indicators = x; wind = s.wind; air = s.air; moisture = s.moisture; pressure = s.pressure; level = s.level; tendency = s.tendency; rainfall = s.rainfall; weather = s.weather; clouds = s.clouds; clock = s.clock }

abbrev pub set_wind : Wind → Surface → Surface
set_wind x s = record { indicators = s.indicators; wind = x; air = s.air; moisture = s.moisture; pressure = s.pressure; level = s.level; tendency = s.tendency; rainfall = s.rainfall; weather = s.weather; clouds = s.clouds; clock = s.clock }

abbrev pub set_air : Air → Surface → Surface
set_air x s = record { indicators = s.indicators; wind = s.wind; air = x; moisture = s.moisture; pressure = s.pressure; level = s.level; tendency = s.tendency; rainfall = s.rainfall; weather = s.weather; clouds = s.clouds; clock = s.clock }

abbrev pub set_moisture : Moisture → Surface → Surface
set_moisture x s = record { indicators = s.indicators; wind = s.wind; air = s.air; moisture = x; pressure = s.pressure; level = s.level; tendency = s.tendency; rainfall = s.rainfall; weather = s.weather; clouds = s.clouds; clock = s.clock }

abbrev pub set_pressure : Pressure → Surface → Surface
set_pressure x s = record { indicators = s.indicators; wind = s.wind; air = s.air; moisture = s.moisture; pressure = x; level = s.level; tendency = s.tendency; rainfall = s.rainfall; weather = s.weather; clouds = s.clouds; clock = s.clock }

abbrev pub set_level : Level → Surface → Surface
set_level x s = record { indicators = s.indicators; wind = s.wind; air = s.air; moisture = s.moisture; pressure = s.pressure; level = x; tendency = s.tendency; rainfall = s.rainfall; weather = s.weather; clouds = s.clouds; clock = s.clock }

abbrev pub set_tendency : Tendency → Surface → Surface
set_tendency x s = record { indicators = s.indicators; wind = s.wind; air = s.air; moisture = s.moisture; pressure = s.pressure; level = s.level; tendency = x; rainfall = s.rainfall; weather = s.weather; clouds = s.clouds; clock = s.clock }

abbrev pub set_rainfall : Rainfall → Surface → Surface
set_rainfall x s = record { indicators = s.indicators; wind = s.wind; air = s.air; moisture = s.moisture; pressure = s.pressure; level = s.level; tendency = s.tendency; rainfall = x; weather = s.weather; clouds = s.clouds; clock = s.clock }

abbrev pub set_weather : Weather → Surface → Surface
set_weather x s = record { indicators = s.indicators; wind = s.wind; air = s.air; moisture = s.moisture; pressure = s.pressure; level = s.level; tendency = s.tendency; rainfall = s.rainfall; weather = x; clouds = s.clouds; clock = s.clock }

abbrev pub set_clouds : Clouds → Surface → Surface
set_clouds x s = record { indicators = s.indicators; wind = s.wind; air = s.air; moisture = s.moisture; pressure = s.pressure; level = s.level; tendency = s.tendency; rainfall = s.rainfall; weather = s.weather; clouds = x; clock = s.clock }

abbrev pub set_clock : Clock → Surface → Surface
set_clock x s = record { indicators = s.indicators; wind = s.wind; air = s.air; moisture = s.moisture; pressure = s.pressure; level = s.level; tendency = s.tendency; rainfall = s.rainfall; weather = s.weather; clouds = s.clouds; clock = x }

abbrev pub set_station : Option ℕ → Site → Site
set_station x s = record { station = x; sign = s.sign; position = s.position; time = s.time; nil = s.nil }

abbrev pub set_sign : CallSign → Site → Site
set_sign x s = record { station = s.station; sign = x; position = s.position; time = s.time; nil = s.nil }

abbrev pub set_position : Position → Site → Site
set_position x s = record { station = s.station; sign = s.sign; position = x; time = s.time; nil = s.nil }

abbrev pub set_time : Time → Site → Site
set_time x s = record { station = s.station; sign = s.sign; position = s.position; time = x; nil = s.nil }

abbrev pub set_nil : Bool → Site → Site
set_nil x s = record { station = s.station; sign = s.sign; position = s.position; time = s.time; nil = x }

abbrev pub set_site : Site → Synop → Synop
set_site x r = record { ship = r.ship; site = x; surface = r.surface; section3 = r.section3 }

abbrev pub set_surface : Surface → Synop → Synop
set_surface x r = record { ship = r.ship; site = r.site; surface = x; section3 = r.section3 }

abbrev pub set_section3 : Section3 → Synop → Synop
set_section3 x r = record { ship = r.ship; site = r.site; surface = r.surface; section3 = x }

abbrev pub set_maximum : Air → Section3 → Section3
set_maximum x s = record { maximum = x; minimum = s.minimum; layers = s.layers }

abbrev pub set_minimum : Air → Section3 → Section3
set_minimum x s = record { maximum = s.maximum; minimum = x; layers = s.layers }

abbrev pub set_layers : CloudLayers → Section3 → Section3
set_layers x s = record { maximum = s.maximum; minimum = s.minimum; layers = x }
