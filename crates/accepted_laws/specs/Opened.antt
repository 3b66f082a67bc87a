-- A record as the writer says it more openly: each wind speed of an aerodrome that is over its unit's last figure is "above" it. Document 02, No. 8: "The
-- writer uses P for 100 knots, 50 m/s, 200 km/h and more"; read as figures such a speed is a number ("three for 100-199"). All else is as it is.
-- Assumes nothing: these are definitions.
use Rattle.std.specs.Prelude.{map}
use Rattle.record.specs.declared.aerodrome.Wind.{Wind}
use Rattle.record.specs.declared.aerodrome.Body.{Body}
use Rattle.record.specs.declared.aerodrome.TrendChange.{TrendChange}
use Rattle.record.specs.declared.aerodrome.Metar.{Metar}
use Rattle.record.specs.declared.aerodrome.Change.{Change}
use Rattle.record.specs.declared.aerodrome.Taf.{Taf}
use Rattle.record.specs.Body.{set_wind}
use Rattle.record.specs.Observation as observation
use Rattle.record.specs.Trend as trend
use Rattle.record.specs.Taf as leg
use Rattle.elements.specs.Wind.{class_speed}
use Rattle.report_record.specs.declared.kinds.Report.{Report}

abbrev pub open_wind : Wind → Wind
open_wind w = record { direction = w.direction; speed = class_speed w.unit w.speed; gust = class_speed w.unit w.gust; unit = w.unit }

abbrev pub open_body : Body → Body
open_body b = set_wind (open_wind b.wind) b

-- ---- METAR and SPECI: the observation's wind, and that of each change of the trend

abbrev pub open_trend_change : TrendChange → TrendChange
open_trend_change c = trend.set_body (open_body c.body) c

abbrev pub open_metar : Metar → Metar
open_metar m =
    record {
      observation = observation.set_body (open_body m.observation.body) m.observation;
      trend = record { items = map open_trend_change m.trend.items; count = m.trend.count; nosig = m.trend.nosig };
    }

-- ---- TAF: the main part's wind, and that of each change; its edition stays

abbrev pub open_change : Change → Change
open_change c = record { opening = c.opening; period = c.period; body = open_body c.body }

abbrev pub open_taf : Taf → Taf
open_taf t =
    record {
      edition = t.edition;
      leg = leg.set_body (open_body t.leg.body) t.leg;
      changes = record { items = map open_change t.changes.items; count = t.changes.count };
    }

-- ---- THE RECORD OF ANY KIND: a SYNOP or SHIP has no such speed, and stays as it is

abbrev pub speeds_opened : Report → Report
speeds_opened r = record { kind = r.kind; surface = r.surface; observed = open_metar r.observed; forecast = open_taf r.forecast }
