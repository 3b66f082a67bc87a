-- A trend's change with one part set, and the blank trend and METAR.
-- Assumes nothing: these are definitions.
use Rattle.std.specs.Prelude.{false, replicate}
use Rattle.record.specs.declared.aerodrome.Body.{Body}
use Rattle.record.specs.declared.aerodrome.Hours.TheVariants as hours
use Rattle.record.specs.declared.aerodrome.Times.{Times}
use Rattle.record.specs.declared.aerodrome.Tendency.{Tendency}
use Rattle.record.specs.declared.aerodrome.Tendency.TheVariants as tendency
use Rattle.record.specs.declared.aerodrome.TrendChange.{TrendChange}
use Rattle.record.specs.declared.aerodrome.Trend.{Trend}
use Rattle.record.specs.declared.aerodrome.Metar.{Metar}
use Rattle.record.specs.Body.{blank_body}
use Rattle.record.specs.Observation.{blank_observation}

abbrev pub set_tendency : Tendency → TrendChange → TrendChange
set_tendency x c = record { tendency = x; times = c.times; body = c.body }

abbrev pub set_times : Times → TrendChange → TrendChange
set_times x c = record { tendency = c.tendency; times = x; body = c.body }

abbrev pub set_body : Body → TrendChange → TrendChange
set_body x c = record { tendency = c.tendency; times = c.times; body = x }

abbrev pub blank_times : Times
blank_times = record { is = hours.None }

abbrev pub blank_trend_change : TrendChange
blank_trend_change = record { tendency = tendency.None; times = blank_times; body = blank_body }

abbrev pub blank_trend : Trend
blank_trend = record { items = replicate 3 blank_trend_change; count = 0; nosig = false }

abbrev pub blank_metar : Metar
blank_metar = record { observation = blank_observation; trend = blank_trend }
