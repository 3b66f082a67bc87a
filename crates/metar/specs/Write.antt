-- Writing a METAR or SPECI: what the writer judges, the canonical text, and the record that it is read back as.
-- Assumes nothing: these are definitions.
use Rattle.std.specs.Prelude.{⊤, ℕ, Bool, true, cond, not, ◌&&◌, ◌||◌, List, ◌++◌, Ok, Result}
use Rattle.text.specs.declared.kinds.Refusal.{Refusal}
use Rattle.text.specs.Judge.{judge, and_then}
use Rattle.text.specs.Write.{answer_by, buffer_by}
use Rattle.text.specs.Groups.{join}
use Rattle.places.specs.Engine.{Group, written, put_all}
use Rattle.record.specs.declared.aerodrome.Observation.{Observation}
use Rattle.record.specs.declared.aerodrome.Metar.{Metar}
use Rattle.record.specs.Observation.{blank_observation}
use Rattle.record.specs.SilentAerodrome.{no_observation, no_trend}
use Rattle.elements.specs.Wind.{judge_variation}
use Rattle.elements.specs.Weather.{judge_recent, judge_weathers}
use Rattle.elements.specs.Body.{wind_judged, visibility_judged, weather_judged, sky_judged}
use Rattle.aerodrome_groups.specs.Head.{judge_station, judge_time}
use Rattle.aerodrome_groups.specs.Runway.{judge_runways}
use Rattle.aerodrome_groups.specs.Temperatures.{judge_temperatures, judge_qnh}
use Rattle.runway_states.specs.State.{judge_states}
use Rattle.metar_row.specs.Row.{observed, row}
use Rattle.trend.specs.Write.{judge_trend, show_trend, class_trend}

-- ---- foreign fields: in a NIL report what stands after its time

abbrev pub foreign_blank : Metar → Bool
foreign_blank r = not r.observation.nil || (no_observation r.observation && no_trend r.trend)

-- ---- "The writer judges foreign fields first, then the others in written order, 11 before 7 at each"

unfoldable pub judge_head : Observation → Result ⊤ Refusal
judge_head r = and_then (judge_station r.station) (judge_time r.time)

unfoldable pub judge_observation : Observation → Result ⊤ Refusal
judge_observation r =
    and_then (wind_judged (observed r) r.body)
    (and_then (judge_variation r.variation)
    (and_then (visibility_judged (observed r) r.body)
    (and_then (judge_runways r.runways)
    (and_then (weather_judged (observed r) r.body)
    (and_then (sky_judged (observed r) r.body)
    (and_then (judge_temperatures r.temperatures)
    (and_then (judge_qnh r.qnh)
    (and_then (judge_weathers (judge_recent r.automatic) r.recents) (judge_states r.states)))))))))

unfoldable pub judge_of : Metar → Result ⊤ Refusal
judge_of r =
    and_then (judge (foreign_blank r) true)
    (and_then (judge_head r.observation)
    (cond r.observation.nil (Ok tt) (and_then (judge_observation r.observation) (judge_trend r.trend))))

-- ---- the canonical text

unfoldable pub groups_of : Metar → List Group
groups_of r = written row r.observation ++ show_trend r.trend

unfoldable pub canonical_of : Metar → List ℕ
canonical_of r = join (groups_of r)

-- ---- the record that it is read back as: each rounded number the reading of its class, all else as it is

unfoldable pub class_observation : Observation → Observation
class_observation o = put_all row o blank_observation

unfoldable pub classed_of : Metar → Metar
classed_of r = record { observation = class_observation r.observation; trend = class_trend r.trend }

-- ---- what the writer answers, and the lent buffer afterwards

unfoldable pub written_of : Metar → ℕ → Result ℕ Refusal
written_of r room = answer_by (judge_of r) (canonical_of r) room

unfoldable pub buffer_of : Metar → List ℕ → List ℕ
buffer_of r b = buffer_by (judge_of r) (canonical_of r) b
