-- METAR and SPECI: THE CAUSES for which the writer refuses a record, in the order of judging, "foreign fields first, then the others in written order, 11 before
-- 7 at each".
-- Assumes nothing.
use Rattle.std.specs.Prelude.{None, Option, Some}
use Prim.Native.Nat.{ℕ, ◌+◌}
use mathlib.Core.Path.{refl}
use mathlib.Core.Bool.{Bool, true, false, cond, not, ◌&&◌, ◌||◌}
use mathlib.Core.List.{List, [], ◌∷◌, ◌++◌}
use lib.ListN.{take, drop}
use lib.Dec.{leb, eqb}
use Rattle.figures.specs.Figures.{every}
use Rattle.text.specs.declared.kinds.Refusal.TheVariants as refusal
use Rattle.text.specs.Judge.{judge}
use Rattle.record.specs.declared.aerodrome.Extremes.{Extremes}
use Rattle.record.specs.declared.aerodrome.Variation.{Variation}
use Rattle.record.specs.declared.aerodrome.Runway.{Runway}
use Rattle.record.specs.declared.aerodrome.Runways.{Runways}
use Rattle.record.specs.declared.aerodrome.Temperatures.{Temperatures}
use Rattle.record.specs.declared.aerodrome.Qnh.{Qnh}
use Rattle.record.specs.declared.aerodrome.Phenomena.{Phenomena}
use Rattle.record.specs.declared.aerodrome.Weather.{Weather}
use Rattle.record.specs.declared.aerodrome.Weathers.{Weathers}
use Rattle.record.specs.declared.aerodrome.Condition.{Condition}
use Rattle.record.specs.declared.aerodrome.Condition.TheVariants as condition
use Rattle.record.specs.declared.aerodrome.RunwayState.{RunwayState}
use Rattle.record.specs.declared.aerodrome.RunwayStates.{RunwayStates}
use Rattle.record.specs.declared.aerodrome.Observation.{Observation}
use Rattle.record.specs.declared.aerodrome.TrendChange.{TrendChange}
use Rattle.record.specs.declared.aerodrome.Trend.{Trend}
use Rattle.record.specs.declared.aerodrome.Metar.{Metar}
use Rattle.record.specs.Missing.{between}
use Rattle.record.specs.SilentAerodrome.{is_blank_weather, is_blank_runway, is_blank_state, no_tendency, is_blank_trend_change, no_observation, no_trend}
use Rattle.elements.specs.Judge.{metres_fit}
use Rattle.elements.specs.Wind.{judge_variation, extremes_fit, extremes_agree}
use Rattle.scales.specs.Rounded.{ddd_figure}
use Rattle.elements.specs.Weather as weathers
use Rattle.elements.specs.Body.{changing, has_element}
use Rattle.aerodrome_groups.specs.Runway.{judge_each_runway, judge_runways}
use Rattle.aerodrome_groups.specs.Temperatures.{tenths_fit, is_pressure, judge_temperatures, judge_qnh}
use Rattle.runway_states.specs.Tables.{runways, deposits, extents, brakings, has}
use Rattle.runway_states.specs.State.{depth_fits, condition_fits, judge_each_state, judge_states}
use Rattle.trend_row.specs.Times.{hours_fit}
use Rattle.trend.specs.Write as trend
use Rattle.metar_row.specs.Row.{observed}
use Rattle.metar.specs.Write.{foreign_blank, judge_head, judge_observation, judge_of}
use Rattle.report_laws.proofs.Listed.{outside-its-range, required-missing, foreign, disagreeing, Asked, asked, unless, needed, free, none, one_more, twice, Judges, Clears, group-judges, value-judges, in-turn, chosen, no-cause, no_test, both-clear, clear-unless, clear-asked, clear-needed, clear-free, clear-where, each_from, counted, count-clear}
use Rattle.report_laws.proofs.AerodromeCauses as shared

-- the fields of a change of the trend
pub data ChangeField : Type 0 where
  word : ChangeField
  times : ChangeField
  element : ChangeField
  of-body : shared.BodyField → ChangeField

-- the fields of a record; those of a list by their number, from 0
pub data Field : Type 0 where
  station : Field
  time : shared.InstantField → Field
  groups-after-nil : Field
  trend-after-nil : Field
  observed-body : shared.BodyField → Field
  variation : Field
  runway-ranges : Field
  runway-of-range : ℕ → Field
  runway-range : ℕ → Field
  temperature : Field
  dew-point : Field
  qnh : Field
  recent-weathers : Field
  recent-weather : ℕ → Field
  runway-states : Field
  runway-of-state : ℕ → Field
  deposit : ℕ → Field
  extent : ℕ → Field
  depth : ℕ → Field
  braking : ℕ → Field
  runway-state : ℕ → Field
  trend-changes : Field
  trend-change : ℕ → ChangeField → Field

abbrev Causes : Type 0
Causes = List (Asked Field)

-- ---- the observation, beside its body

abbrev variation_causes : Option Extremes → Causes
variation_causes None = []
variation_causes (Some x) =
    (unless (leb x.from 359) (outside-its-range variation) ++ unless (leb x.to 359) (outside-its-range variation)) ++ unless (not (eqb (ddd_figure x.from) (ddd_figure x.to))) (disagreeing variation)

variation-judged : (v : Variation) → Judges (judge_variation v) (variation_causes v.is)
unfolding judge_variation
variation-judged v = go v.is
  where
    go : (x : Option Extremes) → Judges (judge (extremes_fit x) (extremes_agree x)) (variation_causes x)
    go None = no-cause
    go (Some x) =
        group-judges (both-clear (clear-unless (leb x.from 359)) (clear-unless (leb x.to 359))) (clear-unless {c = disagreeing variation} (not (eqb (ddd_figure x.from) (ddd_figure x.to))))

abbrev range_right : ℕ → Bool
range_right m = leb m 99999

abbrev runway_causes : ℕ → Runway → Causes
runway_causes n w = needed (runway-of-range n) (between 1 36) w.number ++ free (runway-range n) range_right w.range

range-fits : (n : Option ℕ) {f : Field} → Clears refusal.Value (metres_fit false n) (free f range_right n)
range-fits None = record { alike = one_more refl none; is = refl }
range-fits (Some m) = record { alike = one_more refl none; is = twice (leb m 99999) }

each-runway : (n : ℕ) (ws : List Runway) → Judges (judge_each_runway ws) (each_from runway_causes n ws)
each-runway n [] = no-cause
each-runway n (w ∷ ws) = in-turn (value-judges (both-clear (clear-needed (between 1 36) w.number) (range-fits w.range))) (each-runway (n + 1) ws)

abbrev runways_causes : Runways → Causes
runways_causes w = counted runway-ranges (leb w.count 4) (every is_blank_runway (drop w.count w.items)) ++ each_from runway_causes 0 (take w.count w.items)

runways-judged : (w : Runways) → Judges (judge_runways w) (runways_causes w)
unfolding judge_runways
runways-judged w = in-turn (value-judges (count-clear (leb w.count 4) (every is_blank_runway (drop w.count w.items)))) (each-runway 0 (take w.count w.items))

abbrev temperature_causes : Temperatures → Causes
temperature_causes t = unless (tenths_fit t.air) (outside-its-range temperature) ++ unless (tenths_fit t.dew) (outside-its-range dew-point)

temperatures-judged : (t : Temperatures) → Judges (judge_temperatures t) (temperature_causes t)
unfolding judge_temperatures
temperatures-judged t = value-judges (both-clear (clear-unless (tenths_fit t.air)) (clear-unless (tenths_fit t.dew)))

abbrev qnh_causes : Qnh → Causes
qnh_causes q = free qnh is_pressure q.is

qnh-judged : (q : Qnh) → Judges (judge_qnh q) (qnh_causes q)
unfolding judge_qnh
qnh-judged q = value-judges (clear-free is_pressure q.is)

-- "RE groups carry no sign and no VC (5)", and a missing one says nothing; UP without AUTO is 7
abbrev recent_right : ℕ → Option Phenomena → Causes
recent_right n None = asked (required-missing (recent-weather n)) true ∷ []
recent_right n (Some x) =
    unless (weathers.phenomena_fit (Some x)) (outside-its-range (recent-weather n)) ++ unless (weathers.is_plain (Some x)) (outside-its-range (recent-weather n))

abbrev recent_causes : Bool → ℕ → Weather → Causes
recent_causes automatic n w = recent_right n w.is ++ unless (automatic || not (weathers.has_unknown w.is)) (disagreeing (recent-weather n))

recent-judged : (automatic : Bool) (n : ℕ) (w : Weather) → Judges (weathers.judge_recent automatic w) (recent_causes automatic n w)
unfolding weathers.judge_recent
recent-judged automatic n w = group-judges (go w.is) (clear-unless {c = disagreeing (recent-weather n)} (automatic || not (weathers.has_unknown w.is)))
  where
    go : (x : Option Phenomena) → Clears refusal.Value (weathers.phenomena_fit x && weathers.is_plain x) (recent_right n x)
    go None = clear-asked true
    go (Some x) = both-clear (clear-unless (weathers.phenomena_fit (Some x))) (clear-unless (weathers.is_plain (Some x)))

each-recent : (automatic : Bool) (n : ℕ) (ws : List Weather) → Judges (weathers.judge_each (weathers.judge_recent automatic) ws) (each_from (recent_causes automatic) n ws)
each-recent automatic n [] = no-cause
each-recent automatic n (w ∷ ws) = in-turn (recent-judged automatic n w) (each-recent automatic (n + 1) ws)

abbrev recents_causes : Bool → Weathers → Causes
recents_causes automatic ws =
    counted recent-weathers (leb ws.count 3) (every is_blank_weather (drop ws.count ws.items)) ++ each_from (recent_causes automatic) 0 (take ws.count ws.items)

recents-judged : (automatic : Bool) (ws : Weathers) → Judges (weathers.judge_weathers (weathers.judge_recent automatic) ws) (recents_causes automatic ws)
unfolding weathers.judge_weathers
recents-judged automatic ws =
    in-turn (value-judges (count-clear (leb ws.count 3) (every is_blank_weather (drop ws.count ws.items)))) (each-recent automatic 0 (take ws.count ws.items))

abbrev condition_causes : ℕ → Condition → Causes
condition_causes n condition.Cleared = []
condition_causes n (condition.Covered d e h b) =
    ((free (deposit n) (has deposits) d ++ free (extent n) (has extents) e) ++ unless (depth_fits h) (outside-its-range (depth n))) ++ free (braking n) (has brakings) b

condition-clear : (n : ℕ) (c : Condition) → Clears refusal.Value (condition_fits c) (condition_causes n c)
condition-clear n condition.Cleared = no_test
condition-clear n (condition.Covered d e h b) =
    both-clear (both-clear (both-clear (clear-free (has deposits) d) (clear-free (has extents) e)) (clear-unless (depth_fits h))) (clear-free (has brakings) b)

-- SNOCLO beside a group is 7
abbrev state_causes : Bool → ℕ → RunwayState → Causes
state_causes snoclo n s = (needed (runway-of-state n) (has runways) s.runway ++ condition_causes n s.condition) ++ asked (disagreeing (runway-state n)) snoclo ∷ []

each-state : (snoclo : Bool) (n : ℕ) (ss : List RunwayState) → Judges (judge_each_state snoclo ss) (each_from (state_causes snoclo) n ss)
each-state snoclo n [] = no-cause
each-state snoclo n (s ∷ ss) =
    in-turn (group-judges (both-clear (clear-needed (has runways) s.runway) (condition-clear n s.condition)) (clear-asked {c = disagreeing (runway-state n)} snoclo)) (each-state snoclo (n + 1) ss)

abbrev states_causes : RunwayStates → Causes
states_causes ss =
    counted runway-states (leb ss.count 4) (every is_blank_state (drop ss.count ss.items)) ++ each_from (state_causes ss.snoclo) 0 (take ss.count ss.items)

states-judged : (ss : RunwayStates) → Judges (judge_states ss) (states_causes ss)
unfolding judge_states
states-judged ss =
    in-turn (value-judges (count-clear (leb ss.count 4) (every is_blank_state (drop ss.count ss.items)))) (each-state ss.snoclo 0 (take ss.count ss.items))

abbrev observation_causes : Observation → Causes
observation_causes r =
    shared.wind_of observed-body (observed r) r.body
    ++ (variation_causes r.variation.is
    ++ (shared.visibility_of observed-body (observed r) r.body
    ++ (runways_causes r.runways
    ++ (shared.weather_of observed-body (observed r) r.body
    ++ (shared.sky_of observed-body (observed r) r.body
    ++ (temperature_causes r.temperatures ++ (qnh_causes r.qnh ++ (recents_causes r.automatic r.recents ++ states_causes r.states))))))))

observation-judged : (r : Observation) → Judges (judge_observation r) (observation_causes r)
unfolding judge_observation
observation-judged r =
    in-turn (shared.wind-of observed-body (observed r) r.body)
    (in-turn (variation-judged r.variation)
    (in-turn (shared.visibility-of observed-body (observed r) r.body)
    (in-turn (runways-judged r.runways)
    (in-turn (shared.weather-of observed-body (observed r) r.body)
    (in-turn (shared.sky-of observed-body (observed r) r.body)
    (in-turn (temperatures-judged r.temperatures) (in-turn (qnh-judged r.qnh) (in-turn (recents-judged r.automatic r.recents) (states-judged r.states)))))))))

-- ---- the trend

-- "NOSIG beside one 7"; "A change body needs one element"
abbrev change_causes : Bool → ℕ → TrendChange → Causes
change_causes nosig n c =
    (asked (required-missing (trend-change n word)) (no_tendency c.tendency) ∷ asked (disagreeing (trend-change n word)) nosig ∷ [])
    ++ (unless (hours_fit c.times.is) (outside-its-range (trend-change n times))
    ++ (shared.body_causes (λ f. trend-change n (of-body f)) changing c.body ++ unless (has_element c.body) (required-missing (trend-change n element))))

change-judged : (nosig : Bool) (n : ℕ) (c : TrendChange) → Judges (trend.judge_change nosig c) (change_causes nosig n c)
unfolding trend.judge_change
change-judged nosig n c =
    in-turn (group-judges (clear-asked {c = required-missing (trend-change n word)} (no_tendency c.tendency)) (clear-asked {c = disagreeing (trend-change n word)} nosig))
    (in-turn (value-judges (clear-unless (hours_fit c.times.is))) (in-turn (shared.body-judged (λ f. trend-change n (of-body f)) changing c.body) (value-judges (clear-unless (has_element c.body)))))

each-change : (nosig : Bool) (n : ℕ) (cs : List TrendChange) → Judges (trend.judge_each nosig cs) (each_from (change_causes nosig) n cs)
each-change nosig n [] = no-cause
each-change nosig n (c ∷ cs) = in-turn (change-judged nosig n c) (each-change nosig (n + 1) cs)

abbrev trend_causes : Trend → Causes
trend_causes t =
    counted trend-changes (leb t.count 3) (every is_blank_trend_change (drop t.count t.items)) ++ each_from (change_causes t.nosig) 0 (take t.count t.items)

trend-judged : (t : Trend) → Judges (trend.judge_trend t) (trend_causes t)
unfolding trend.judge_trend
trend-judged t =
    in-turn (value-judges (count-clear (leb t.count 3) (every is_blank_trend_change (drop t.count t.items)))) (each-change t.nosig 0 (take t.count t.items))

-- ---- the record

-- in a NIL report what stands after its time
abbrev foreign_causes : Metar → Causes
foreign_causes r = cond r.observation.nil (unless (no_observation r.observation) (foreign groups-after-nil) ++ unless (no_trend r.trend) (foreign trend-after-nil)) []

foreign-judged : (r : Metar) → Judges (judge (foreign_blank r) true) (foreign_causes r)
foreign-judged r = value-judges (clear-where r.observation.nil (both-clear (clear-unless (no_observation r.observation)) (clear-unless (no_trend r.trend))))

-- "The writer judges foreign fields first, then the others in written order, 11 before 7 at each"
abbrev pub causes_of : Metar → Causes
causes_of r =
    foreign_causes r
    ++ ((shared.station_causes station r.observation.station ++ shared.instant_causes time r.observation.time)
    ++ cond r.observation.nil [] (observation_causes r.observation ++ trend_causes r.trend))

-- so every record is judged
pub record-judged : (r : Metar) → Judges (judge_of r) (causes_of r)
unfolding judge_of judge_head
record-judged r =
    in-turn (foreign-judged r)
    (in-turn (in-turn (shared.station-judged station r.observation.station) (shared.time-judged time r.observation.time))
    (chosen r.observation.nil no-cause (in-turn (observation-judged r.observation) (trend-judged r.trend))))
