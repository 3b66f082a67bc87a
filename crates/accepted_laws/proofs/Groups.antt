-- Station, time, runway ranges, temperatures, Q and runway states that are read are judged fine and are their own class.
-- Assumes nothing.
use Rattle.std.specs.Prelude.{ℤ, None, Ok, Option, Some}
use Prim.Native.Nat.{ℕ, ◌+◌, ◌<◌}
use native.Mathlib.Omega.{arith}
use mathlib.Core.Path.{◌≡◌, refl, sym, ap, ◌∙◌}
use mathlib.Core.Bool.{Bool, true, false, not, ◌&&◌, false≢true}
use mathlib.Core.List.{List, [], ◌∷◌}
use lib.ListN.{length, take}
use lib.Dec.{leb, eqb}
use borrow.Author.Tests.{lt-ltb, le-leb}
use Rattle.figures.proofs.Impossible.{impossible}
use Rattle.figures.specs.declared.kinds.Field.{Field}
use Rattle.figures.specs.declared.kinds.Field.TheVariants as field
use Rattle.figures.specs.Figures.{field_at, is_letter}
use Rattle.text.specs.Judge.{judge}
use Rattle.shapes.specs.declared.kinds.Value.{Value}
use Rattle.shapes.specs.Pattern.{low, high, fits, has_pattern}
use Rattle.shapes.proofs.Patterns.{both}
use Rattle.places.specs.Engine.{Group, then}
use Rattle.scales.specs.Metres.{range_reading, metres_reading}
use Rattle.scales.specs.Rounded.{pressure_reading}
use Rattle.scales.specs.Degrees.{degrees_reading}
use Rattle.scales.specs.Depth.{depth}
use Rattle.scales.proofs.DepthLaws.{depth-rounds}
use Rattle.record.specs.declared.aerodrome.Station.{Station}
use Rattle.record.specs.declared.aerodrome.Instant.{Instant}
use Rattle.record.specs.declared.aerodrome.Runway.{Runway}
use Rattle.record.specs.declared.aerodrome.Runways.{Runways}
use Rattle.record.specs.declared.aerodrome.Temperatures.{Temperatures}
use Rattle.record.specs.declared.aerodrome.Qnh.{Qnh}
use Rattle.record.specs.declared.aerodrome.Depth.{Depth}
use Rattle.record.specs.declared.aerodrome.Depth.TheVariants as deep
use Rattle.record.specs.declared.aerodrome.Condition.{Condition}
use Rattle.record.specs.declared.aerodrome.RunwayState.{RunwayState}
use Rattle.record.specs.declared.aerodrome.RunwayStates.{RunwayStates}
use Rattle.record.specs.Missing.{present, optional}
use Rattle.record.specs.SilentAerodrome.{is_blank_runway, is_blank_state}
use Rattle.record.specs.Observation.{blank_runway, blank_runways, blank_state, blank_states}
use Rattle.elements.specs.Judge.{metres_fit}
use Rattle.elements.specs.Parts.{value_at}
use Rattle.aerodrome_groups.specs.Head.{station_shape, station_of, read_time, is_day, is_hour, is_minute, judge_station, judge_time}
use Rattle.aerodrome_groups.specs.Runway.{runway_shape, range_of, read_range, read_runway, with_runway, is_runway, judge_each_runway, judge_runways, class_range, class_runway, class_runways}
use Rattle.aerodrome_groups.specs.Temperatures.{temperatures_shape, degrees_is, read_degrees, read_temperatures, read_qnh, tenths_fit, judge_temperatures, judge_qnh, class_tenths, class_temperatures, class_qnh}
use Rattle.runway_states.specs.declared.tables.Table.{Table}
use Rattle.runway_states.specs.declared.tables.Table.TheVariants as table
use Rattle.runway_states.specs.Tables.{has, table_of, holds}
use Rattle.runway_states.specs.State.{cleared_shape, number_in, read_depth, are_listed, read_condition, read_state, with_state, depth_fits, condition_fits, state_fits, judge_each_state, judge_states, class_depth, class_condition, class_state, class_states}
use Rattle.accepted_laws.proofs.Gives.{Gives, good, bad, gives-cond, gives-provided, gives-figured, gives-may-miss, gives-used, gives_then}
use Rattle.accepted_laws.proofs.Values.{metres-own, metres-low, range-own, range-low, pressure-own, pressure-low, degrees-own, degrees-fit}
use Rattle.accepted_laws.proofs.Filled.{Filled, filled_none, filled_more, filled-slots, filled-fine, filled-own, filled-read}

-- ---- STATION AND TIME

pub record StationRead (s : Station) : Type 0 where
  pub fine : judge_station s ≡ Ok tt
  pub four : length s.letters ≡ 4

pub station-read : (g : Group) → has_pattern g station_shape ≡ true → StationRead (station_of g)
unfolding has_pattern fits low high station_of judge_station
station-read [] h = impossible (cc)
station-read (a ∷ []) h = absurd (false≢true (both (is_letter a) false h).1)
station-read (a ∷ b ∷ []) h = absurd (false≢true (both (is_letter b) false (both (is_letter a) _ h).1).1)
station-read (a ∷ b ∷ c ∷ []) h = absurd (false≢true (both (is_letter c) false (both (is_letter b) _ (both (is_letter a) _ h).1).1).1)
station-read (a ∷ b ∷ c ∷ d ∷ []) h =
    let x = both (is_letter a) _ h in
    let y = both (is_letter b) _ x.1 in
    let z = both (is_letter c) _ y.1 in
    let w = both (is_letter d) _ z.1 in
    record { fine = rw (x.0, y.0, z.0, w.0); four = refl }
station-read (a ∷ b ∷ c ∷ d ∷ e ∷ g) h =
    absurd (false≢true (both (is_letter d) false (both (is_letter c) _ (both (is_letter b) _ (both (is_letter a) _ h).1).1).1).1)

pub record TimeRead (t : Instant) : Type 0 where
  pub fine : judge_time t ≡ Ok tt

pub time-read : (g : Group) → Gives TimeRead (read_time g)
unfolding read_time judge_time
time-read g =
    gives-figured (field_at g 0 2)
    (λ d a. gives-figured (field_at g 2 2) (λ h b. gives-figured (field_at g 4 2) (λ m c. gives-provided (is_day d && is_hour h && is_minute m) (λ e. good (record { fine = rw e })))))

-- ---- RUNWAY RANGES

pub record RunwayRead (w : Runway) : Type 0 where
  pub fits : (is_runway w.number && metres_fit false w.range) ≡ true
  pub own : class_range w.range ≡ w.range

range-read : (mark f : Value) → Gives (λ n. (metres_fit false n ≡ true) × (class_range n ≡ n)) (read_range mark f)
range-read mark f =
    gives-may-miss f.field (λ m. gives-provided (eqb mark.which 2) (λ e. good (refl, refl)))
    (λ n q. gives-used (range_reading (range_of mark.which n)) (λ m e. good (range-low _ m e, ap Some (range-own _ m e))))

pub runway-read : (g : Group) → Gives RunwayRead (read_runway g)
unfolding read_runway
runway-read g =
    gives-figured (value_at runway_shape g 0).field
    (λ k q. gives-provided (leb 1 k && leb k 36)
    (λ e. gives_then (range-read (value_at runway_shape g 3) (value_at runway_shape g 4)) (λ x r. good (record { fits = rw e r.0; own = r.1 }))))

pub record RunwaysHeld (k : ℕ) (rs : Runways) : Type 0 where
  pub count : rs.count ≡ k
  pub filled : Filled RunwayRead blank_runway 4 k rs.items

pub runways-none : RunwaysHeld 0 blank_runways
runways-none = record { count = refl; filled = filled_none RunwayRead blank_runway 4 }

pub runways-more : {k : ℕ} {rs : Runways} → RunwaysHeld k rs → k < 4 → (w : Runway) → RunwayRead w → RunwaysHeld (k + 1) (with_runway k rs w)
runways-more {k} h room w r = rw (lt-ltb k 4 room) (record { count = refl; filled = filled_more h.filled w room r })

pub runways-fine : {k : ℕ} {rs : Runways} → RunwaysHeld k rs → judge_runways rs ≡ Ok tt
unfolding judge_runways
runways-fine h =
    rw (h.count, filled-slots h.filled is_blank_runway refl)
    (filled-fine h.filled (λ w. judge (is_runway w.number && metres_fit false w.range) true) judge_each_runway refl (λ x xs. refl) (λ x r. rw r.fits))

pub runways-own : {k : ℕ} {rs : Runways} → RunwaysHeld k rs → class_runways rs ≡ rs
runways-own h = rw (filled-own h.filled class_runway (λ x r. rw r.own) refl)

-- ---- TEMPERATURES AND Q

abbrev DegreesRead : Option ℤ → Type 0
DegreesRead t = (tenths_fit t ≡ true) × (class_tenths t ≡ t)

degrees-read : (mark f : Value) → Gives DegreesRead (read_degrees mark f)
degrees-read mark f =
    gives-may-miss f.field (λ m. gives-provided (not (eqb mark.which 0)) (λ e. good (refl, refl)))
    (λ n q. whole (eqb mark.which 0) n (degrees_reading (eqb mark.which 0) n) refl)
  where
    whole : (minus : Bool) (n : ℕ) (x : Option ℤ) → degrees_reading minus n ≡ x → Gives DegreesRead (degrees_is x)
    whole minus n (Some t) e = good (degrees-fit minus n t e, ap Some (degrees-own minus n t e))
    whole minus n None e = bad

pub record TemperaturesRead (t : Temperatures) : Type 0 where
  pub fine : judge_temperatures t ≡ Ok tt
  pub own : class_temperatures t ≡ t

pub temperatures-read : (g : Group) → Gives TemperaturesRead (read_temperatures g)
unfolding read_temperatures judge_temperatures
temperatures-read g =
    gives_then (degrees-read (value_at temperatures_shape g 0) (value_at temperatures_shape g 1))
    (λ x p. gives_then (degrees-read (value_at temperatures_shape g 3) (value_at temperatures_shape g 4))
    (λ y q. good (record { fine = rw (p.0, q.0); own = rw (p.1, q.1) })))

pub record QnhRead (q : Qnh) : Type 0 where
  pub fine : judge_qnh q ≡ Ok tt
  pub own : class_qnh q ≡ q

pub qnh-read : (g : Group) → Gives QnhRead (read_qnh g)
unfolding read_qnh judge_qnh
qnh-read g =
    gives-may-miss (field_at g 1 4) (λ m. good (record { fine = refl; own = refl }))
    (λ n q. gives-used (pressure_reading n) (λ p e. good (record { fine = rw (le-leb 0 p (omega arith), pressure-low n p e); own = rw (pressure-own n p e) })))

-- ---- RUNWAY STATES

listed-there : (t : Table) (f : Field) → holds t false f ≡ true → present (has (table_of t)) (number_in f) ≡ true
listed-there t (field.Number n) e = e
listed-there t field.Missing e = absurd (false≢true e)
listed-there t field.Mixed e = absurd (false≢true e)
listed-there t field.Other e = absurd (false≢true e)

listed-or-none : (t : Table) (f : Field) → holds t true f ≡ true → optional (has (table_of t)) (number_in f) ≡ true
listed-or-none t (field.Number n) e = e
listed-or-none t field.Missing e = refl
listed-or-none t field.Mixed e = absurd (false≢true e)
listed-or-none t field.Other e = absurd (false≢true e)

abbrev DepthRead : Depth → Type 0
DepthRead d = (depth_fits d ≡ true) × (class_depth d ≡ d)

depth-read : (f : Field) → Gives DepthRead (read_depth f)
depth-read f =
    gives-may-miss f (λ m. good (refl, refl))
    (λ n q. gives-cond (eqb n 99) (λ c. good (refl, refl)) (λ c. gives-used (metres_reading depth n) (λ m e. good (metres-low depth depth-rounds n m e, ap deep.Millimetres (metres-own depth depth-rounds n m e)))))

abbrev ConditionRead : Condition → Type 0
ConditionRead c = (condition_fits c ≡ true) × (class_condition c ≡ c)

condition-read : (g : Group) → Gives ConditionRead (read_condition g)
condition-read g =
    gives-cond (has_pattern g cleared_shape) (λ c. good (refl, refl))
    (λ c. gives-provided (are_listed (field_at g 2 1) (field_at g 3 1) (field_at g 6 2))
    (λ e. let l = both (holds table.Deposits true (field_at g 2 1) && holds table.Extents true (field_at g 3 1)) (holds table.Brakings true (field_at g 6 2)) e in
    let m = both (holds table.Deposits true (field_at g 2 1)) (holds table.Extents true (field_at g 3 1)) l.0 in
    gives_then (depth-read (field_at g 4 2))
    (λ d r. good (
      rw (listed-or-none table.Deposits (field_at g 2 1) m.0, listed-or-none table.Extents (field_at g 3 1) m.1, r.0) (listed-or-none table.Brakings (field_at g 6 2) l.1),
      rw r.1,
    ))))

pub record StateRead (s : RunwayState) : Type 0 where
  pub fits : state_fits s ≡ true
  pub own : class_state s ≡ s

pub state-read : (g : Group) → Gives StateRead (read_state g)
unfolding read_state
state-read g =
    gives-provided (holds table.Runways false (field_at g 0 2))
    (λ e. gives_then (condition-read g) (λ c r. good (record { fits = rw (listed-there table.Runways (field_at g 0 2) e) r.0; own = rw r.1 })))

pub record StatesHeld (k : ℕ) (items : List RunwayState) (count : ℕ) : Type 0 where
  pub many : count ≡ k
  pub filled : Filled StateRead blank_state 4 k items

pub states-none : StatesHeld 0 blank_states.items blank_states.count
states-none = record { many = refl; filled = filled_none StateRead blank_state 4 }

pub states-set : (k : ℕ) (g : Group) (ss : RunwayStates) → StatesHeld k ss.items ss.count → k < 4 → (P : RunwayStates → Type 0)
    → ((items : List RunwayState) → StatesHeld (k + 1) items (k + 1) → P (record { items = items; count = k + 1; snoclo = ss.snoclo }))
    → Gives P (then (read_state g) (λ x. Ok (with_state k ss x)))
states-set k g ss h room P sets =
    gives_then (state-read g) (λ s r. rw (lt-ltb k 4 room) (good (sets _ (record { many = refl; filled = filled_more h.filled s room r }))))

-- SNOCLO stands alone
pub states-fine : {k : ℕ} {ss : RunwayStates} → StatesHeld k ss.items ss.count → (ss.snoclo ≡ true → ss.count ≡ 0) → judge_states ss ≡ Ok tt
unfolding judge_states
states-fine {k} {ss} h alone = rw (h.many, filled-slots h.filled is_blank_state refl) (each ss.snoclo refl)
  where
    each : (b : Bool) → ss.snoclo ≡ b → judge_each_state ss.snoclo (take k ss.items) ≡ Ok tt
    each true e = let none : k ≡ 0 = sym h.many ∙ alone e in rw none
    each false e =
        rw e (filled-fine h.filled (λ s. judge (state_fits s) true) (judge_each_state false) refl (λ x xs. refl) (λ x r. rw r.fits))

pub states-own : {k : ℕ} {ss : RunwayStates} → StatesHeld k ss.items ss.count → class_states ss ≡ ss
states-own {k} {ss} h =
    rw (h.many, filled-read h.filled class_state class_state (λ x r. refl) refl, filled-own h.filled class_state (λ x r. r.own) refl)
