-- THE ROUND TRIP OF METAR AND SPECI, at the level of the text: the canonical text of a record that the writer accepts is read back whole, as the record
-- with each rounded number the reading of its class; written again it is the same text.
-- Assumes nothing.
use Rattle.std.specs.Prelude.{None, Ok}
use Prim.Native.Nat.{ℕ, ◌≤◌}
use native.Mathlib.Omega.{arith}
use mathlib.Core.Path.{◌≡◌, refl, ap, ◌∙◌}
use mathlib.Core.Bool.{Bool, true, false}
use mathlib.Core.List.{List}
use lib.ListN.{length}
use Rattle.text.specs.Groups.{Piece, groups_from, join}
use Rattle.text.specs.Text.{tail_of}
use Rattle.places.specs.Engine.{Done, written}
use Rattle.places.proofs.ReadBack.{groups_of as piece_groups, stops_any}
use Rattle.places.proofs.Sizes.{Sizes, sizes-append, sizes-more}
use Rattle.places.proofs.Kept.{kept-sizes, row_room}
use Rattle.places.proofs.Delivered.{joined-short, joined_back}
use Rattle.record.specs.declared.aerodrome.Observation.{Observation}
use Rattle.record.specs.declared.aerodrome.Metar.{Metar}
use Rattle.record.specs.Observation.{blank_observation}
use Rattle.record.specs.SilentAerodrome.{is_blank_body}
use Rattle.wind.proofs.RoundTripVariation.{variation-again, variation-classed}
use Rattle.sky.proofs.RoundTrip.{sky-again}
use Rattle.body.proofs.Bodies.{wind-both, view-both, weather-classed, clouds-classed}
use Rattle.body.proofs.Sayings.{keep-part, last-unless, report-said}
use Rattle.aerodrome_groups.proofs.RunwaysBack.{runways-again, runways-classed}
use Rattle.aerodrome_groups.proofs.TemperaturesBack.{temperatures-again, temperatures-classed, qnh-again, qnh-classed}
use Rattle.runway_states.proofs.StatesBack.{Counted, none-counted, states-fit, states-again, states-classed}
use Rattle.metar_row.specs.Row.{observed, row, words}
use Rattle.metar.specs.Read.{main_part, groups_read}
use Rattle.metar.specs.Write.{judge_head, judge_observation, judge_of, groups_of, canonical_of, class_observation, classed_of}
use Rattle.metar_row.proofs.Sound.{row-sound, row-covered}
use Rattle.metar_laws.proofs.Places.{live}
use Rattle.metar_laws.proofs.Report.{fair, FairObservation, fair-observation, fair-bare, fair-silent, sizes, kept_row}
use Rattle.metar_laws.proofs.Trends.{Listed, listed, trend-sizes, trend-again, trend-judged}
use Rattle.metar_laws.proofs.TrendBack.{trend-said}
use Rattle.trend.specs.Read.{parts}
use Rattle.trend.specs.Write.{show_trend, class_trend}
use Rattle.record.proofs.AerodromeBlanks.{Bare}
use Rattle.record.specs.Arrays.{MetarArrays}

-- ---- the trend

-- judged where the report is not NIL, and blank where it is
pub trend-listed : (r : Metar) → MetarArrays r → judge_of r ≡ Ok tt → Listed r.trend
trend-listed r arrays e = go r.observation.nil refl
  where
    go : (b : Bool) → r.observation.nil ≡ b → Listed r.trend
    go true n = rw (fair-silent r arrays e n) (unfold is_blank_body in record { few = omega arith; each = tt; many = refl; past = refl; rest = refl })
    go false n = listed r.trend arrays.trend arrays.each ((fair r e).rest n).1

-- ---- runway states

-- judged where the report is not NIL, and blank where it is
pub states-counted : (r : Metar) → MetarArrays r → judge_of r ≡ Ok tt → Counted r.observation.states
states-counted r arrays e = go r.observation.nil refl
  where
    go : (b : Bool) → r.observation.nil ≡ b → Counted r.observation.states
    go true n = rw (fair-bare r arrays e n).states none-counted
    go false n = states-fit r.observation.states arrays.observation.states (fair-observation r e n).states

-- ---- how long it is

-- The groups of a record can be joined and cut, and hold only bytes that a text may hold.
pub groups-sizes : (r : Metar) → MetarArrays r → judge_of r ≡ Ok tt → Sizes 680 (groups_of r)
unfolding groups_of
groups-sizes r arrays e =
    let room : row_room sizes row ≤ 302 = unfold row in omega arith in
    sizes-append (written row r.observation) (show_trend r.trend) (sizes-more room (kept-sizes (kept_row r arrays e))) (trend-sizes r.trend (trend-listed r arrays e))

-- HOW LONG THE CANONICAL TEXT IS, at most: with NOSIG, or with three changes.
pub length-canonical : (r : Metar) → MetarArrays r → judge_of r ≡ Ok tt → length (canonical_of r) ≤ 680
unfolding canonical_of
length-canonical r arrays e = joined-short (groups_of r) (unfold groups_of row in omega arith) (groups-sizes r arrays e)

-- ---- read back

-- reading ends at none of the row's places where the report is not NIL
goes_on : (o : Observation) → o.nil ≡ false → stops_any row o ≡ false
unfolding row
goes_on o n = rw n

-- THE GROUPS OF A RECORD ARE READ BACK, from any pieces that hold them. NIL has no trend after it.
pieces-back : (r : Metar) → MetarArrays r → judge_of r ≡ Ok tt → (end : ℕ) (gs : List Piece) → piece_groups gs ≡ groups_of r
    → groups_read None end gs ≡ Done end (classed_of r)
unfolding groups_read groups_of classed_of class_observation
pieces-back r arrays e end gs are =
    let o = r.observation in
    let s = trend-said (class_observation o) r.trend (trend-listed r arrays e) in
    report-said parts main_part o blank_observation end 3 gs (keep-part words (unfold row in omega arith) row-sound row-covered (kept_row r arrays e) refl refl)
    (last-unless parts main_part o s.sayings o.nil (λ n. s.none (fair-silent r arrays e n)) (goes_on o)) s.said s.few are

-- THE GROUPS OF THE CANONICAL TEXT COME TO THE RECORD'S CLASSES, with no unread rest.
pub read-canonical : (r : Metar) → MetarArrays r → judge_of r ≡ Ok tt
    → groups_read (tail_of (canonical_of r)) (length (canonical_of r)) (groups_from (canonical_of r) 0) ≡ Done (length (canonical_of r)) (classed_of r)
unfolding canonical_of
read-canonical r arrays e = joined_back groups_read (groups_of r) (groups-sizes r arrays e) (pieces-back r arrays e)

-- ---- written again

-- what stands in the observation is written alike
observation-again : (r : Observation) → FairObservation r → Counted r.states → r.nil ≡ false → written row (class_observation r) ≡ written row r
unfolding row class_observation
observation-again r f l full =
    let t = observed r in
    rw (
      (wind-both t (live r full) r.body f.body.wind).0,
      variation-again r.variation f.variation,
      (view-both t (live r full) r.body f.body.visibility).0,
      runways-again r.runways,
      sky-again r.body.sky,
      temperatures-again r.temperatures f.temperatures,
      qnh-again r.qnh,
      states-again r.states l,
    )

nil-observed : (r : Observation) → Bare r → class_observation r ≡ r
unfolding row class_observation
nil-observed r b = rw (b.automatic, b.body, b.variation, b.runways, b.temperatures, b.qnh, b.recents, b.states)

-- A record that is NIL is read back as it was.
pub nil-classed : (r : Metar) → MetarArrays r → judge_of r ≡ Ok tt → r.observation.nil ≡ true → classed_of r ≡ r
unfolding classed_of class_trend
nil-classed r arrays e n = rw (nil-observed r.observation (fair-bare r arrays e n), fair-silent r arrays e n)

-- THE RECORD THAT IS READ BACK IS WRITTEN AS THE SAME TEXT.
pub written-again : (r : Metar) → MetarArrays r → judge_of r ≡ Ok tt → canonical_of (classed_of r) ≡ canonical_of r
unfolding canonical_of groups_of classed_of
written-again r arrays e = go r.observation.nil refl
  where
    go : (b : Bool) → r.observation.nil ≡ b → canonical_of (classed_of r) ≡ canonical_of r
    go true n = ap canonical_of (nil-classed r arrays e n)
    go false n = ap join (rw (observation-again r.observation (fair-observation r e n) (states-counted r arrays e) n, trend-again r.trend (trend-listed r arrays e)))

observation-classed : (r : Observation) → FairObservation r → Counted r.states → r.nil ≡ false → judge_observation (class_observation r) ≡ Ok tt
unfolding judge_observation row class_observation
observation-classed r f l full =
    let t = observed r in
    rw (
      (wind-both t (live r full) r.body f.body.wind).1,
      variation-classed r.variation f.variation,
      (view-both t (live r full) r.body f.body.visibility).1,
      runways-classed r.runways f.runways,
      weather-classed t r.body f.body.weather,
      clouds-classed t r.body f.body.sky,
      temperatures-classed r.temperatures f.temperatures,
      qnh-classed r.qnh f.qnh,
      f.recents,
      states-classed r.states l,
    )

-- the head is as it was
nil-same : (r : Observation) → (class_observation r).nil ≡ r.nil
unfolding row class_observation
nil-same r = refl

head-classed : (r : Metar) → judge_of r ≡ Ok tt → judge_head (class_observation r.observation) ≡ Ok tt
unfolding judge_head row class_observation
head-classed r e = let f = fair r e in rw (f.station, f.time)

full-classed : (r : Metar) → MetarArrays r → judge_of r ≡ Ok tt → r.observation.nil ≡ false → judge_of (classed_of r) ≡ Ok tt
unfolding judge_of classed_of judge_head judge_observation
full-classed r arrays e n =
    let o = r.observation in
    rw (nil-same o ∙ n, head-classed r e, observation-classed o (fair-observation r e n) (states-counted r arrays e) n, trend-judged r.trend (trend-listed r arrays e))

-- AND THE WRITER ACCEPTS IT.
pub classed-fine : (r : Metar) → MetarArrays r → judge_of r ≡ Ok tt → judge_of (classed_of r) ≡ Ok tt
classed-fine r arrays e = go r.observation.nil refl
  where
    go : (b : Bool) → r.observation.nil ≡ b → judge_of (classed_of r) ≡ Ok tt
    go true n = rw (nil-classed r arrays e n) e
    go false n = full-classed r arrays e n
