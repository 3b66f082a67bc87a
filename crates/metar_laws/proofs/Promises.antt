-- What the round trip promises of a METAR or SPECI, in document 01's words: each exact field comes back as it was, each rounded number as the reading
-- of its class, near its value and never above it where the scale rounds down.
-- Assumes nothing.
use Rattle.std.specs.Prelude.{Ok}
use mathlib.Core.Path.{◌≡◌, refl}
use mathlib.Core.Bool.{Bool, true, false}
use mathlib.Core.List.{map}
use lib.ListN.{length, take, drop}
use Rattle.text.specs.Groups.{groups_from}
use Rattle.text.specs.Text.{tail_of}
use Rattle.places.specs.Engine.{Done}
use Rattle.record.specs.declared.aerodrome.Observation.{Observation}
use Rattle.record.specs.declared.aerodrome.TrendChange.{TrendChange}
use Rattle.record.specs.declared.aerodrome.Metar.{Metar}
use Rattle.record.specs.Observation.{blank_state}
use Rattle.record.specs.Trend.{blank_trend_change}
use Rattle.wind.proofs.Promises.{ExtremesNear, no-extremes, variation-near}
use Rattle.body.proofs.Promises.{BodyRead, body-read, blank-read}
use Rattle.aerodrome_groups.proofs.Promises.{RunwaysKept, runways-kept, TemperaturesKept, temperatures-kept, QnhKept, qnh-kept}
use Rattle.runway_states.specs.State.{class_state}
use Rattle.runway_states.proofs.StatesBack.{Counted}
use Rattle.runway_states.proofs.Promises.{StatesKept, states-kept}
use Rattle.metar_row.specs.Row.{observed, row}
use Rattle.metar.specs.Read.{groups_read}
use Rattle.elements.specs.Body.{changing}
use Rattle.trend_row.specs.Row as trend-row
use Rattle.trend_row.proofs.Changes.{live as trend-live}
use Rattle.trend.specs.Write.{class_change, class_trend}
use Rattle.metar.specs.Write.{judge_of, canonical_of, class_observation, classed_of}
use Rattle.record.specs.Arrays.{MetarArrays}
use Rattle.record.proofs.Counted.{map-counted, taken, dropped, EachRead, each_read}
use Rattle.metar_laws.proofs.Places.{live}
use Rattle.metar_laws.proofs.Report.{fair-observation, fair-bare}
use Rattle.metar_laws.proofs.Trends.{Sound, change-is}
use Rattle.metar_laws.proofs.Canonical.{trend-listed, states-counted, read-canonical}

-- ---- the record that is read back

-- "The numbers scaled here are the rounded ones; all else in a record, missing, calm, variable and trace too, is carried exactly."
pub record ObservationRead (r q : Observation) : Type 0 where
  pub special : q.special ≡ r.special
  pub corrected : q.corrected ≡ r.corrected
  pub station : q.station ≡ r.station
  pub time : q.time ≡ r.time
  pub nil : q.nil ≡ r.nil
  pub automatic : q.automatic ≡ r.automatic
  pub body : BodyRead r.body q.body
  pub variation : ExtremesNear r.variation.is q.variation.is
  pub runways : RunwaysKept r.runways q.runways
  pub temperatures : TemperaturesKept r.temperatures q.temperatures
  pub qnh : QnhKept r.qnh q.qnh
  pub recents : q.recents ≡ r.recents
  pub states : StatesKept r.states q.states

pub record ChangeRead (c d : TrendChange) : Type 0 where
  pub tendency : d.tendency ≡ c.tendency
  pub times : d.times ≡ c.times
  pub body : BodyRead c.body d.body

-- the observation, and of the trend NOSIG and the changes up to the count; what stands past it is as it was
pub record RecordRead (r q : Metar) : Type 0 where
  pub observation : ObservationRead r.observation q.observation
  pub nosig : q.trend.nosig ≡ r.trend.nosig
  pub count : q.trend.count ≡ r.trend.count
  pub changes : EachRead ChangeRead (take r.trend.count r.trend.items) (take r.trend.count q.trend.items)
  pub past : drop r.trend.count q.trend.items ≡ drop r.trend.count r.trend.items

-- ---- the observation

-- what depends on the judgement: the directions and the visibility are in range, or missing
record Near (r q : Observation) : Type 0 where
  body : BodyRead r.body q.body
  variation : ExtremesNear r.variation.is q.variation.is

near : (r : Metar) → MetarArrays r → judge_of r ≡ Ok tt → Near r.observation (class_observation r.observation)
unfolding row class_observation
near r arrays e = go r.observation.nil refl
  where
    go : (b : Bool) → r.observation.nil ≡ b → Near r.observation (class_observation r.observation)
    go true n = let b = fair-bare r arrays e n in record { body = blank-read r.observation.body b.body; variation = rw b.variation no-extremes }
    go false n =
        let o = r.observation in
        let f = fair-observation r e n in
        record { body = body-read (observed o) (live o n) o.body f.body; variation = variation-near o.variation f.variation }

observation-read : (r : Observation) → Near r (class_observation r) → Counted r.states → ObservationRead r (class_observation r)
unfolding row class_observation
observation-read r n l =
    record {
      special = refl;
      corrected = refl;
      station = refl;
      time = refl;
      nil = refl;
      automatic = refl;
      body = n.body;
      variation = n.variation;
      runways = runways-kept r.runways;
      temperatures = temperatures-kept r.temperatures;
      qnh = qnh-kept r.qnh;
      recents = refl;
      states = states-kept r.states l;
    }

-- ---- the trend

change-read : (nosig : Bool) (c : TrendChange) → Sound nosig c → ChangeRead c (class_change c)
change-read nosig c s = rw (change-is c) (record { tendency = refl; times = refl; body = body-read changing trend-live c.body s.1.body })

record-read : (r : Metar) → MetarArrays r → judge_of r ≡ Ok tt → RecordRead r (classed_of r)
unfolding classed_of class_trend
record-read r arrays e =
    let t = r.trend in
    let l = trend-listed r arrays e in
    record {
      observation = observation-read r.observation (near r arrays e) (states-counted r arrays e);
      nosig = refl;
      count = refl;
      changes = rw (taken class_change t.count t.items l.many) (each_read ChangeRead class_change (change-read t.nosig) (take t.count t.items) l.each);
      past = dropped class_change t.count t.items l.many;
    }

-- WHAT IS WRITTEN OF A RECORD THAT THE WRITER ACCEPTS IS READ, to the text's end, as a record that says the same.
pub promise : (r : Metar) → MetarArrays r → judge_of r ≡ Ok tt
    → (groups_read (tail_of (canonical_of r)) (length (canonical_of r)) (groups_from (canonical_of r) 0) ≡ Done (length (canonical_of r)) (classed_of r)) × RecordRead r (classed_of r)
promise r arrays e = (read-canonical r arrays e, record-read r arrays e)

-- ---- each change and each runway state is read back as its class, and those past the count too

pub states-items : (r : Metar) → MetarArrays r → judge_of r ≡ Ok tt → (classed_of r).observation.states.items ≡ map class_state r.observation.states.items
unfolding classed_of row class_observation
states-items r arrays e =
    let ss = r.observation.states in
    map-counted class_state blank_state refl ss.count 4 ss.items (states-counted r arrays e).rest

blank-classed : class_change blank_trend_change ≡ blank_trend_change
unfolding class_change trend-row.row
blank-classed = refl

pub items-classed : (r : Metar) → MetarArrays r → judge_of r ≡ Ok tt → (classed_of r).trend.items ≡ map class_change r.trend.items
unfolding classed_of class_trend
items-classed r arrays e =
    map-counted class_change blank_trend_change blank-classed r.trend.count 3 r.trend.items (trend-listed r arrays e).rest
