-- A whole METAR or SPECI: the row keeps what is written of a record that is judged fine, with its observation or as NIL.
-- Assumes nothing.
use Rattle.std.specs.Prelude.{⊤, Ok, Result}
use Rattle.text.specs.declared.kinds.Refusal.{Refusal}
use Prim.Native.Nat.{ℕ}
use mathlib.Core.Path.{◌≡◌, refl}
use mathlib.Core.Bool.{Bool, true, false, not, cond, ◌||◌}
use mathlib.Core.List.{List, [], ◌∷◌}
use lib.ListN.{take, drop}
use Rattle.text.specs.Judge.{judge}
use Rattle.text.proofs.Judging.{fine, and-then}
use Rattle.shapes.proofs.Patterns.{both}
use Rattle.places.specs.Engine.{written, put_all}
use Rattle.places.proofs.Kept.{KeptRow, done, more, last, keep-none}
use Rattle.record.specs.declared.aerodrome.Observation.{Observation}
use Rattle.record.specs.declared.aerodrome.Metar.{Metar}
use Rattle.record.specs.Observation.{blank_observation}
use Rattle.record.specs.Trend.{blank_trend}
use Rattle.record.specs.SilentAerodrome.{no_observation, no_trend}
use Rattle.record.specs.Arrays.{ObservationArrays, MetarArrays}
use Rattle.record.proofs.AerodromeBlanks.{Bare, bare, trend-blank}
use Rattle.elements.specs.Wind.{show_variation, judge_variation}
use Rattle.elements.specs.Weather.{show_weathers, show_recents, judge_recent, judge_weathers}
use Rattle.elements.specs.Sky.{show_sky}
use Rattle.elements.specs.Body.{wind_place, visibility_place, weather_place, sky_place, wind_judged, visibility_judged, weather_judged, sky_judged}
use Rattle.elements.proofs.Classed.{cavok-classed}
use Rattle.aerodrome_groups.specs.Head.{judge_station, judge_time}
use Rattle.aerodrome_groups.specs.Runway.{show_runways, judge_runways}
use Rattle.aerodrome_groups.specs.Temperatures.{judge_temperatures, judge_qnh}
use Rattle.runway_states.specs.State.{show_states, judge_states}
use Rattle.runway_states.proofs.StatesBack.{states-fit}
use Rattle.places.proofs.Lift.{kept-lifted}
use Rattle.aerodrome_groups.proofs.HeadKept.{kept-station, kept-time}
use Rattle.body.proofs.Places.{kept-wind, kept-visibility, kept-weather, kept-sky}
use Rattle.body.proofs.Bodies.{FairBody}
use Rattle.metar_row.specs.Row.{observed, row}
use Rattle.trend.specs.Write.{judge_trend}
use Rattle.metar.specs.Write.{foreign_blank, judge_head, judge_observation, judge_of}
use Rattle.metar_laws.proofs.Places.{station-lens, time-lens, kept-name, kept-corrected, kept-nil, kept-automatic, kept_of, live, kept-variation, kept-temperatures, kept-qnh, kept-runways, kept-recents, kept-states-at, kept-snoclo-at, kept-beside-at}

-- ---- what is judged fine

pub record Fair (r : Metar) : Type 0 where
  pub blank : foreign_blank r ≡ true
  pub station : judge_station r.observation.station ≡ Ok tt
  pub time : judge_time r.observation.time ≡ Ok tt
  pub rest : r.observation.nil ≡ false → (judge_observation r.observation ≡ Ok tt) × (judge_trend r.trend ≡ Ok tt)

-- what is judged unless the report is NIL, and what is blank where it is
unless-nil : (nil : Bool) (j : Result ⊤ Refusal) → nil ≡ false → cond nil (Ok tt) j ≡ Ok tt → j ≡ Ok tt
unless-nil nil j e h = rw e at h

when-nil : (nil b : Bool) → nil ≡ true → (not nil || b) ≡ true → b ≡ true
when-nil nil b e h = rw e at h

pub fair : (r : Metar) → judge_of r ≡ Ok tt → Fair r
unfolding judge_of judge_head
fair r e =
    let o = r.observation in
    let b = and-then (judge (foreign_blank r) true) _ e in
    let h = and-then (judge_head o) _ b.1 in
    let s = and-then (judge_station o.station) (judge_time o.time) h.0 in
    record {
      blank = (fine (foreign_blank r) true b.0).0;
      station = s.0;
      time = s.1;
      rest = λ n. and-then (judge_observation o) (judge_trend r.trend) (unless-nil o.nil _ n h.1);
    }

pub record FairObservation (r : Observation) : Type 0 where
  pub body : FairBody (observed r) r.body
  pub variation : judge_variation r.variation ≡ Ok tt
  pub runways : judge_runways r.runways ≡ Ok tt
  pub temperatures : judge_temperatures r.temperatures ≡ Ok tt
  pub qnh : judge_qnh r.qnh ≡ Ok tt
  pub recents : judge_weathers (judge_recent r.automatic) r.recents ≡ Ok tt
  pub states : judge_states r.states ≡ Ok tt

fair-parts : (r : Observation) → judge_observation r ≡ Ok tt → FairObservation r
unfolding judge_observation
fair-parts r e =
    let w = and-then (wind_judged (observed r) r.body) _ e in
    let v = and-then (judge_variation r.variation) _ w.1 in
    let s = and-then (visibility_judged (observed r) r.body) _ v.1 in
    let n = and-then (judge_runways r.runways) _ s.1 in
    let p = and-then (weather_judged (observed r) r.body) _ n.1 in
    let c = and-then (sky_judged (observed r) r.body) _ p.1 in
    let t = and-then (judge_temperatures r.temperatures) _ c.1 in
    let q = and-then (judge_qnh r.qnh) _ t.1 in
    let d = and-then (judge_weathers (judge_recent r.automatic) r.recents) (judge_states r.states) q.1 in
    record {
      body = record { wind = w.0; visibility = s.0; weather = p.0; sky = c.0 };
      variation = v.0;
      runways = n.0;
      temperatures = t.0;
      qnh = q.0;
      recents = d.0;
      states = d.1;
    }

-- what stands after the time is judged where the report is not NIL, and blank where it is
pub fair-observation : (r : Metar) → judge_of r ≡ Ok tt → r.observation.nil ≡ false → FairObservation r.observation
fair-observation r e full = fair-parts r.observation ((fair r e).rest full).0

bare_of : (r : Metar) → Fair r → r.observation.nil ≡ true → (no_observation r.observation ≡ true) × (no_trend r.trend ≡ true)
bare_of r f nil = both (no_observation r.observation) (no_trend r.trend) (when-nil r.observation.nil _ nil f.blank)

pub fair-bare : (r : Metar) → MetarArrays r → judge_of r ≡ Ok tt → r.observation.nil ≡ true → Bare r.observation
fair-bare r arrays e nil = bare r.observation arrays.observation (bare_of r (fair r e) nil).0

pub fair-silent : (r : Metar) → MetarArrays r → judge_of r ≡ Ok tt → r.observation.nil ≡ true → r.trend ≡ blank_trend
fair-silent r arrays e nil = trend-blank r.trend arrays.trend arrays.each (bare_of r (fair r e) nil).1

-- ---- the row

-- the bytes that a group may have at each place
abbrev pub sizes : List ℕ
sizes = 5 ∷ 3 ∷ 4 ∷ 7 ∷ 3 ∷ 4 ∷ 15 ∷ 7 ∷ 5 ∷ 11 ∷ 9 ∷ 9 ∷ 7 ∷ 5 ∷ 10 ∷ 8 ∷ 6 ∷ 0 ∷ 0 ∷ []

-- the record as the head leaves it
abbrev pub headed : Observation → Observation
headed r = put_all (take 5 row) r blank_observation

-- after NIL nothing is written, and nothing is put
nil-written : (r : Observation) → Bare r → r.nil ≡ true → written (drop 5 row) r ≡ []
unfolding row show_variation show_runways show_weathers show_sky show_recents show_states
nil-written r b nil = rw (nil, b.automatic, b.body, b.variation, b.runways, b.recents, b.states)

nil-put : (r : Observation) → Bare r → put_all (drop 5 row) r (headed r) ≡ headed r
unfolding row
nil-put r b = rw (b.automatic, b.body, b.variation, b.runways, b.temperatures, b.qnh, b.recents, b.states)

kept-observation : (r : Observation) → ObservationArrays r → FairObservation r → r.nil ≡ false → KeptRow (drop 5 sizes) (drop 5 row) r (headed r)
unfolding row
kept-observation r arrays f full =
    let t = observed r in
    let l = live r full in
    let b = r.body in
    let s = states-fit r.states arrays.states f.states in
    more (kept-automatic r _ refl) refl
    (more (kept_of r _ wind_place (record { has = refl; spoken = refl; most = refl; must = refl }) refl (kept-wind t l b _ refl f.body.wind)) refl
    (more (kept-variation r _ full f.variation refl) refl
    (more (kept_of r _ visibility_place (record { has = refl; spoken = refl; most = refl; must = refl }) refl (kept-visibility t l b _ refl f.body.visibility)) refl
    (more (kept-runways r _ refl arrays.runways f.runways) refl
    (more (kept_of r _ weather_place (record { has = refl; spoken = refl; most = refl; must = refl }) refl (kept-weather t b _ refl refl (cavok-classed b.visibility.is) arrays.body.weathers f.body.weather)) refl
    (more (kept_of r _ sky_place (record { has = refl; spoken = refl; most = refl; must = refl }) refl (kept-sky t b _ refl (cavok-classed b.visibility.is) arrays.body.layers f.body.sky)) refl
    (more (kept-temperatures r _ full f.temperatures) refl
    (more (kept-qnh r _ full f.qnh) refl
    (more (kept-recents r _ refl refl arrays.recents f.recents) refl
    (more (kept-states-at r _ s refl) refl
    (more (kept-snoclo-at r _ s refl refl) refl
    (more (kept-beside-at r _) refl
    (more (keep-none refl refl refl) refl done)))))))))))))

-- THE ROW KEEPS WHAT IS WRITTEN OF A RECORD THAT THE WRITER ACCEPTS.
pub kept_row : (r : Metar) → MetarArrays r → judge_of r ≡ Ok tt → KeptRow sizes row r.observation blank_observation
unfolding row
kept_row r arrays e =
    let f = fair r e in
    let o = r.observation in
    more (kept-name o blank_observation) refl
    (more (kept-corrected o _ refl) refl
    (more (kept-lifted station-lens (kept-station o.station _ f.station)) refl
    (more (kept-lifted time-lens (kept-time o.time _ f.time)) refl
    (go o.nil refl))))
  where
    go : (b : Bool) → r.observation.nil ≡ b → KeptRow (drop 4 sizes) (drop 4 row) r.observation (put_all (take 4 row) r.observation blank_observation)
    go true n = last (kept-nil r.observation _ refl) (rw n) refl (nil-written r.observation (fair-bare r arrays e n) n) (nil-put r.observation (fair-bare r arrays e n))
    go false n = more (kept-nil r.observation _ refl) (rw n) (kept-observation r.observation arrays.observation (fair-observation r e n) n)
