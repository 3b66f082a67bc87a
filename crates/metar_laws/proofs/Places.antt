-- The places of METAR and SPECI one by one: what is written at each of a record that is judged fine has the place's shape, takes a known room, and is
-- read back as what is put. The head's words, the station, the time and the body are lifted places, which keep what their own laws say.
-- Assumes nothing.
use Rattle.std.specs.Prelude.{Ok, None, Option, Some}
use Prim.Native.Nat.{ℕ}
use native.Mathlib.Omega.{arith}
use mathlib.Core.Path.{◌≡◌, refl, sym, ap, ◌∙◌}
use mathlib.Core.Bool.{Bool, true, false, cond}
use mathlib.Core.List.{[], ◌∷◌, ◌++◌}
use lib.ListN.{length}
use Rattle.figures.specs.Quote.{bytes}
use Rattle.figures.specs.Figures.{figures}
use Rattle.shapes.specs.Pattern.{low, high, fits, has_pattern, has_any}
use Rattle.shapes.specs.Shape.{leading, split, parts_of, spellings, has_shape}
use Rattle.places.specs.Engine.{Group, Place, place_at}
use Rattle.places.proofs.ReadBack.{one-pattern, two-patterns, fill}
use Rattle.places.proofs.Sizes.{measured, sized-any, Sized, sized-each}
use Rattle.places.proofs.Kept.{Kept, keep_one, keep-none, keep-each}
use Rattle.places.proofs.Lift.{Lens, Alike, kept-lifted, kept_in}
use Rattle.scales.specs.Rounded.{ddd_figure}
use Rattle.record.specs.declared.aerodrome.Extremes.{Extremes}
use Rattle.record.specs.declared.aerodrome.Body.{Body}
use Rattle.record.specs.declared.aerodrome.Observation.{Observation}
use Rattle.record.specs.Observation.{set_corrected, set_station, set_time, set_nil, set_automatic, set_body, blank_observation, blank_runways, blank_states, set_runways, set_recents, set_states}
use Rattle.record.specs.Body.{blank_weathers}
use Rattle.elements.specs.Wind.{variation_shape, show_variation, judge_variation}
use Rattle.elements.specs.Body.{Terms}
use Rattle.elements.specs.Weather.{has_recent, read_recent, with_weather, show_recent, show_recents, judge_recent, judge_weathers}
use Rattle.elements.proofs.Fills.{filled-items}
use Rattle.aerodrome_groups.specs.Head.{word_place}
use Rattle.aerodrome_groups.specs.Temperatures.{temperatures_shape, qnh_shape, show_temperatures, show_qnh, judge_temperatures, judge_qnh}
use Rattle.wind.proofs.RoundTripVariation.{variation-shaped, variation-back}
use Rattle.weather.proofs.Covers.{recent-covered}
use Rattle.weather.proofs.RoundTrip.{recent-shaped, recent-back, recent-sized}
use Rattle.weather.proofs.Lists.{add_each as add_weathers, weathers-back, weathers-all, weathers-three}
use Rattle.aerodrome_groups.proofs.HeadKept.{kept_word}
use Rattle.aerodrome_groups.proofs.TemperaturesBack.{temperatures-shaped, temperatures-back, qnh-shaped, qnh-back}
use Rattle.aerodrome_groups.specs.Runway.{runway_shape, read_runway, with_runway, show_runways, judge_runways, class_runways}
use Rattle.aerodrome_groups.proofs.RunwaysBack.{add_each as add_runways, runways-shaped, runways-few, runways-back}
use Rattle.runway_states.specs.State.{states_place, snoclo_place, beside_place}
use Rattle.runway_states.proofs.StatesBack.{Counted, snoclo-alone}
use Rattle.runway_states.proofs.StatesKept.{kept-states, kept-snoclo, kept-beside}
use Rattle.body.proofs.Places.{Live}
use Rattle.metar_row.specs.Row.{is_name, observed, of_body, row}

temperatures-measured : measured 7 (spellings (parts_of temperatures_shape)) ≡ true
unfolding low high leading split parts_of spellings
temperatures-measured = refl

runway-measured : measured 11 (spellings (parts_of runway_shape)) ≡ true
unfolding low high leading split parts_of spellings
runway-measured = refl

-- ---- the head

abbrev pub name : Bool → Group
name special = cond special (bytes "SPECI") (bytes "METAR")

pub name-named : (b : Bool) → is_name (name b) ≡ true
unfolding has_pattern fits low high
name-named true = refl
name-named false = refl

name-tells : (b : Bool) → has_pattern (name b) (bytes "SPECI") ≡ b
unfolding has_pattern fits low high
name-tells true = refl
name-tells false = refl

names-measured : measured 5 (bytes "METAR" ∷ bytes "SPECI" ∷ []) ≡ true
unfolding low high
names-measured = refl

corrected-lens : Lens (λ (r : Observation). r.corrected) set_corrected
corrected-lens = record { got = λ a r. refl; same = λ r. refl; twice = λ a b r. refl }

pub station-lens : Lens (λ (r : Observation). r.station) set_station
station-lens = record { got = λ a r. refl; same = λ r. refl; twice = λ a b r. refl }

pub time-lens : Lens (λ (r : Observation). r.time) set_time
time-lens = record { got = λ a r. refl; same = λ r. refl; twice = λ a b r. refl }

nil-lens : Lens (λ (r : Observation). r.nil) set_nil
nil-lens = record { got = λ a r. refl; same = λ r. refl; twice = λ a b r. refl }

automatic-lens : Lens (λ (r : Observation). r.automatic) set_automatic
automatic-lens = record { got = λ a r. refl; same = λ r. refl; twice = λ a b r. refl }

states-lens : Lens (λ (r : Observation). r.states) set_states
states-lens = record { got = λ a r. refl; same = λ r. refl; twice = λ a b r. refl }

body-lens : Lens (λ (r : Observation). r.body) set_body
body-lens = record { got = λ a r. refl; same = λ r. refl; twice = λ a b r. refl }

module _ (r acc : Observation) where
  pub kept-name : Kept (place_at row 0) 5 r acc
  unfolding row
  kept-name =
      let b = r.special in
      let covered = two-patterns (bytes "METAR") (bytes "SPECI") (name b) (name-named b) in
      keep_one (name b) refl (name-named b) covered (sized-any 5 (bytes "METAR" ∷ bytes "SPECI" ∷ []) (name b) names-measured covered) (omega arith)
      (rw (name-tells b))

  pub kept-corrected : acc.corrected ≡ false → Kept (place_at row 1) 3 r acc
  unfolding row has_pattern fits low high
  kept-corrected e = kept-lifted corrected-lens {p = word_place "COR" false} (rw e (kept_word "COR" false 3 r.corrected refl refl))

  pub kept-nil : acc.nil ≡ false → Kept (place_at row 4) 3 r acc
  unfolding row has_pattern fits low high
  kept-nil e = kept-lifted nil-lens {p = word_place "NIL" true} (rw e (kept_word "NIL" true 3 r.nil refl refl))

  pub kept-automatic : acc.automatic ≡ false → Kept (place_at row 5) 4 r acc
  unfolding row has_pattern fits low high
  kept-automatic e = kept-lifted automatic-lens {p = word_place "AUTO" false} (rw e (kept_word "AUTO" false 4 r.automatic refl refl))

  -- ---- the body, where NIL and AUTO are as they were read

  pub kept_of : {n : ℕ} (p : Terms → Place Body) → Alike (p (observed r)) (p (observed blank_observation)) → observed acc ≡ observed r
      → Kept (p (observed r)) n r.body acc.body → Kept (of_body p) n r acc
  kept_of p alike seen k = kept_in body-lens observed (observed blank_observation) p (λ a r. refl) alike seen k

-- an observation that is not NIL
pub live : (r : Observation) → r.nil ≡ false → Live (observed r)
live r full = record { heard = full; stands = refl }

-- ---- what stands between and after the body's places, where the report is not NIL

module _ (r acc : Observation) (full : r.nil ≡ false) where
  pub kept-variation : judge_variation r.variation ≡ Ok tt → acc.variation.is ≡ None → Kept (place_at row 7) 7 r acc
  unfolding row show_variation low high
  kept-variation e b = go r.variation.is refl
    where
      go : (x : Option Extremes) → r.variation.is ≡ x → Kept (place_at row 7) 7 r acc
      go None is = keep-none (rw is) refl (rw (is, ← b))
      go (Some x) is =
          let g = figures 3 (ddd_figure x.from) ++ bytes "V" ++ figures 3 (ddd_figure x.to) in
          let s = variation-shaped r.variation e g (rw is) in
          keep_one g (rw is) s.0 s.1 (sized-any 7 (variation_shape ∷ []) g refl s.1) (omega arith) (rw (variation-back r.variation e g (rw is)))

  pub kept-temperatures : judge_temperatures r.temperatures ≡ Ok tt → Kept (place_at row 12) 7 r acc
  unfolding row
  kept-temperatures e =
      let s = temperatures-shaped r.temperatures e in
      let g = show_temperatures r.temperatures in
      keep_one g (rw full) s.0 s.1 (sized-any 7 (spellings (parts_of temperatures_shape)) g temperatures-measured s.1) (omega arith)
      (rw (temperatures-back r.temperatures e))

  pub kept-qnh : judge_qnh r.qnh ≡ Ok tt → Kept (place_at row 13) 5 r acc
  unfolding row low high
  kept-qnh e =
      let s = qnh-shaped r.qnh e in
      let covered = one-pattern qnh_shape (show_qnh r.qnh) s in
      keep_one (show_qnh r.qnh) (rw full) s covered (sized-any 5 (qnh_shape ∷ []) (show_qnh r.qnh) refl covered) (omega arith)
      (rw (qnh-back r.qnh e))

-- ---- runway ranges, of which several may stand: read back group by group

module _ (r acc : Observation) (blank : set_runways blank_runways acc ≡ acc) (four : length r.runways.items ≡ 4) (e : judge_runways r.runways ≡ Ok tt) where
  runways-filled : fill (place_at row 9) 0 (show_runways r.runways) acc ≡ Ok (set_runways (class_runways r.runways) acc)
  unfolding row
  runways-filled =
      ap (fill (place_at row 9) 0 (show_runways r.runways)) (sym blank)
      ∙ filled-items (place_at row 9) set_runways acc read_runway with_runway add_runways (λ k g rs. refl) (λ k rs. refl) (λ k g gs rs. refl)
      (show_runways r.runways) blank_runways (class_runways r.runways) (runways-back r.runways four e)

  pub kept-runways : Kept (place_at row 9) 11 r acc
  unfolding row
  kept-runways =
      let s = runways-shaped r.runways e in
      keep-each refl s
      (sized-each (λ g. has_shape runway_shape g ≡ true) 11 (spellings (parts_of runway_shape)) (show_runways r.runways) runway-measured s)
      (runways-few r.runways four e) runways-filled

-- ---- recent weather, of which several may stand

module _ (r acc : Observation) (blank : set_recents blank_weathers acc ≡ acc) (same : acc.automatic ≡ r.automatic) (three : length r.recents.items ≡ 3)
    (e : judge_weathers (judge_recent r.automatic) r.recents ≡ Ok tt) where
  recents-filled : fill (place_at row 14) 0 (show_recents r.recents) acc ≡ Ok (set_recents r.recents acc)
  unfolding row show_recents
  recents-filled =
      let read = read_recent acc.automatic in
      ap (fill (place_at row 14) 0 (show_recents r.recents)) (sym blank)
      ∙ filled-items (place_at row 14) set_recents acc read with_weather (add_weathers read) (λ k g ws. refl) (λ k ws. refl) (λ k g gs ws. refl)
      (show_recents r.recents) blank_weathers r.recents
      (weathers-back r.recents three read show_recent (judge_recent r.automatic) (λ w h. rw same (recent-back r.automatic w h)) e)

  pub kept-recents : Kept (place_at row 14) 10 r acc
  unfolding row show_recents
  kept-recents =
      keep-each refl
      (weathers-all show_recent (judge_recent r.automatic) r.recents e (λ g. (has_recent g ≡ true) × (has_any (bytes "RE*" ∷ []) g ≡ true))
      (λ w h. let s = recent-shaped r.automatic w h in (s, recent-covered (show_recent w) s)))
      (weathers-all show_recent (judge_recent r.automatic) r.recents e (Sized 10)
      (λ w h. let z = recent-sized r.automatic w h in record { whole = z.0; allow = z.1; short = z.2 }))
      (weathers-three show_recent (judge_recent r.automatic) r.recents e three) recents-filled

-- ---- runway states and SNOCLO, of which nothing was read before

module _ (r acc : Observation) where
  pub kept-states-at : Counted r.states → acc.states ≡ blank_states → Kept (place_at row 15) 8 r acc
  unfolding row
  kept-states-at l none = kept-lifted states-lens {p = states_place} (rw none (kept-states r.states l))

  pub kept-snoclo-at : Counted r.states → acc.states.count ≡ r.states.count → acc.states.snoclo ≡ false → Kept (place_at row 16) 6 r acc
  unfolding row
  kept-snoclo-at l same unset = kept-lifted states-lens {p = snoclo_place} (kept-snoclo r.states acc.states (λ closed. same ∙ snoclo-alone r.states l closed) unset)

  pub kept-beside-at : Kept (place_at row 17) 0 r acc
  unfolding row
  kept-beside-at = kept-lifted states-lens {p = beside_place} (kept-beside r.states acc.states)
