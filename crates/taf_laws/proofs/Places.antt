-- The places of a TAF's head one by one: what is written at each of a part that is judged fine has the place's shape, takes a known room, and is read back as
-- what is put. Its words, the station, the time and the body are lifted places, which keep what their own laws say.
-- Assumes nothing.
use native.Mathlib.Omega.{arith}
use mathlib.Core.Path.{◌≡◌, refl}
use mathlib.Core.Bool.{true, false}
use mathlib.Core.List.{[], ◌∷◌}
use Rattle.figures.specs.Quote.{bytes}
use Rattle.shapes.specs.Pattern.{low, high, fits, has_pattern, has_any}
use Rattle.places.specs.Engine.{place_at}
use Rattle.places.specs.Lift.{open_in}
use Rattle.places.proofs.ReadBack.{one-pattern}
use Rattle.places.proofs.Sizes.{measured, sized-any}
use Rattle.places.proofs.Kept.{Kept, keep_one, keep-none}
use Rattle.places.proofs.Lift.{Lens, kept-lifted}
use Rattle.record.specs.declared.aerodrome.Correction.{Correction}
use Rattle.record.specs.declared.aerodrome.Correction.TheVariants as correction
use Rattle.record.specs.declared.aerodrome.Leg.{Leg}
use Rattle.record.specs.declared.aerodrome.Edition.{Edition}
use Rattle.record.specs.Taf.{set_station, set_time, set_nil, set_cancelled, set_body}
use Rattle.aerodrome_groups.specs.Head.{word_place}
use Rattle.aerodrome_groups.proofs.HeadKept.{kept_word}
use Rattle.body.proofs.Places.{Live}
use Rattle.taf_row.specs.declared.kinds.Part.{Part}
use Rattle.taf_row.specs.declared.kinds.Part.TheVariants as part
use Rattle.taf_row.specs.declared.kinds.Form.{Form}
use Rattle.taf_row.specs.declared.kinds.Form.TheVariants as form
use Rattle.taf_row.specs.Row.{forecast_in, period_shape, show_period, period_place, row}
use Rattle.taf.specs.Write.{period_fits}
use Rattle.taf_laws.proofs.Periods.{period-shaped, period-back}

pub station-lens : Lens (λ (r : Leg). r.station) set_station
station-lens = record { got = λ a r. refl; same = λ r. refl; twice = λ a b r. refl }

pub time-lens : Lens (λ (r : Leg). r.time) set_time
time-lens = record { got = λ a r. refl; same = λ r. refl; twice = λ a b r. refl }

nil-lens : Lens (λ (r : Leg). r.nil) set_nil
nil-lens = record { got = λ a r. refl; same = λ r. refl; twice = λ a b r. refl }

cancelled-lens : Lens (λ (r : Leg). r.cancelled) set_cancelled
cancelled-lens = record { got = λ a r. refl; same = λ r. refl; twice = λ a b r. refl }

pub body-lens : Lens (λ (r : Leg). r.body) set_body
body-lens = record { got = λ a r. refl; same = λ r. refl; twice = λ a b r. refl }

-- a forecast's body, in every part
pub live : (w : Part) → Live (forecast_in w)
live w = record { heard = refl; stands = refl }

-- a period's group has at most nine bytes
shape-short : (f : Form) → measured 9 (period_shape f ∷ []) ≡ true
unfolding low high
shape-short form.BothDays = refl
shape-short form.FirstDay = refl
shape-short form.NoDay = refl

module _ (e : Edition) (r acc : Leg) where
  pub kept-name : Kept (place_at (row e part.Main) 0) 3 r acc
  unfolding row has_pattern has_any fits low high
  kept-name = keep_one (bytes "TAF") refl refl refl (sized-any 3 (bytes "TAF" ∷ []) (bytes "TAF") refl refl) (omega arith) refl

  pub kept-correction : acc.correction ≡ correction.None → Kept (place_at (row e part.Main) 1) 3 r acc
  unfolding row has_pattern has_any fits low high
  kept-correction b = go r.correction refl
    where
      go : (c : Correction) → r.correction ≡ c → Kept (place_at (row e part.Main) 1) 3 r acc
      go correction.None is = keep-none (rw is) refl (rw (is, ← b))
      go correction.Amended is = keep_one (bytes "AMD") (rw is) refl refl (sized-any 3 (bytes "AMD" ∷ []) (bytes "AMD") refl refl) (omega arith) (rw is)
      go correction.Corrected is = keep_one (bytes "COR") (rw is) refl refl (sized-any 3 (bytes "COR" ∷ []) (bytes "COR") refl refl) (omega arith) (rw is)

  pub kept-nil : acc.nil ≡ false → Kept (place_at (row e part.Main) 4) 3 r acc
  unfolding row has_pattern fits low high
  kept-nil is = kept-lifted nil-lens {p = word_place "NIL" true} (rw is (kept_word "NIL" true 3 r.nil refl refl))

  pub kept-cancelled : acc.cancelled ≡ false → Kept (place_at (row e part.Main) 7) 3 r acc
  unfolding row has_pattern fits low high
  kept-cancelled is = kept-lifted cancelled-lens {p = word_place "CNL" true} (rw is (kept_word "CNL" true 3 r.cancelled refl refl))

-- the period, where there is one
pub kept-period : (f : Form) (r acc : Leg) → r.nil ≡ false → period_fits f r.period ≡ true → Kept (open_in true (period_place f)) 9 r acc
kept-period f r acc full fair =
    let s = period-shaped f r.period fair in
    let covered = one-pattern (period_shape f) (show_period f r.period) s in
    keep_one (show_period f r.period) (rw full) s covered (sized-any 9 (period_shape f ∷ []) (show_period f r.period) (shape-short f) covered) (omega arith)
    (rw (period-back f r.period fair))
