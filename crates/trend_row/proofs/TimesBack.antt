-- The times of a trend's change: what is written of times that fit has the shape of its place, takes six bytes, and is read back as it was; and of the three
-- places together nothing is lost.
-- Assumes nothing.
use Rattle.std.specs.Prelude.{Ok, Result}
use Rattle.text.specs.declared.kinds.Refusal.{Refusal}
use Prim.Native.Nat.{ℕ, ◌≤◌}
use native.Mathlib.Omega.{arith}
use mathlib.Core.Path.{◌≡◌, refl, ◌∙◌}
use mathlib.Core.Bool.{Bool, true, false, ◌&&◌}
use mathlib.Core.List.{List, [], ◌∷◌, ◌++◌}
use lib.ListN.{replicate}
use lib.Dec.{leb, eqb}
use borrow.Author.Tests.{leb-true, eqb-true}
use Rattle.figures.specs.Quote.{bytes}
use Rattle.figures.specs.declared.kinds.Field.TheVariants as field
use Rattle.figures.specs.Figures.{figures, field_at, field_text, number_text}
use Rattle.figures.proofs.Figures.{length-field, field_back}
use Rattle.shapes.specs.Pattern.{low, high, fits, has_pattern}
use Rattle.shapes.proofs.Patterns.{both, or_cases, pattern-append, field-pattern}
use Rattle.places.specs.Engine.{Group, then}
use Rattle.places.proofs.ReadBack.{one-pattern}
use Rattle.places.proofs.Sizes.{measured, sized-any}
use Rattle.places.proofs.Kept.{Kept, keep_one, keep-none}
use Rattle.record.specs.declared.aerodrome.Moment.{Moment}
use Rattle.record.specs.declared.aerodrome.Hours.{Hours}
use Rattle.record.specs.declared.aerodrome.Hours.TheVariants as hours
use Rattle.record.specs.declared.aerodrome.Times.{Times}
use Rattle.trend_row.specs.Times.{moment_fits, read_moment, until_of, times_of, read_from, read_until, read_at, show_moment, show_from, show_until, show_at, put_from, put_until, put_at, hours_fit, moment_place, from_place, until_place, at_place}

-- ---- GGgg after two letters

module _ (a b : ℕ) (end : Bool) (t : Moment) (e : moment_fits end t ≡ true) where
  abbrev said : Group
  said = a ∷ b ∷ show_moment t

  abbrev shape : List ℕ
  shape = a ∷ b ∷ bytes "####"

  -- both its numbers have two figures
  few : (t.hour ≤ 59) × (t.minute ≤ 59)
  few =
      or_cases (leb t.hour 23 && leb t.minute 59) (end && (eqb t.hour 24 && eqb t.minute 0)) e
      (λ usual.
      let u = both (leb t.hour 23) (leb t.minute 59) usual in
      (omega (arith, leb-true t.hour 23 u.0), leb-true t.minute 59 u.1))
      (λ last.
      let l = both (eqb t.hour 24) (eqb t.minute 0) (both end (eqb t.hour 24 && eqb t.minute 0) last).1 in
      (omega (arith, eqb-true t.hour 24 l.0), omega (arith, eqb-true t.minute 0 l.1)))

  moment-figured : has_pattern (show_moment t) (bytes "####") ≡ true
  unfolding field_text
  moment-figured =
      let f = few in
      let h = field-pattern 2 (field.Number t.hour) (omega arith) (omega arith) in
      let m = field-pattern 2 (field.Number t.minute) (omega arith) (omega arith) in
      let two = length-field 2 (field.Number t.hour) (omega arith) (omega arith) in
      pattern-append (number_text 2 t.hour) (number_text 2 t.minute) (replicate 2 35) (replicate 2 35) refl two ∙ rw (h, m)

  -- IT IS READ AS IT WAS.
  moment-back : read_moment end said ≡ Ok t
  unfolding read_moment field_text number_text figures
  moment-back =
      let f = few in
      let h : field_at said 2 2 ≡ field.Number t.hour = field_back (a ∷ b ∷ []) (number_text 2 t.minute) 2 (field.Number t.hour) (omega arith) (omega arith) (omega arith) in
      let m : field_at said 4 2 ≡ field.Number t.minute = field_back (a ∷ b ∷ number_text 2 t.hour) [] 2 (field.Number t.minute) (omega arith) (omega arith) (omega arith) in
      rw (h, m, e)

  -- so a place of these letters that writes it, and reads it as the next times, keeps it
  kept-moment : has_pattern said shape ≡ true → measured 6 (shape ∷ []) ≡ true
      → (read : Group → Times → Result Times Refusal) (show : Hours → List Group) (put : Hours → Hours → Hours) (next : Moment → Hours) (h : Hours) (acc : Times)
      → show h ≡ said ∷ [] → read said acc ≡ then (read_moment end said) (λ m. Ok (times_of (next m))) → put h acc.is ≡ next t
      → Kept (moment_place shape read show put) 6 (times_of h) acc
  kept-moment shaped room read show put next h acc is reads puts =
      let covered = one-pattern shape said shaped in
      keep_one said is shaped covered (sized-any 6 (shape ∷ []) said room covered) (omega arith) (rw (reads, moment-back, puts))

-- ---- the three places: FM is the bytes 70 and 77, TL 84 and 76, AT 65 and 84

module _ (h : Hours) (acc : Times) where
  from-kept : (f : Moment) → moment_fits false f ≡ true → show_from h ≡ (bytes "FM" ++ show_moment f) ∷ [] → put_from h acc.is ≡ hours.From f → Kept from_place 6 (times_of h) acc
  unfolding has_pattern fits low high
  from-kept f e is puts = kept-moment 70 77 false f e (moment-figured 70 77 false f e) refl (λ g s. read_from g) show_from put_from hours.From h acc is refl puts

  until-kept : (u : Moment) → moment_fits true u ≡ true → show_until h ≡ (bytes "TL" ++ show_moment u) ∷ [] → put_until h acc.is ≡ until_of acc.is u → Kept until_place 6 (times_of h) acc
  unfolding has_pattern fits low high
  until-kept u e is puts = kept-moment 84 76 true u e (moment-figured 84 76 true u e) refl read_until show_until put_until (until_of acc.is) h acc is refl puts

-- WHAT IS WRITTEN OF TIMES THAT FIT IS KEPT, PLACE AFTER PLACE.
pub kept-times : (h : Hours) → hours_fit h ≡ true → (acc : Times) → acc.is ≡ hours.None
    → Kept from_place 6 (times_of h) acc × Kept until_place 6 (times_of h) (times_of (put_from h acc.is)) × Kept at_place 6 (times_of h) (times_of (put_until h (put_from h acc.is)))
unfolding has_pattern fits low high
kept-times hours.None e acc none = (keep-none refl refl refl, keep-none refl refl refl, keep-none refl refl refl)
kept-times (hours.From f) e acc none = (from-kept (hours.From f) acc f e refl refl, keep-none refl refl refl, keep-none refl refl refl)
kept-times (hours.Until u) e acc none = (keep-none refl refl refl, until-kept (hours.Until u) acc u e refl refl, keep-none refl refl refl)
kept-times (hours.Between f u) e acc none =
    let t = both (moment_fits false f) (moment_fits true u) e in
    (from-kept (hours.Between f u) acc f t.0 refl refl, until-kept (hours.Between f u) (times_of (hours.From f)) u t.1 refl refl, keep-none refl refl refl)
kept-times (hours.At t) e acc none =
    (keep-none refl refl refl, keep-none refl refl refl, kept-moment 65 84 false t e (moment-figured 65 84 false t e) refl read_at show_at put_at hours.At (hours.At t) acc refl (rw none) refl)

-- NOTHING OF THE TIMES IS LOST.
pub times-back : (h : Hours) → put_at h (put_until h (put_from h hours.None)) ≡ h
times-back hours.None = refl
times-back (hours.From f) = refl
times-back (hours.Until u) = refl
times-back (hours.Between f u) = refl
times-back (hours.At t) = refl
