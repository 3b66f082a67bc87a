-- The round trip of the station and the time: what the writer judges fine and writes has its shape, and is read back as it was.
-- Assumes nothing.
use Rattle.std.specs.Prelude.{None, Ok, Option, Some}
use mathlib.Core.Path.{◌≡◌, refl, ap, ◌∙◌}
use mathlib.Core.Bool.{true, false, ◌&&◌, false≢true}
use mathlib.Core.List.{List, [], ◌∷◌, ◌++◌, append_assoc}
use Prim.Native.Nat.{ℕ, ◌≤◌}
use native.Mathlib.Omega.{arith}
use lib.ListN.{length, take, replicate, length-append}
use lib.Seq.{take_all, take-append-le}
use lib.Dec.{leb, eqb}
use borrow.Author.Tests.{leb-true, eqb-true}
use Rattle.figures.specs.Quote.{bytes}
use Rattle.figures.specs.declared.kinds.Field.{Field}
use Rattle.figures.specs.declared.kinds.Field.TheVariants as field
use Rattle.figures.specs.Figures.{field_at, field_text, is_letter, every, Fits}
use Rattle.figures.proofs.Figures.{length-field, field_back}
use Rattle.text.proofs.Judging.{fine}
use Rattle.shapes.specs.Pattern.{low, high, fits, has_pattern}
use Rattle.shapes.proofs.Patterns.{both, pattern-length, pattern-append, field-pattern}
use Rattle.places.specs.Engine.{Group}
use Rattle.record.specs.declared.aerodrome.Instant.{Instant}
use Rattle.record.specs.declared.aerodrome.Station.{Station}
use Rattle.aerodrome_groups.specs.Head.{station_shape, time_shape, is_day, is_hour, is_minute, read_time, show_time, judge_station, judge_time}
use Rattle.record.specs.Missing.{present}

-- ---- the station

letters-fit : (l : List ℕ) → every is_letter l ≡ true → has_pattern l (replicate (length l) 64) ≡ true
unfolding has_pattern fits low high
letters-fit [] e = refl
letters-fit (b ∷ l) e = let t = both (is_letter b) (every is_letter l) e in rw t.0 (letters-fit l t.1)

pub station-shaped : (s : Station) → judge_station s ≡ Ok tt → (has_pattern s.letters station_shape ≡ true) × (take 4 s.letters ≡ s.letters)
unfolding judge_station
station-shaped s e =
    let t = both (eqb (length s.letters) 4) (every is_letter s.letters) (fine _ true e).0 in
    let four = eqb-true (length s.letters) 4 t.0 in
    (rw four at (letters-fit s.letters t.1), take_all 4 s.letters (omega arith))

-- the code fills a short group up, which a group of the shape is not
pub station-whole : (g : Group) → has_pattern g station_shape ≡ true → take 4 (g ++ replicate 4 0) ≡ take 4 g
station-whole g h = take-append-le 4 g (replicate 4 0) (omega (arith, pattern-length g station_shape refl h))

-- ---- the time

-- three fields of two figures, and Z
module _ (d h m : Field) (fit-d : Fits 2 d) (fit-h : Fits 2 h) (fit-m : Fits 2 m) where
  abbrev text : Field → List ℕ
  text f = field_text 2 f

  two : (f : Field) → Fits 2 f → length (text f) ≡ 2
  two f fit = length-field 2 f (omega arith) fit

  four : length (text d ++ text h) ≡ 4
  four = rw (length-append, two d fit-d, two h fit-h)

  six : length (text d ++ text h ++ text m) ≡ 6
  six = rw (length-append, four, two m fit-m)

  hashes : (f : Field) → Fits 2 f → has_pattern (text f) (replicate 2 35) ≡ true
  hashes f fit = field-pattern 2 f (omega arith) fit

  laid-shape : has_pattern (text d ++ text h ++ text m ++ bytes "Z") time_shape ≡ true
  unfolding has_pattern fits low high
  laid-shape =
      pattern-append (text d ++ text h ++ text m) (bytes "Z") (replicate 6 35) (bytes "Z") refl six
      ∙ rw (pattern-append (text d ++ text h) (text m) (replicate 4 35) (replicate 2 35) refl four, pattern-append (text d) (text h) (replicate 2 35) (replicate 2 35) refl (two d fit-d), hashes d fit-d, hashes h fit-h, hashes m fit-m)

  laid-day : field_at (text d ++ text h ++ text m ++ bytes "Z") 0 2 ≡ d
  laid-day = simp append_assoc (field_back [] (text h ++ (text m ++ bytes "Z")) 2 d (omega arith) (omega arith) fit-d)

  laid-hour : field_at (text d ++ text h ++ text m ++ bytes "Z") 2 2 ≡ h
  laid-hour =
      ap (λ (g : List ℕ). field_at g 2 2) (append_assoc (text d ++ text h) (text m) (bytes "Z"))
      ∙ rw (two d fit-d) at (field_back (text d) (text m ++ bytes "Z") 2 h (omega arith) (omega arith) fit-h)

  laid-minute : field_at (text d ++ text h ++ text m ++ bytes "Z") 4 2 ≡ m
  laid-minute = rw four at (field_back (text d ++ text h) (bytes "Z") 2 m (omega arith) (omega arith) fit-m)

-- what the writer judges fine is a day, an hour and a minute
abbrev Times : Instant → ℕ → ℕ → ℕ → Type 0
Times t d h m = (t ≡ record { day = Some d; hour = Some h; minute = Some m }) × (is_day d && is_hour h && is_minute m ≡ true)

times : (t : Instant) → judge_time t ≡ Ok tt → (d : ℕ) × (h : ℕ) × (m : ℕ) × Times t d h m
unfolding judge_time
times t e = go t.day t.hour t.minute (fine _ true e).0
  where
    go : (x y z : Option ℕ) → (present is_day x && present is_hour y && present is_minute z) ≡ true
        → (d : ℕ) × (h : ℕ) × (m : ℕ) × Times (record { day = x; hour = y; minute = z }) d h m
    go None y z e = absurd (false≢true e)
    go (Some d) None z e = absurd (false≢true (both (is_day d) false (both (is_day d && false) (present is_minute z) e).0).1)
    go (Some d) (Some h) None e = absurd (false≢true (both (is_day d && is_hour h) false e).1)
    go (Some d) (Some h) (Some m) e = (d, h, m, (refl, e))

two-figures : (d h m : ℕ) → (is_day d && is_hour h && is_minute m) ≡ true → (d ≤ 31) × (h ≤ 23) × (m ≤ 59)
two-figures d h m e =
    let t = both (is_day d && is_hour h) (is_minute m) e in
    let s = both (is_day d) (is_hour h) t.0 in
    (leb-true d 31 (both (leb 1 d) (leb d 31) s.0).1, leb-true h 23 s.1, leb-true m 59 t.1)

pub time-shaped : (t : Instant) → judge_time t ≡ Ok tt → has_pattern (show_time t) time_shape ≡ true
unfolding show_time
time-shaped t e =
    let x = times t e in
    let few = two-figures x.0 x.1 x.2 x.3.1 in
    rw x.3.0 (laid-shape (field.Number x.0) (field.Number x.1) (field.Number x.2) (omega arith) (omega arith) (omega arith))

pub time-back : (t : Instant) → judge_time t ≡ Ok tt → read_time (show_time t) ≡ Ok t
unfolding show_time read_time
time-back t e =
    let x = times t e in
    let few = two-figures x.0 x.1 x.2 x.3.1 in
    let day = laid-day (field.Number x.0) (field.Number x.1) (field.Number x.2) (omega arith) (omega arith) (omega arith) in
    let hour = laid-hour (field.Number x.0) (field.Number x.1) (field.Number x.2) (omega arith) (omega arith) (omega arith) in
    let minute = laid-minute (field.Number x.0) (field.Number x.1) (field.Number x.2) (omega arith) (omega arith) (omega arith) in
    rw (x.3.0, day, hour, minute, x.3.1)
