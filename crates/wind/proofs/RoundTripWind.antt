-- The wind's round trip: what is judged fine is written as a group of the wind's shape, read back as its class, and written the same again.
-- Assumes nothing.
use Rattle.std.specs.Prelude.{Ok}
use Prim.Native.Nat.{ℕ, ◌≤◌}
use native.Mathlib.Omega.{arith}
use mathlib.Core.Path.{◌≡◌, refl, sym, ap, ◌∙◌}
use mathlib.Core.Bool.{Bool, true, false, cond, not, ◌&&◌, false≢true}
use mathlib.Core.List.{List, [], ◌∷◌}
use lib.ListN.{length, get_or, replicate}
use lib.Dec.{leb, ltb, eqb}
use borrow.Author.Tests.{leb-true, leb-false, le-leb, lt-ltb, eq-eqb}
use Rattle.figures.specs.Quote.{bytes}
use Rattle.figures.specs.declared.kinds.Field.TheVariants as field
use Rattle.text.proofs.Judging.{fine}
use Rattle.shapes.specs.declared.kinds.Value.{Value}
use Rattle.shapes.specs.declared.kinds.Scan.{Scan}
use Rattle.shapes.specs.Pattern.{Pattern, low, high, has_any}
use Rattle.shapes.specs.Shape.{Part, leading, split, parts_of, field_width, blank_value, padded, scan_of, has_shape, print_of, spellings, unled, unled_each, clear, printable, sound, FieldOf, Sayable}
use Rattle.shapes.proofs.Patterns.{both}
use Rattle.shapes.proofs.Shapes.{scan-back, covered}
use Rattle.scales.specs.Rounded.{rounded_direction}
use Rattle.scales.proofs.DirectionLaws.{rounded-below, ddd-most, ddd-some, ddd-back, ddd-again}
use Rattle.places.specs.Engine.{Group}
use Rattle.elements.proofs.Scanned.{print-enough}
use Rattle.record.specs.declared.values.Direction.{Direction}
use Rattle.record.specs.declared.values.Direction.TheVariants as direction
use Rattle.record.specs.declared.values.Speed.{Speed}
use Rattle.record.specs.declared.values.Speed.TheVariants as speed
use Rattle.record.specs.declared.aerodrome.Unit.{Unit}
use Rattle.record.specs.declared.aerodrome.Unit.TheVariants as unit
use Rattle.record.specs.declared.aerodrome.Wind.{Wind}
use Rattle.record.specs.Classes.{class_direction}
use Rattle.record.proofs.Near.{direction_fits}
use Rattle.record.specs.Missing.{no_speed}
use Rattle.record.proofs.Blanks.{speed-blank}
use Rattle.elements.specs.Wind.{wind_shape, unit_of, last_exact, speed_of, gust_of, direction_of, wind_agrees, wind_with, is_no_wind, wind_by, read_wind, class_speed, numbered, direction_value, speed_value, gust_value, unit_value, wind_values, show_wind, has_unit, gust_fits, speed_fits, wind_fits, judge_wind, class_wind}
use Rattle.wind.proofs.SpeedLaws.{last-small, SpeedKept, no-speed, exact, over, above, speed-kept, own-class, missing-classed, class-has}

-- ---- the shape

pub wind-covered : (g : Group) → has_shape wind_shape g ≡ true → has_any (spellings (parts_of wind_shape)) g ≡ true
wind-covered g h = covered wind_shape g h

abbrev directions : Part
directions = bytes "###" ∷ bytes "VRB" ∷ []

abbrev speeds : Part
speeds = bytes "###" ∷ bytes "##" ∷ bytes "P###" ∷ bytes "P##" ∷ []

abbrev gusts : Part
gusts = bytes "G###" ∷ bytes "G##" ∷ bytes "GP###" ∷ bytes "GP##" ∷ [] ∷ []

abbrev units : Part
units = bytes "KT" ∷ bytes "MPS" ∷ bytes "KMH" ∷ []

parts_are : parts_of wind_shape ≡ directions ∷ speeds ∷ gusts ∷ units ∷ []
unfolding parts_of split
parts_are = refl

wind-sound : sound wind_shape ≡ true
unfolding sound clear printable parts_of split leading spellings unled_each unled low high
wind-sound = refl

-- values past the fourth are not printed
pub print-four : (a b c d : Value) (others : List Value) → print_of wind_shape (a ∷ b ∷ c ∷ d ∷ others) ≡ print_of wind_shape (a ∷ b ∷ c ∷ d ∷ [])
print-four a b c d others = print-enough wind_shape (a ∷ b ∷ c ∷ d ∷ []) others (rw parts_are (omega arith))

-- what is printed of four values is scanned as them
scan-four : (a b c d : Value) → Sayable (directions ∷ speeds ∷ gusts ∷ units ∷ []) (a ∷ b ∷ c ∷ d ∷ [])
    → scan_of wind_shape (print_of wind_shape (a ∷ b ∷ c ∷ d ∷ [])) ≡ record { fits = true; values = padded (a ∷ b ∷ c ∷ d ∷ []) }
scan-four a b c d say =
    rw (print-four a b c d (replicate 4 blank_value)) at (scan-back wind_shape (a ∷ b ∷ c ∷ d ∷ []) wind-sound (rw parts_are say))

-- ---- what is judged fine can be printed

abbrev Said : Part → Value → Type 0
Said p v = (ltb v.which (length p) ≡ true) × FieldOf (field_width (get_or p v.which [])) v.field

direction-said : (d : Direction) → direction_fits d ≡ true → Said directions (direction_value d)
unfolding leading
direction-said direction.Missing h = (refl, tt)
direction-said direction.Calm h = (refl, omega arith)
direction-said direction.Variable h = (refl, refl)
direction-said (direction.Degrees d) h = (refl, omega (arith, ddd-most d))

-- three figures from 100 on, and two below it
number-said : (a b : Pattern) (others : Part) → field_width a ≡ 3 → field_width b ≡ 2 → (n : ℕ) → n ≤ 199
    → Said (a ∷ b ∷ others) (numbered (cond (leb 100 n) 0 1) (field.Number n))
number-said a b others three two n h = go (leb 100 n) refl
  where
    go : (x : Bool) → leb 100 n ≡ x → Said (a ∷ b ∷ others) (numbered (cond x 0 1) (field.Number n))
    go true e = (lt-ltb 0 (length (a ∷ b ∷ others)) (omega arith), rw three (omega (arith, h)))
    go false e = (lt-ltb 1 (length (a ∷ b ∷ others)) (omega arith), rw two (omega (arith, leb-false 100 n e)))

above-said : (u : Unit) → Said speeds (speed_value (speed.Above (last_exact u))) × Said gusts (gust_value (speed.Above (last_exact u)))
unfolding leading
above-said unit.Missing = ((refl, omega arith), (refl, omega arith))
above-said unit.Knots = ((refl, omega arith), (refl, omega arith))
above-said unit.MetresPerSecond = ((refl, omega arith), (refl, omega arith))
above-said unit.KilometresPerHour = ((refl, omega arith), (refl, omega arith))

speed-said : {u : Unit} {s q : Speed} → SpeedKept u s q → Said speeds (speed_value q)
unfolding leading
speed-said no-speed = (refl, tt)
speed-said {u} (exact {n} h) = number-said _ _ (bytes "P###" ∷ bytes "P##" ∷ []) refl refl n (omega (arith, last-small u))
speed-said {u} (over h) = (above-said u).0
speed-said {u} above = (above-said u).0

gust-said : {u : Unit} {s q : Speed} → SpeedKept u s q → Said gusts (gust_value q)
unfolding leading
gust-said no-speed = (refl, refl)
gust-said {u} (exact {n} h) = number-said _ _ (bytes "GP###" ∷ bytes "GP##" ∷ [] ∷ []) refl refl n (omega (arith, last-small u))
gust-said {u} (over h) = (above-said u).1
gust-said {u} above = (above-said u).1

unit-said : (u : Unit) → has_unit u ≡ true → Said units (unit_value u)
unfolding leading
unit-said unit.Missing h = absurd (false≢true h)
unit-said unit.Knots h = (refl, refl)
unit-said unit.MetresPerSecond h = (refl, refl)
unit-said unit.KilometresPerHour h = (refl, refl)

-- a speed that fits is a gust that does, and is there
speed-fits : (u : Unit) (s : Speed) → speed_fits u s ≡ true → (gust_fits u s ≡ true) × (no_speed s ≡ false)
speed-fits u speed.Missing h = absurd (false≢true h)
speed-fits u (speed.Is n) h = (h, refl)
speed-fits u (speed.Above n) h = (h, refl)

parts-fit : (forecast : Bool) (u : Unit) (d : Direction) (s g : Speed) → wind_fits forecast u d s g ≡ true
    → (direction_fits d ≡ true) × (gust_fits u s ≡ true) × (gust_fits u g ≡ true)
parts-fit forecast u direction.Missing s g h =
    let t = both (not forecast && no_speed s) (no_speed g) h in
    (refl, rw (both (not forecast) (no_speed s) t.0).1, rw t.1)
parts-fit forecast u direction.Calm s g h = let t = both (speed_fits u s) (gust_fits u g) h in (refl, (speed-fits u s t.0).0, t.1)
parts-fit forecast u direction.Variable s g h = let t = both (speed_fits u s) (gust_fits u g) h in (refl, (speed-fits u s t.0).0, t.1)
parts-fit forecast u (direction.Degrees d) s g h =
    let t = both (leb d 359 && speed_fits u s) (gust_fits u g) h in
    let r = both (leb d 359) (speed_fits u s) t.0 in
    (r.0, (speed-fits u s r.1).0, t.1)

-- ---- what was printed is read as its class

-- a speed that is there; a gust is read as a speed is
above-back : (u : Unit) → (speed_of u (speed_value (speed.Above (last_exact u))) ≡ Ok (speed.Above (last_exact u)))
    × (gust_of u (gust_value (speed.Above (last_exact u))) ≡ Ok (speed.Above (last_exact u)))
above-back unit.Missing = (refl, refl)
above-back unit.Knots = (refl, refl)
above-back unit.MetresPerSecond = (refl, refl)
above-back unit.KilometresPerHour = (refl, refl)

exact-back : (u : Unit) (n : ℕ) → n ≤ last_exact u → (speed_of u (speed_value (speed.Is n)) ≡ Ok (speed.Is n)) × (gust_of u (gust_value (speed.Is n)) ≡ Ok (speed.Is n))
exact-back u n h = go (leb 100 n) refl
  where
    go : (x : Bool) → leb 100 n ≡ x
        → (speed_of u (numbered (cond x 0 1) (field.Number n)) ≡ Ok (speed.Is n)) × (gust_of u (numbered (cond x 0 1) (field.Number n)) ≡ Ok (speed.Is n))
    go true e = let l = le-leb n 199 (omega (arith, last-small u)) in (rw (e, l), rw (e, l))
    go false e = (refl, refl)

speed-back : {u : Unit} {s q : Speed} → SpeedKept u s q → no_speed s ≡ false → speed_of u (speed_value q) ≡ Ok q
speed-back no-speed there = absurd (false≢true (sym there))
speed-back {u} (exact {n} h) there = (exact-back u n h).0
speed-back {u} (over h) there = (above-back u).0
speed-back {u} above there = (above-back u).0

gust-back : {u : Unit} {s q : Speed} → SpeedKept u s q → gust_of u (gust_value q) ≡ Ok q
gust-back no-speed = refl
gust-back {u} (exact {n} h) = (exact-back u n h).1
gust-back {u} (over h) = (above-back u).1
gust-back {u} above = (above-back u).1

unit-back : (u : Unit) → has_unit u ≡ true → unit_of (unit_value u).which ≡ u
unit-back unit.Missing h = absurd (false≢true h)
unit-back unit.Knots h = refl
unit-back unit.MetresPerSecond h = refl
unit-back unit.KilometresPerHour h = refl

-- the class agrees where the wind does
agree-classed : (d : Direction) (s g : Speed) → wind_agrees (class_direction d) s g ≡ wind_agrees d s g
agree-classed direction.Missing s g = refl
agree-classed direction.Calm s g = refl
agree-classed direction.Variable s g = refl
agree-classed (direction.Degrees d) s speed.Missing = refl
agree-classed (direction.Degrees d) s (speed.Is g) = refl
agree-classed (direction.Degrees d) s (speed.Above g) = refl

-- a wind whose direction d is written as one that is there, and read as its class
known : (forecast : Bool) (u : Unit) (d : Direction) (s g : Speed) → (v : Value) → direction_value d ≡ v → is_no_wind v (speed_value (class_speed u s)) (gust_value (class_speed u g)) ≡ false
    → direction_of v ≡ Ok (class_direction d) → speed_fits u s ≡ true → gust_fits u g ≡ true → wind_agrees d (class_speed u s) (class_speed u g) ≡ true
    → wind_by forecast u (direction_value d) (speed_value (class_speed u s)) (gust_value (class_speed u g)) ≡ Ok (wind_with u (class_direction d) (class_speed u s) (class_speed u g))
unfolding wind_by
known forecast u d s g v is blows reads f h e =
    let t = speed-fits u s f in
    rw (is, blows, reads, speed-back (speed-kept u s t.0) t.1, gust-back (speed-kept u g h), agree-classed d (class_speed u s) (class_speed u g) ∙ e)

-- the values are read as the class
values-back : (forecast : Bool) (u : Unit) (d : Direction) (s g : Speed) → wind_fits forecast u d s g ≡ true → wind_agrees d (class_speed u s) (class_speed u g) ≡ true
    → wind_by forecast u (direction_value d) (speed_value (class_speed u s)) (gust_value (class_speed u g)) ≡ Ok (wind_with u (class_direction d) (class_speed u s) (class_speed u g))
values-back forecast u direction.Missing s g h e =
    let t = both (not forecast && no_speed s) (no_speed g) h in
    let r = both (not forecast) (no_speed s) t.0 in
    unfold wind_by in
    rw (speed-blank s r.1, speed-blank g t.1, r.0)
values-back forecast u direction.Calm s g h e =
    let t = both (speed_fits u s) (gust_fits u g) h in
    known forecast u direction.Calm s g _ refl refl refl t.0 t.1 e
values-back forecast u direction.Variable s g h e =
    let t = both (speed_fits u s) (gust_fits u g) h in
    known forecast u direction.Variable s g _ refl refl refl t.0 t.1 e
values-back forecast u (direction.Degrees d) s g h e =
    let t = both (leb d 359 && speed_fits u s) (gust_fits u g) h in
    let r = both (leb d 359) (speed_fits u s) t.0 in
    let l = leb-true d 359 r.0 in
    known forecast u (direction.Degrees d) s g _ refl refl (rw (ddd-some d l, ddd-back d l)) r.1 t.1 e

-- the class is written as the same values, and is in range
direction-again : (d : Direction) → direction_fits d ≡ true → direction_value (class_direction d) ≡ direction_value d
direction-again direction.Missing h = refl
direction-again direction.Calm h = refl
direction-again direction.Variable h = refl
direction-again (direction.Degrees d) h = ap (λ (t : ℕ). numbered 0 (field.Number t)) (ddd-again d (leb-true d 359 h))

fits-classed : (forecast : Bool) (u : Unit) (d : Direction) (s g : Speed) → wind_fits forecast u d s g ≡ true
    → wind_fits forecast u (class_direction d) (class_speed u s) (class_speed u g) ≡ true
fits-classed forecast u d s g h = go d h
  where
    top : eqb (last_exact u) (last_exact u) ≡ true
    top = eq-eqb (last_exact u) (last_exact u) refl

    mean : speed_fits u s ≡ true → speed_fits u (class_speed u s) ≡ true
    mean = class-has (speed_fits u) u s top

    gust : gust_fits u g ≡ true → gust_fits u (class_speed u g) ≡ true
    gust = class-has (gust_fits u) u g top

    go : (d : Direction) → wind_fits forecast u d s g ≡ true → wind_fits forecast u (class_direction d) (class_speed u s) (class_speed u g) ≡ true
    go direction.Missing h = rw (missing-classed u s, missing-classed u g) h
    go direction.Calm h = let t = both (speed_fits u s) (gust_fits u g) h in rw (mean t.0, gust t.1)
    go direction.Variable h = let t = both (speed_fits u s) (gust_fits u g) h in rw (mean t.0, gust t.1)
    go (direction.Degrees d) h =
        let t = both (leb d 359 && speed_fits u s) (gust_fits u g) h in
        rw (le-leb (rounded_direction d) 359 (omega (arith, rounded-below d)), mean (both (leb d 359) (speed_fits u s) t.0).1, gust t.1)

-- ---- the wind

module _ (forecast : Bool) (w : Wind) (e : judge_wind forecast w ≡ Ok tt) where
  abbrev mean : Speed
  mean = class_speed w.unit w.speed

  abbrev gust : Speed
  gust = class_speed w.unit w.gust

  judged-fine : (has_unit w.unit ≡ true) × (wind_fits forecast w.unit w.direction w.speed w.gust ≡ true) × (wind_agrees w.direction mean gust ≡ true)
  unfolding judge_wind
  judged-fine =
      let t = fine (has_unit w.unit && wind_fits forecast w.unit w.direction w.speed w.gust) (wind_agrees w.direction mean gust) e in
      let u = both (has_unit w.unit) (wind_fits forecast w.unit w.direction w.speed w.gust) t.0 in
      (u.0, u.1, t.1)

  fit : (direction_fits w.direction ≡ true) × (gust_fits w.unit w.speed ≡ true) × (gust_fits w.unit w.gust ≡ true)
  fit = parts-fit forecast w.unit w.direction w.speed w.gust judged-fine.1

  pub direction-fits : direction_fits w.direction ≡ true
  direction-fits = fit.0

  -- mean and gust are each read back as their class
  pub mean-kept : SpeedKept w.unit w.speed mean
  mean-kept = speed-kept w.unit w.speed fit.1

  pub gust-kept : SpeedKept w.unit w.gust gust
  gust-kept = speed-kept w.unit w.gust fit.2

  abbrev shown : List Value
  shown = wind_values w.unit w.direction mean gust

  -- what was printed is scanned as it was, and so read
  scan-shown : scan_of wind_shape (show_wind w) ≡ record { fits = true; values = padded shown }
  unfolding show_wind
  scan-shown =
      scan-four (direction_value w.direction) (speed_value mean) (gust_value gust) (unit_value w.unit)
      (direction-said w.direction direction-fits, (speed-said mean-kept, (gust-said gust-kept, (unit-said w.unit judged-fine.0, tt))))

  pub wind-shaped : (has_shape wind_shape (show_wind w) ≡ true) × (has_any (spellings (parts_of wind_shape)) (show_wind w) ≡ true)
  unfolding has_shape
  wind-shaped =
      let has : has_shape wind_shape (show_wind w) ≡ true = ap (λ (s : Scan). s.fits) scan-shown in
      (has, wind-covered (show_wind w) has)

  read-shown : read_wind forecast (show_wind w) ≡ wind_by forecast w.unit (direction_value w.direction) (speed_value mean) (gust_value gust)
  unfolding read_wind
  read-shown = rw (scan-shown, unit-back w.unit judged-fine.0)

  pub wind-back : read_wind forecast (show_wind w) ≡ Ok (class_wind w)
  wind-back = let j = judged-fine in read-shown ∙ values-back forecast w.unit w.direction w.speed w.gust j.1 j.2

  pub wind-again : show_wind (class_wind w) ≡ show_wind w
  unfolding show_wind
  wind-again = rw (own-class mean-kept, own-class gust-kept, direction-again w.direction direction-fits)

  pub wind-classed : judge_wind forecast (class_wind w) ≡ Ok tt
  unfolding judge_wind
  wind-classed =
      let j = judged-fine in
      rw (own-class mean-kept, own-class gust-kept, j.0, fits-classed forecast w.unit w.direction w.speed w.gust j.1, agree-classed w.direction mean gust, j.2)
