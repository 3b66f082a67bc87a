-- A wind, a variation and a visibility that are read are judged fine, and are their own class but for speeds from P on.
-- Assumes nothing.
use Rattle.std.specs.Prelude.{Ok}
use Prim.Native.Nat.{ℕ, ◌^◌, ◌≤◌, ◌<◌}
use native.Mathlib.Omega.{arith}
use mathlib.Core.Path.{◌≡◌, refl, sym, ap}
use mathlib.Core.Bool.{Bool, true, false, cond, not, false≢true}
use mathlib.Core.List.{[]}
use lib.ListN.{get_or}
use lib.Dec.{leb, ltb, eqb}
use borrow.Author.Tests.{leb-true, le-leb, le-ltb, ltb-true, ltb-false, eqb-false, ne_eqb}
use Rattle.figures.specs.declared.kinds.Field.TheVariants as field
use Rattle.figures.specs.Quote.{bytes}
use Rattle.figures.specs.Figures.{field_at}
use Rattle.shapes.specs.declared.kinds.Value.{Value}
use Rattle.shapes.specs.Pattern.{has_pattern}
use Rattle.shapes.specs.Shape.{leading, split, parts_of, field_width}
use Rattle.shapes.proofs.Patterns.{both, or_right}
use Rattle.places.specs.Engine.{Group}
use Rattle.scales.specs.Metres.{visibility, metres_reading}
use Rattle.scales.specs.Rounded.{ddd_reading}
use Rattle.scales.proofs.MetresRounds.{visibility-rounds}
use Rattle.record.specs.declared.values.Direction.{Direction}
use Rattle.record.specs.declared.values.Direction.TheVariants as direction
use Rattle.record.specs.declared.values.Speed.{Speed}
use Rattle.record.specs.declared.values.Speed.TheVariants as speed
use Rattle.record.specs.declared.aerodrome.Unit.{Unit}
use Rattle.record.specs.declared.aerodrome.Unit.TheVariants as unit
use Rattle.record.specs.declared.aerodrome.Wind.{Wind}
use Rattle.record.specs.declared.aerodrome.Variation.{Variation}
use Rattle.record.specs.declared.aerodrome.Visibility.{Visibility}
use Rattle.record.specs.Missing.{no_speed, is_still}
use Rattle.record.specs.Classes.{class_direction}
use Rattle.elements.specs.Parts.{value_at}
use Rattle.elements.specs.Wind.{wind_shape, unit_of, last_exact, in_width, speed_of, gust_of, direction_of, is_calm, both_or_neither, is_below, gust_agrees, wind_agrees, wind_with, is_no_wind, wind_by, read_wind, read_variation, class_speed, has_unit, most_speed, speed_fits, gust_fits, wind_fits, judge_wind, judge_variation, class_wind, class_variation}
use Rattle.elements.specs.Visibility.{read_visibility, judge_visibility, class_visibility}
use Rattle.accepted_laws.proofs.Gives.{Gives, good, gives_more, gives-cond, gives-provided, gives-agreeing, gives-figured, gives-may-miss, gives-used, gives_then}
use Rattle.accepted_laws.proofs.Values.{metres-own, metres-low, direction-own, direction-low, tens-read, ddd-own}
use Rattle.accepted_laws.proofs.Fields.{value-bound}
use Rattle.accepted_laws.specs.Opened.{open_wind}

-- ---- direction and speeds

-- a direction that is read is there, in range and its own class
pub record DirectionRead (d : Direction) : Type 0 where
  pub fits : (forecast : Bool) (u : Unit) (s g : Speed) → speed_fits u s ≡ true → gust_fits u g ≡ true → wind_fits forecast u d s g ≡ true
  pub own : class_direction d ≡ d

direction-read : (v : Value) → Gives DirectionRead (direction_of v)
direction-read v =
    gives-cond (eqb v.which 1) (λ t. good (record { fits = λ f u s g a b. rw (a, b); own = refl }))
    (λ t. gives-figured v.field
    (λ d n. gives-cond (eqb d 0) (λ z. good (record { fits = λ f u s g a b. rw (a, b); own = refl }))
    (λ z. gives-used (ddd_reading d)
    (λ x e. let r = tens-read d x e in
    good (record { fits = λ f u s g a b. rw (direction-low _ x r, a, b); own = ap direction.Degrees (direction-own _ x r) })))))

unit-there : (k : ℕ) → has_unit (unit_of k) ≡ true
unit-there k = go (eqb k 0) (eqb k 1)
  where
    go : (a b : Bool) → has_unit (cond a unit.Knots (cond b unit.MetresPerSecond unit.KilometresPerHour)) ≡ true
    go true b = refl
    go false true = refl
    go false false = refl

-- a number of two figures, or of three up to 199, or P and the last one that is written as a number
speed-read : (u : Unit) (v : Value) → has_unit u ≡ true → ((n : ℕ) → v.field ≡ field.Number n → v.which ≡ 1 → n < 100) → Gives (λ s. speed_fits u s ≡ true) (speed_of u v)
speed-read u v there narrow =
    gives-figured v.field
    (λ n f. gives-provided (in_width v.which n)
    (λ w. gives-cond (leb v.which 1) (λ le. good (le-leb n (most_speed u) (low n f w (leb-true v.which 1 le)))) (λ le. gives-provided (eqb n (last_exact u)) (λ e. good e))))
  where
    most : (u : Unit) → has_unit u ≡ true → 199 ≤ most_speed u
    most unit.Missing e = absurd (false≢true e)
    most unit.Knots e = omega arith
    most unit.MetresPerSecond e = omega arith
    most unit.KilometresPerHour e = omega arith

    low : (n : ℕ) → v.field ≡ field.Number n → in_width v.which n ≡ true → v.which ≤ 1 → n ≤ most_speed u
    low n f w h = go v.which refl (eqb v.which 0) refl
      where
        go : (k : ℕ) → v.which ≡ k → (z : Bool) → eqb v.which 0 ≡ z → n ≤ most_speed u
        go k is true z = let range = both (leb 100 n) (leb n 199) (rw z at w) in omega (arith, leb-true n 199 range.1, most u there)
        go k is false z = let one : v.which ≡ 1 = omega (arith, h, eqb-false v.which 0 z) in omega (arith, narrow n f one, most u there)

gust-read : (u : Unit) (v : Value) → has_unit u ≡ true → ((n : ℕ) → v.field ≡ field.Number n → v.which ≡ 1 → n < 100) → Gives (λ g. gust_fits u g ≡ true) (gust_of u v)
gust-read u v there narrow =
    gives-cond (eqb v.which 4) (λ e. good refl) (λ e. gives_more (speed-read u v there narrow) (λ s fits. or_right (no_speed s) (speed_fits u s) fits))

-- ---- "agreement being judged on the figures it would write"

still-classed : (u : Unit) (s : Speed) → is_still (class_speed u s) ≡ is_still s
still-classed u speed.Missing = refl
still-classed u (speed.Is n) = go (ltb (last_exact u) n) refl
  where
    go : (b : Bool) → ltb (last_exact u) n ≡ b → is_still (cond b (speed.Above (last_exact u)) (speed.Is n)) ≡ eqb n 0
    go true e = let h = ltb-true (last_exact u) n e in sym (ne_eqb n 0 (omega (arith, h)))
    go false e = refl
still-classed u (speed.Above n) = go (leb (last_exact u) n)
  where
    go : (b : Bool) → is_still (cond b (speed.Above (last_exact u)) (speed.Above n)) ≡ false
    go true = refl
    go false = refl

-- a gust over a mean is over it in what would be written
gust-classed : (u : Unit) (d : Direction) (s g : Speed) → gust_agrees d s g ≡ true → gust_agrees d (class_speed u s) (class_speed u g) ≡ true
gust-classed u d s speed.Missing e = refl
gust-classed u d s (speed.Is m) e = go (ltb (last_exact u) m) refl
  where
    there : (not (is_calm d) ≡ true) × (is_below s m ≡ true)
    there = both (not (is_calm d)) (is_below s m) e

    below : (s : Speed) → is_below s m ≡ true → m ≤ last_exact u → is_below (class_speed u s) m ≡ true
    below speed.Missing b h = b
    below (speed.Is k) b h = rw (le-ltb (last_exact u) k (omega (arith, ltb-true k m b))) b
    below (speed.Above k) b h = absurd (false≢true b)

    go : (b : Bool) → ltb (last_exact u) m ≡ b → gust_agrees d (class_speed u s) (cond b (speed.Above (last_exact u)) (speed.Is m)) ≡ true
    go true over = there.0
    go false over = rw there.0 (below s there.1 (ltb-false (last_exact u) m over))
gust-classed u d s (speed.Above m) e = go (leb (last_exact u) m)
  where
    go : (b : Bool) → gust_agrees d (class_speed u s) (cond b (speed.Above (last_exact u)) (speed.Above m)) ≡ true
    go true = e
    go false = e

agrees-classed : (u : Unit) (d : Direction) (s g : Speed) → wind_agrees d s g ≡ true → wind_agrees d (class_speed u s) (class_speed u g) ≡ true
agrees-classed u d s g e =
    let t = both (both_or_neither (is_calm d) (is_still s)) (gust_agrees d s g) e in
    rw (still-classed u s, t.0) (gust-classed u d s g t.1)

-- ---- THE WIND

pub record WindRead (forecast : Bool) (w : Wind) : Type 0 where
  pub fine : judge_wind forecast w ≡ Ok tt
  pub own : class_wind w ≡ open_wind w

-- alternative 1 of the mean and of the gust has two figures
two-figures : (width : ℕ → ℕ) (k n : ℕ) → width 1 ≡ 2 → n < 10 ^ width k → k ≡ 1 → n < 100
two-figures width k n two h one = rw (one, two) at h

mean-width : field_width (get_or (get_or (parts_of wind_shape) 1 []) 1 []) ≡ 2
unfolding leading split parts_of
mean-width = refl

gust-width : field_width (get_or (get_or (parts_of wind_shape) 2 []) 1 []) ≡ 2
unfolding leading split parts_of
gust-width = refl

two_at : (g : Group) (i : ℕ) → field_width (get_or (get_or (parts_of wind_shape) i []) 1 []) ≡ 2 → (n : ℕ) → (value_at wind_shape g i).field ≡ field.Number n → (value_at wind_shape g i).which ≡ 1 → n < 100
two_at g i two n f w = two-figures (λ k. field_width (get_or (get_or (parts_of wind_shape) i []) k [])) (value_at wind_shape g i).which n two (value-bound wind_shape g i n f) w

wind-by : (forecast : Bool) (u : Unit) (d s g : Value) → has_unit u ≡ true → ((n : ℕ) → s.field ≡ field.Number n → s.which ≡ 1 → n < 100)
    → ((n : ℕ) → g.field ≡ field.Number n → g.which ≡ 1 → n < 100) → Gives (WindRead forecast) (wind_by forecast u d s g)
unfolding wind_by judge_wind
wind-by forecast u d s g there two-mean two-gust =
    gives-cond (is_no_wind d s g) (λ none. gives-provided (not forecast) (λ m. good (record { fine = rw (there, m); own = refl })))
    (λ some. gives_then (direction-read d)
    (λ x xr. gives_then (speed-read u s there two-mean)
    (λ y yr. gives_then (gust-read u g there two-gust)
    (λ z zr. gives-agreeing (wind_agrees x y z)
    (λ a. good (record { fine = rw (there, xr.fits forecast u y z yr zr, agrees-classed u x y z a); own = ap (λ (w : Direction). wind_with u w (class_speed u y) (class_speed u z)) xr.own }))))))

pub wind-read : (forecast : Bool) (g : Group) → Gives (WindRead forecast) (read_wind forecast g)
unfolding read_wind
wind-read forecast g =
    wind-by forecast _ _ _ _ (unit-there (value_at wind_shape g 3).which) (two_at g 1 mean-width) (two_at g 2 gust-width)

-- ---- VARIATION AND VISIBILITY

pub record VariationRead (v : Variation) : Type 0 where
  pub fine : judge_variation v ≡ Ok tt
  pub own : class_variation v ≡ v

pub variation-read : (g : Group) → Gives VariationRead (read_variation g)
unfolding read_variation judge_variation
variation-read g =
    gives-figured (field_at g 0 3)
    (λ a f. gives-figured (field_at g 4 3)
    (λ b h. gives-used (ddd_reading a)
    (λ x p. gives-used (ddd_reading b)
    (λ y q. gives-agreeing (not (eqb a b))
    (λ ne. let r = tens-read a x p in let s = tens-read b y q in
    good (record {
      fine = rw (direction-low _ x r, direction-low _ y s, ddd-own a x p, ddd-own b y q, ne);
      own = rw (direction-own _ x r, direction-own _ y s);
    }))))))

pub record VisibilityRead (forecast : Bool) (v : Visibility) : Type 0 where
  pub fine : judge_visibility forecast v ≡ Ok tt
  pub own : class_visibility v ≡ v

pub visibility-read : (forecast : Bool) (g : Group) → Gives (VisibilityRead forecast) (read_visibility forecast g)
unfolding read_visibility judge_visibility
visibility-read forecast g =
    gives-cond (has_pattern g (bytes "CAVOK")) (λ c. good (record { fine = refl; own = refl }))
    (λ c. gives-may-miss (field_at g 0 4) (λ m. gives-provided (not forecast) (λ n. good (record { fine = rw n; own = refl })))
    (λ n f. gives-used (metres_reading visibility n)
    (λ m e. good (record { fine = rw (metres-low visibility visibility-rounds n m e); own = rw (metres-own visibility visibility-rounds n m e) }))))
