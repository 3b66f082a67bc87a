-- What is read on a scale is its own class and may be written: the figure of a reading is the one that it was read from, and that is read as it.
-- Assumes nothing.
use Rattle.std.specs.Prelude.{Some}
use Prim.Native.Nat.{ℕ, ◌/◌, ◌%◌}
use native.Mathlib.Omega.{arith}
use native.Mathlib.Nat.{mod-add-div'}
use mathlib.Core.Path.{◌≡◌, refl}
use mathlib.Core.Bool.{Bool, true, false, cond}
use lib.Dec.{leb, eqb}
use lib.IntN.{ℤ}
use borrow.Author.Tests.{le-leb, eqb-true}
use Rattle.figures.proofs.Impossible.{impossible}
use Rattle.scales.specs.declared.kinds.Range.{Range}
use Rattle.scales.specs.declared.kinds.Rain.{Rain}
use Rattle.scales.specs.Scale.{Scale, foot_of}
use Rattle.scales.specs.Metres.{runway, metres_figure, metres_reading, range_figure, range_reading}
use Rattle.scales.specs.Rounded.{direction_reading, ddd_figure, ddd_reading, rounded_direction, pressure_figure, pressure_reading, rounded_pressure, rain_reading, rounded_rain}
use Rattle.scales.specs.Degrees.{degrees_fit, degrees_reading, rounded_degrees}
use Rattle.scales.proofs.Rounds.{Rounds}
use Rattle.scales.proofs.MetresRounds.{MetresRounds, runway-rounds}
use Rattle.scales.proofs.DirectionLaws.{direction-rounds, rounded-below}
use Rattle.scales.proofs.PressureLaws.{pressure-rounds}
use Rattle.scales.proofs.DegreesLaws.{degrees-rounds, written-fits}
use Rattle.scales.proofs.RainLaws.{rain-rounds}

-- a figure is read as the class of what it is read as
back-own : {A F : Type 0} {Writes : A → F → Type 0} {Reads : F → A → Type 0} {Unused : F → Type 0} {rounded : A → A}
    → Rounds Writes Reads Unused rounded → (f : F) (v : A) → Reads f v → Reads f (rounded v)
back-own r f v e = r.back v f (r.own f v e)

-- "0 to 99,999 may be written": what has a figure is in range
in-range : {A : Type 0} (b : Bool) (x y z : A) → (y ≡ z → ⊥) → cond b x y ≡ z → b ≡ true
in-range true x y z no-figure e = refl
in-range false x y z no-figure e = absurd (no-figure e)

module _ (s : Scale ℕ) (rounds : MetresRounds s) (f m : ℕ) (e : metres_reading s f ≡ Some m) where
  pub metres-own : foot_of s m ≡ m
  metres-own = let back = back-own rounds f m e in cc

  pub metres-low : leb m 99999 ≡ true
  unfolding metres_figure
  metres-low = in-range (leb m 99999) _ _ _ (λ i. impossible (cc)) (rounds.own f m e)

module _ (f : Range) (m : ℕ) (e : range_reading f ≡ Some m) where
  pub range-own : foot_of runway m ≡ m
  range-own = let back = back-own runway-rounds f m e in cc

  pub range-low : leb m 99999 ≡ true
  unfolding range_figure
  range-low = in-range (leb m 99999) _ _ _ (λ i. impossible (cc)) (runway-rounds.own f m e)

module _ (f d : ℕ) (e : direction_reading f ≡ Some d) where
  pub direction-own : rounded_direction d ≡ d
  direction-own = let back = back-own direction-rounds f d e in cc

  pub direction-low : leb d 359 ≡ true
  direction-low = let own = direction-own in le-leb d 359 (omega (arith, rounded-below d, own))

-- "ddd 010-360 by tens"
pub tens-read : (f d : ℕ) → ddd_reading f ≡ Some d → direction_reading (f / 10) ≡ Some d
tens-read f d e = let b = in-range (eqb (f % 10) 0) _ _ _ (λ i. impossible (cc)) e in rw b at e

-- and that is the figure of what is read
pub ddd-own : (f d : ℕ) → ddd_reading f ≡ Some d → ddd_figure d ≡ f
ddd-own f d e =
    let tens = in-range (eqb (f % 10) 0) _ _ _ (λ i. impossible (cc)) e in
    let own = direction-rounds.own (f / 10) d (tens-read f d e) in
    let z = eqb-true (f % 10) 0 tens in
    rw own (omega (arith, z, mod-add-div' f 10))

module _ (f p : ℕ) (e : pressure_reading f ≡ Some p) where
  pub pressure-own : rounded_pressure p ≡ p
  pressure-own = let back = back-own pressure-rounds f p e in cc

  pub pressure-low : leb p 99999 ≡ true
  unfolding pressure_figure
  pressure-low = in-range (leb p 99999) _ _ _ (λ i. impossible (cc)) (pressure-rounds.own f p e)

module _ (minus : Bool) (n : ℕ) (t : ℤ) (e : degrees_reading minus n ≡ Some t) where
  pub degrees-own : rounded_degrees t ≡ t
  degrees-own = let back = back-own degrees-rounds (minus, n) t e in cc

  pub degrees-fit : degrees_fit t ≡ true
  degrees-fit = written-fits t minus n (degrees-rounds.own (minus, n) t e)

module _ (f : ℕ) (r : Rain) (e : rain_reading f ≡ Some r) where
  pub rain-own : rounded_rain r ≡ r
  rain-own = let back = back-own rain-rounds f r e in cc
