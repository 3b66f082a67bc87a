-- Temperatures by their bands, and their laws: how far off, the order, and what is written reads back.
-- Assumes nothing.
use Rattle.std.specs.Prelude.{None, Some}
use mathlib.Core.Path.{◌≡◌, refl, sym, ap, ◌∙◌}
use mathlib.Core.Bool.{Bool, true, false, cond, ◌&&◌, or-true, false≢true}
use mathlib.Core.Logic.{⊎_elim}
use Prim.Native.Nat.{ℕ, zero, suc, ◌+◌, ◌-◌, ◌*◌, ◌/◌, ◌≤◌, ◌<◌}
use native.Mathlib.Omega.{arith}
use lib.Dec.{ltb, eqb}
use lib.IntN.{ℤ, pos, negsuc, nat_abs, ◌+ℤ◌}
use lib.Signed.{le_z}
use borrow.Author.Tests.{lt-ltb, le-ltb, le-leb, lt-leb, leb-true, ne_eqb}
use Rattle.figures.proofs.Impossible.{impossible}
use Rattle.figures.specs.Signed.{negative, with_sign}
use Rattle.figures.proofs.Signs.{magnitude-back}
use Rattle.scales.specs.declared.kinds.Degrees.{Degrees}
use Rattle.scales.specs.Degrees.{degrees_fit, whole_degrees, minus_zero, is_minus_zero, rounded_degrees, degrees_of, degrees_reading, far_below, far_above, signed_reading, degrees_with}
use Rattle.scales.proofs.Laws.{reached}
use Rattle.scales.proofs.Rounds.{Rounds, rounds}

-- ---- the whole degrees of a value below zero: a half goes up, towards zero
whole_below : (n : ℕ) → whole_degrees (negsuc n) ≡ with_sign true ((suc n + 4) / 10)
unfolding whole_degrees
whole_below n =
    ⊎_elim
    (λ l. let k : (suc n + 4) / 10 ≡ suc ((suc n - 6) / 10) = omega arith in rw (lt-ltb 5 (suc n) (omega arith), k))
    (λ h. let k : (suc n + 4) / 10 ≡ (5 - suc n) / 10 = omega arith in let z : (5 - suc n) / 10 ≡ 0 = omega arith in rw (le-ltb 5 (suc n) (omega arith), k, z))
    (reached 5 n)

-- ---- the figure of a value, by its sign and its magnitude m
pub below-zero : (t : ℤ) (m : ℕ) → m ≡ nat_abs t → negative t ≡ true → m ≤ 995 → Some (degrees_with true ((m + 4) / 10)) ≡ degrees_of t
unfolding degrees_of
below-zero (pos n) m e s h = absurd (false≢true s)
below-zero (negsuc n) m e s h =
    rw (e, le-leb n 994 (omega arith), whole_below n, magnitude-back true ((suc n + 4) / 10))

pub from_zero : (t : ℤ) (m : ℕ) → m ≡ nat_abs t → negative t ≡ false → m ≤ 994 → Some (degrees_with false ((m + 5) / 10)) ≡ degrees_of t
unfolding degrees_of whole_degrees
from_zero (pos n) m e s h = rw (e, le-leb n 994 (omega arith))
from_zero (negsuc n) m e s h = absurd (false≢true (sym s))

pub too-cold : (t : ℤ) (m : ℕ) → m ≡ nat_abs t → negative t ≡ true → 995 < m → None ≡ degrees_of t
unfolding degrees_of
too-cold (pos n) m e s h = absurd (false≢true s)
too-cold (negsuc n) m e s h = rw (lt-leb n 994 (omega arith))

pub too-hot : (t : ℤ) (m : ℕ) → m ≡ nat_abs t → negative t ≡ false → 994 < m → None ≡ degrees_of t
unfolding degrees_of
too-hot (pos n) m e s h = rw (lt-leb n 994 (omega arith))
too-hot (negsuc n) m e s h = absurd (false≢true (sym s))

-- ---- the reading of whole degrees
module _ (s : Bool) (w : ℕ) where
  pub too-great : 99 < w → None ≡ degrees_reading s w
  unfolding degrees_reading
  too-great h = rw (lt-ltb 99 w h)

  pub minus-zero : w ≤ 99 → (s && eqb w 0) ≡ true → Some minus_zero ≡ degrees_reading s w
  unfolding degrees_reading
  minus-zero h e = rw (le-ltb 99 w h, e)

  pub whole-read : w ≤ 99 → (s && eqb w 0) ≡ false → Some (with_sign s (w * 10)) ≡ degrees_reading s w
  unfolding degrees_reading
  whole-read h e = rw (le-ltb 99 w h, e)

-- ---- the reading of a sign's figure and three figures
module _ (s t : ℕ) where
  pub many-figures : 999 < t → None ≡ signed_reading s t
  unfolding signed_reading
  many-figures h = rw (lt-ltb 999 t h, or-true (ltb 1 s))

  pub plus-read : s ≡ 0 → t ≤ 999 → Some (with_sign false t) ≡ signed_reading s t
  unfolding signed_reading
  plus-read e h = rw (e, le-ltb 999 t h)

  pub minus-none : s ≡ 1 → t ≡ 0 → None ≡ signed_reading s t
  unfolding signed_reading
  minus-none e z = rw (e, z)

  pub minus-read : s ≡ 1 → (t ≡ 0 → ⊥) → t ≤ 999 → Some (with_sign true t) ≡ signed_reading s t
  unfolding signed_reading
  minus-read e n h = rw (e, ne_eqb t 0 n, le-ltb 999 t h)

  pub no_sign : (s ≡ 0 → ⊥) → (s ≡ 1 → ⊥) → None ≡ signed_reading s t
  unfolding signed_reading
  no_sign n m = rw (lt-ltb 1 s (omega arith))

-- ---- what a value is read as, in tenths
pub rounded-warm : (n : ℕ) → rounded_degrees (pos n) ≡ pos ((n + 5) / 10 * 10)
unfolding rounded_degrees is_minus_zero whole_degrees
rounded-warm n = refl

pub cool-minus : (n : ℕ) → n < 5 → is_minus_zero (negsuc n) ≡ true
unfolding is_minus_zero
cool-minus n h = let k : (suc n + 4) / 10 ≡ 0 = omega arith in rw (whole_below n, k)

pub rounded-cool : (n : ℕ) → n < 5 → rounded_degrees (negsuc n) ≡ minus_zero
unfolding rounded_degrees
rounded-cool n h = rw (cool-minus n h)

pub ten-times : (j : ℕ) → suc j * 10 ≡ suc (j * 10 + 9)
ten-times j = omega arith

pub rounded-cold : (n : ℕ) → 5 ≤ n → rounded_degrees (negsuc n) ≡ negsuc ((n - 5) / 10 * 10 + 9)
unfolding rounded_degrees is_minus_zero
rounded-cold n h =
    let k : (suc n + 4) / 10 ≡ suc ((n - 5) / 10) = omega arith in
    rw (whole_below n, k, ne_eqb (suc ((n - 5) / 10)) 0 (λ z. omega arith), ten-times ((n - 5) / 10))

-- ---- what is written reads back

cool-written : (n : ℕ) → n < 5 → Some (degrees_with true 0) ≡ degrees_of (negsuc n)
cool-written n h =
    let k : (suc n + 4) / 10 ≡ 0 = omega arith in
    rw k at (below-zero (negsuc n) (suc n) refl refl (omega arith))

cold-written : (n : ℕ) → 5 ≤ n → n ≤ 994 → Some (degrees_with true (suc ((n - 5) / 10))) ≡ degrees_of (negsuc n)
cold-written n l h =
    let k : (suc n + 4) / 10 ≡ suc ((n - 5) / 10) = omega arith in
    rw k at (below-zero (negsuc n) (suc n) refl refl (omega arith))

-- whole degrees as they are written: minus, and the figures
abbrev pub Written : Type 0
Written = Bool × ℕ

-- equal degrees have equal parts
pub parts-same : {s m : Bool} {k n : ℕ} → Some (degrees_with s k) ≡ Some (degrees_with m n) → (s ≡ m) × (k ≡ n)
parts-same {s} {m} {k} {n} e =
    let d : degrees_with s k ≡ degrees_with m n = cc in (ap (λ (x : Degrees). x.minus) d, ap (λ (x : Degrees). x.whole) d)

module _ (w : Written) where
  -- what is written as the figures k after the sign s has their reading
  read_as : (t : ℤ) (s : Bool) (k : ℕ) {u : ℤ} → Some (degrees_with s k) ≡ degrees_of t → degrees_of t ≡ Some (degrees_with w.0 w.1) → Some u ≡ degrees_reading s k
      → degrees_reading w.0 w.1 ≡ Some u
  read_as t s k i e r =
      let (a, b) = parts-same (i ∙ e) in
      rw (← a, ← b) (sym r)

  back : (t : ℤ) → degrees_of t ≡ Some (degrees_with w.0 w.1) → degrees_reading w.0 w.1 ≡ Some (rounded_degrees t)
  back (pos n) e =
      ⊎_elim
      (λ h. rw (rounded-warm n) (read_as (pos n) false ((n + 5) / 10) (from_zero (pos n) n refl refl h) e (whole-read false ((n + 5) / 10) (omega arith) refl)))
      (λ h. absurd (out (too-hot (pos n) n refl refl h)))
      (reached n 994)
    where
      out : None ≡ degrees_of (pos n) → ⊥
      out i = impossible (cc)
  back (negsuc n) e =
      ⊎_elim
      (λ h. ⊎_elim (λ l. cold l (omega arith)) cool (reached 5 n))
      (λ h. absurd (out (too-cold (negsuc n) (suc n) refl refl h)))
      (reached (suc n) 995)
    where
      out : None ≡ degrees_of (negsuc n) → ⊥
      out i = impossible (cc)

      cool : n < 5 → degrees_reading w.0 w.1 ≡ Some (rounded_degrees (negsuc n))
      cool h = rw (rounded-cool n h) (read_as (negsuc n) true 0 (cool-written n h) e (minus-zero true 0 (omega arith) refl))

      cold : 5 ≤ n → n ≤ 994 → degrees_reading w.0 w.1 ≡ Some (rounded_degrees (negsuc n))
      cold l h =
          let j = (n - 5) / 10 in
          rw (rounded-cold n l)
          (read_as (negsuc n) true (suc j) (cold-written n l h) e (whole-read true (suc j) (omega arith) (ne_eqb (suc j) 0 (λ z. omega arith)))
          ∙ ap (λ (x : ℕ). Some (with_sign true x)) (ten-times j))

own : (w : Written) (t : ℤ) → degrees_reading w.0 w.1 ≡ Some t → degrees_of t ≡ Some (degrees_with w.0 w.1)
own (false, k) t e =
    ⊎_elim
    (λ h.
    let i : Some (pos (k * 10)) ≡ degrees_reading false k = whole-read false k h refl in
    let j : pos (k * 10) ≡ t = cc in
    let m : (k * 10 + 5) / 10 ≡ k = omega arith in
    rw (← j) (sym (from_zero (pos (k * 10)) (k * 10) refl refl (omega arith)) ∙ ap (λ k. Some (degrees_with false k)) m))
    (λ h. let i : None ≡ degrees_reading false k = too-great false k h in impossible (cc))
    (reached k 99)
own (true, zero) t e =
    let i : Some minus_zero ≡ degrees_reading true 0 = minus-zero true 0 (omega arith) refl in
    let j : minus_zero ≡ t = cc in
    rw (← j) (sym (cool-written 2 (omega arith)))
own (true, suc k) t e =
    ⊎_elim
    (λ h.
    let i : Some (with_sign true (suc k * 10)) ≡ degrees_reading true (suc k) = whole-read true (suc k) h (ne_eqb (suc k) 0 (λ z. omega arith)) in
    let n : Some (negsuc (k * 10 + 9)) ≡ degrees_reading true (suc k) = rw (ten-times k) at i in
    let j : negsuc (k * 10 + 9) ≡ t = cc in
    let m : suc ((k * 10 + 9 - 5) / 10) ≡ suc k = omega arith in
    rw (← j) (sym (cold-written (k * 10 + 9) (omega arith) (omega arith)) ∙ ap (λ k. Some (degrees_with true k)) m))
    (λ h. let i : None ≡ degrees_reading true (suc k) = too-great true (suc k) h in impossible (cc))
    (reached (suc k) 99)

pub degrees-rounds : Rounds (λ (t : ℤ) (w : Written). degrees_of t ≡ Some (degrees_with w.0 w.1)) (λ (w : Written) (t : ℤ). degrees_reading w.0 w.1 ≡ Some t) (λ (w : Written). degrees_reading w.0 w.1 ≡ None) rounded_degrees
degrees-rounds = rounds (λ t w. back w t) own (λ w t u e. impossible (cc))

-- what may be written is written in whole degrees, and what is so written may be
pub fit_written : (t : ℤ) → degrees_fit t ≡ true → (w : Written) × (degrees_of t ≡ Some (degrees_with w.0 w.1))
unfolding degrees_of
fit_written t e = ((negative t, nat_abs (whole_degrees t)), rw e)

pub written-fits : (t : ℤ) (minus : Bool) (n : ℕ) → degrees_of t ≡ Some (degrees_with minus n) → degrees_fit t ≡ true
unfolding degrees_of
written-fits t minus n e = go (degrees_fit t) e
  where
    go : (b : Bool) → cond b (Some (degrees_with (negative t) (nat_abs (whole_degrees t)))) None ≡ Some (degrees_with minus n) → b ≡ true
    go true e = refl
    go false e = impossible (cc)

-- whole degrees that have a reading have two figures
pub two-figures : (minus : Bool) (n : ℕ) {t : ℤ} → degrees_reading minus n ≡ Some t → n ≤ 99
two-figures minus n e = ⊎_elim (λ h. h) (λ h. let u = too-great minus n h in impossible (cc)) (reached n 99)

-- ---- how far off, in tenths, and the order

-- a value and its reading: no further below it and above it than its class goes
abbrev pub DegreesNear : ℤ → ℤ → Type 0
DegreesNear value read = (le_z read (value +ℤ pos (far_below read)) ≡ true) × (le_z value (read +ℤ pos (far_above read)) ≡ true)

-- M00: -0.5 to -0.1
cool-near : (n : ℕ) → n < 5 → DegreesNear (negsuc n) minus_zero
unfolding far_below far_above
cool-near zero h = (refl, refl)
cool-near (suc zero) h = (refl, refl)
cool-near (suc (suc zero)) h = (refl, refl)
cool-near (suc (suc (suc zero))) h = (refl, refl)
cool-near (suc (suc (suc (suc zero)))) h = (refl, refl)
cool-near (suc (suc (suc (suc (suc n))))) h = absurd (omega arith)

pub degrees-near : (t : ℤ) → DegreesNear t (rounded_degrees t)
unfolding far_below far_above
degrees-near (pos n) =
    ⊎_elim
    (λ l.
    let j = (n + 5) / 10 * 10 in
    rw (rounded-warm n, ne_eqb j 0 (λ z. omega arith)) (le-leb j (n + 5) (omega arith), le-leb n (j + 4) (omega arith)))
    (λ h. let j : (n + 5) / 10 * 10 ≡ 0 = omega arith in rw (rounded-warm n, j) (le-leb 0 (n + 0) (omega arith), le-leb n 4 (omega arith)))
    (reached 5 n)
degrees-near (negsuc n) =
    ⊎_elim
    (λ l.
    let j = (n - 5) / 10 * 10 + 9 in
    rw (rounded-cold n l, ne_eqb j 2 (λ z. omega arith), lt-ltb 5 (suc n) (omega arith), lt-ltb 4 (suc j) (omega arith))
    (le-leb (suc n - 6) j (omega arith), le-leb (suc j - 5) n (omega arith)))
    (λ h. rw (rounded-cool n h) (cool-near n h))
    (reached 5 n)

-- the greater value never reads smaller
pub degrees-order : (t u : ℤ) → le_z t u ≡ true → le_z (rounded_degrees t) (rounded_degrees u) ≡ true
degrees-order (pos n) (pos m) h =
    rw (rounded-warm n, rounded-warm m)
    (le-leb ((n + 5) / 10 * 10) ((m + 5) / 10 * 10) (omega (arith, leb-true n m h)))
degrees-order (pos n) (negsuc m) h = absurd (false≢true h)
degrees-order (negsuc n) (pos m) h =
    ⊎_elim
    (λ l. rw (rounded-cold n l, rounded-warm m))
    (λ l. rw (rounded-cool n l, rounded-warm m))
    (reached 5 n)
degrees-order (negsuc n) (negsuc m) h =
    let k : m ≤ n = leb-true m n h in
    ⊎_elim
    (λ l. rw (rounded-cold n (omega arith), rounded-cold m l) (le-leb ((m - 5) / 10 * 10 + 9) ((n - 5) / 10 * 10 + 9) (omega arith)))
    (λ l. ⊎_elim (λ g. rw (rounded-cold n g, rounded-cool m l) (le-leb 2 ((n - 5) / 10 * 10 + 9) (omega arith))) (λ g. rw (rounded-cool n g, rounded-cool m l)) (reached 5 n))
    (reached 5 m)

-- ---- the signed tenths of SYNOP and SHIP are exact: a sign's figure and three figures say the value
pub signed-exact : (t : ℤ) → nat_abs t ≤ 999 → signed_reading (cond (negative t) 1 0) (nat_abs t) ≡ Some t
signed-exact (pos n) h = sym (plus-read 0 n refl h)
signed-exact (negsuc n) h = sym (minus-read 1 (suc n) refl (λ e. omega arith) h)
