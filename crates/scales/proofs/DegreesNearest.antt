-- Document 02, No. 11: "For aerodrome temperature, prove that no writable whole degree is nearer to the observation, M00 aside." A half may have another as
-- near (-1.5: M01 and M02), never a nearer. Of -0.5 to -0.1, which is written M00, nothing is claimed, and M00 is no whole degree.
-- Assumes nothing.
use Rattle.std.specs.Prelude.{Some}
use mathlib.Core.Path.{◌≡◌, sym, ◌∙◌}
use mathlib.Core.Bool.{Bool, false, ◌&&◌, false≢true}
use mathlib.Core.Logic.{⊎_elim}
use Prim.Native.Nat.{ℕ, zero, suc, ◌+◌, ◌-◌, ◌*◌, ◌/◌, ◌≤◌}
use native.Mathlib.Omega.{arith}
use lib.Dec.{eqb}
use lib.IntN.{ℤ, pos, negsuc, nat_abs, ◌-ℤ◌, ◌*ℤ◌}
use borrow.Author.Tests.{lt-ltb, le-ltb}
use Rattle.figures.specs.Signed.{negative}
use Rattle.scales.specs.Degrees.{whole_degrees, is_minus_zero, rounded_degrees, degrees_of, degrees_reading, degrees_with}
use Rattle.scales.proofs.Laws.{reached}
use Rattle.scales.proofs.DegreesLaws.{parts-same, rounded-warm, rounded-cold, ten-times, cool-minus, written-fits, degrees-rounds}

-- how far two temperatures are apart, in tenths
abbrev pub far_apart : ℤ → ℤ → ℕ
far_apart t u = nat_abs (t -ℤ u)

-- ---- by their signs
warm-warm : (a b : ℕ) → far_apart (pos a) (pos b) ≡ (a - b) + (b - a)
warm-warm a zero = omega arith
warm-warm a (suc b) =
    ⊎_elim (λ h. rw (le-ltb a (suc b) h) (omega arith)) (λ h. rw (lt-ltb a (suc b) h) (omega arith)) (reached (suc b) a)

cold-warm : (a b : ℕ) → far_apart (negsuc a) (pos b) ≡ suc a + b
cold-warm a zero = rw (lt-ltb 0 (suc a) (omega arith)) (omega arith)
cold-warm a (suc b) = omega arith

cold-cold : (a b : ℕ) → far_apart (negsuc a) (negsuc b) ≡ (a - b) + (b - a)
cold-cold a b =
    ⊎_elim (λ h. rw (le-ltb (suc b) (suc a) (omega arith)) (omega arith)) (λ h. rw (lt-ltb (suc b) (suc a) (omega arith)) (omega arith)) (reached a b)

-- no whole degree k is nearer to t than what t is read as, where that is not M00
pub no-degree-nearer : (t : ℤ) → is_minus_zero t ≡ false → (k : ℤ) → far_apart t (rounded_degrees t) ≤ far_apart t (k *ℤ pos 10)
no-degree-nearer (pos n) i (pos c) =
    rw (rounded-warm n, warm-warm n ((n + 5) / 10 * 10), warm-warm n (c * 10)) (omega arith)
no-degree-nearer (pos n) i (negsuc c) =
    rw (rounded-warm n, warm-warm n ((n + 5) / 10 * 10), ten-times c) (omega arith)
no-degree-nearer (negsuc n) i k =
    ⊎_elim (λ l. cold l k) (λ h. absurd (false≢true (sym i ∙ cool-minus n h))) (reached 5 n)
  where
    cold : 5 ≤ n → (k : ℤ) → far_apart (negsuc n) (rounded_degrees (negsuc n)) ≤ far_apart (negsuc n) (k *ℤ pos 10)
    cold l (pos c) =
        rw (rounded-cold n l, cold-cold n ((n - 5) / 10 * 10 + 9), cold-warm n (c * 10)) (omega arith)
    cold l (negsuc c) =
        rw (rounded-cold n l, cold-cold n ((n - 5) / 10 * 10 + 9), ten-times c, cold-cold n (c * 10 + 9)) (omega arith)

-- In the user's words: where an observation is written as whole degrees and not as M00, no whole degree, of -99 to 99 or beyond, is nearer to it than what
-- these are read as.
pub degrees-nearest : (t : ℤ) (minus : Bool) (n : ℕ) (w : ℤ) → degrees_of t ≡ Some (degrees_with minus n) → (minus && eqb n 0) ≡ false → degrees_reading minus n ≡ Some w
    → (k : ℤ) → far_apart t w ≤ far_apart t (k *ℤ pos 10)
unfolding degrees_of is_minus_zero
degrees-nearest t minus n w e z r k =
    let b = degrees-rounds.back t (minus, n) e in
    let c : rounded_degrees t ≡ w = cc in
    let d : Some (degrees_with (negative t) (nat_abs (whole_degrees t))) ≡ Some (degrees_with minus n) = rw (written-fits t minus n e) at e in
    let (f, g) = parts-same d in
    rw c at (no-degree-nearer t (unfold is_minus_zero in rw (f, g) z) k)
