-- What may have been seen where an aerodrome temperature is read: exactly the tenths that come back so.
-- Assumes nothing.
use Rattle.std.specs.Prelude.{Some}
use mathlib.Core.Path.{◌≡◌, refl, sym, ap, ◌∙◌}
use mathlib.Core.Bool.{Bool, true, false, and-eq-true_iff, false≢true}
use mathlib.Core.Logic.{◌↔◌, ⊎_elim}
use Prim.Native.Nat.{ℕ, suc, ◌+◌, ◌-◌, ◌*◌, ◌/◌, ◌%◌, ◌≤◌, ◌<◌}
use native.Mathlib.Omega.{arith}
use lib.Dec.{leb}
use lib.IntN.{ℤ, pos, negsuc, nat_abs}
use borrow.Author.Tests.{lt-ltb, le-ltb, le-leb, leb-true, eq-eqb, ne_eqb}
use Rattle.figures.proofs.Impossible.{impossible}
use Rattle.figures.specs.Signed.{negative}
use Rattle.scales.specs.Degrees.{degrees_fit, rounded_degrees, minus_zero}
use Rattle.scales.proofs.Laws.{reached}
use Rattle.scales.proofs.DegreesLaws.{rounded-warm, rounded-cool, rounded-cold, plus-read, minus-read}
use Rattle.seen_values.specs.Rounded.{spread, no_degrees, of_degrees, seen_cold, seen_warm, seen_degrees, WithinDegrees}
use Rattle.seen_values.specs.declared.kinds.DegreesSeen.{DegreesSeen}
use Rattle.seen_values.proofs.Rounds.{one-or-not}

-- ---- by the magnitude of the reading
module _ (near : ℕ) (around whole : DegreesSeen) (m : ℕ) where
  pub at_zero : m ≡ near → around ≡ of_degrees near around whole m
  unfolding of_degrees
  at_zero e = rw (eq-eqb m near e)

  pub near-zero : (m ≡ near → ⊥) → m < 10 → no_degrees ≡ of_degrees near around whole m
  unfolding of_degrees
  near-zero n h = rw (ne_eqb m near n, lt-ltb m 10 h)

  module _ (i : near < 10) where
    pub too_far : 990 < m → no_degrees ≡ of_degrees near around whole m
    unfolding of_degrees
    too_far h = rw (ne_eqb m near (λ e. omega arith), le-ltb m 10 (omega arith), lt-ltb 990 m h)

    pub whole-degree : 10 ≤ m → m ≤ 990 → m % 10 ≡ 0 → whole ≡ of_degrees near around whole m
    unfolding of_degrees
    whole-degree l h z = rw (ne_eqb m near (λ e. omega arith), le-ltb m 10 l, le-ltb 990 m h, eq-eqb (m % 10) 0 z)

    pub no-degree : 10 ≤ m → m ≤ 990 → (m % 10 ≡ 0 → ⊥) → no_degrees ≡ of_degrees near around whole m
    unfolding of_degrees
    no-degree l h n = rw (ne_eqb m near (λ e. omega arith), le-ltb m 10 l, le-ltb 990 m h, ne_eqb (m % 10) 0 n)

-- the magnitude and the sign of t, asked of the same number u
module _ {t u : ℤ} (same : u ≡ t) {m : ℕ} (size : m ≡ nat_abs u) {b : Bool} (sign : b ≡ negative u) where
  pub below-zero : b ≡ true → seen_cold m ≡ seen_degrees t
  unfolding seen_degrees
  below-zero is =
      let minus : negative t ≡ true = ap negative (sym same) ∙ sym sign ∙ is in
      let whole : m ≡ nat_abs t = size ∙ ap nat_abs same in
      rw (minus, whole)

  pub from_zero : b ≡ false → seen_warm m ≡ seen_degrees t
  unfolding seen_degrees
  from_zero is =
      let plus : negative t ≡ false = ap negative (sym same) ∙ sym sign ∙ is in
      let whole : m ≡ nat_abs t = size ∙ ap nat_abs same in
      rw (plus, whole)

-- ---- the two ends as numbers
abbrev ends : ℤ → ℤ → DegreesSeen
ends least greatest = record { least = Some least; greatest = Some greatest }

warm-ends : (a b : ℕ) → a ≤ 999 → b ≤ 999 → spread 0 a b ≡ ends (pos a) (pos b)
warm-ends a b h k = rw (← plus-read 0 a refl h, ← plus-read 0 b refl k)

cold-ends : (a b : ℕ) → suc a ≤ 999 → suc b ≤ 999 → spread 1 (suc a) (suc b) ≡ ends (negsuc a) (negsuc b)
cold-ends a b h k = rw (← minus-read 1 (suc a) refl (λ e. omega arith) h, ← minus-read 1 (suc b) refl (λ e. omega arith) k)

-- what is read as the temperature k from zero on, or as that of magnitude suc k below zero
data Warm (k : ℕ) : DegreesSeen → Type 0 where
  naught : k ≡ 0 → Warm k (ends (pos 0) (pos 4))
  warm : 10 ≤ k → k ≤ 990 → k % 10 ≡ 0 → Warm k (ends (pos (k - 5)) (pos (k + 4)))
  hot : 990 < k → Warm k no_degrees
  part : (k % 10 ≡ 0 → ⊥) → Warm k no_degrees

data Cold (k : ℕ) : DegreesSeen → Type 0 where
  frost : k ≡ 2 → Cold k (ends (negsuc 4) (negsuc 0))
  cold : 9 ≤ k → k ≤ 989 → k % 10 ≡ 9 → Cold k (ends (negsuc (k + 5)) (negsuc (k - 4)))
  colder : 989 < k → Cold k no_degrees
  between : (k ≡ 2 → ⊥) → (k % 10 ≡ 9 → ⊥) → Cold k no_degrees

warm-is : (k : ℕ) → Warm k (seen_warm k)
warm-is k =
    let a = spread 0 0 4 in
    let b = spread 0 (k - 5) (k + 4) in
    ⊎_elim
    (λ (l : 10 ≤ k).
    ⊎_elim
    (λ (h : k ≤ 990).
    ⊎_elim
    (λ (z : k % 10 ≡ 0). rw (← whole-degree 0 a b k (omega arith) l h z, warm-ends (k - 5) (k + 4) (omega arith) (omega arith)) (warm l h z))
    (λ (n : k % 10 ≡ 0 → ⊥). rw (← no-degree 0 a b k (omega arith) l h n) (part n))
    (one-or-not (k % 10) 0))
    (λ (h : 990 < k). rw (← too_far 0 a b k (omega arith) h) (hot h))
    (reached k 990))
    (λ (h : k < 10).
    ⊎_elim
    (λ (z : k ≡ 0). rw (← at_zero 0 a b k z, warm-ends 0 4 (omega arith) (omega arith)) (naught z))
    (λ (n : k ≡ 0 → ⊥). rw (← near-zero 0 a b k n h) (part (λ e. n (omega arith))))
    (one-or-not k 0))
    (reached 10 k)

cold_is : (k : ℕ) → Cold k (seen_cold (suc k))
cold_is k =
    let a = spread 1 5 1 in
    let b = spread 1 (suc k + 5) (suc k - 4) in
    ⊎_elim
    (λ (l : 9 ≤ k).
    ⊎_elim
    (λ (h : k ≤ 989).
    ⊎_elim
    (λ (z : k % 10 ≡ 9).
    let low : suc k + 5 ≡ suc (k + 5) = omega arith in
    let high : suc k - 4 ≡ suc (k - 4) = omega arith in
    rw (← whole-degree 3 a b (suc k) (omega arith) (omega arith) (omega arith) (omega arith), low, high, cold-ends (k + 5) (k - 4) (omega arith) (omega arith)) (cold l h z))
    (λ (n : k % 10 ≡ 9 → ⊥). rw (← no-degree 3 a b (suc k) (omega arith) (omega arith) (omega arith) (λ e. n (omega arith))) (between (λ e. omega arith) n))
    (one-or-not (k % 10) 9))
    (λ (h : 989 < k). rw (← too_far 3 a b (suc k) (omega arith) (omega arith)) (colder h))
    (reached k 989))
    (λ (h : k < 9).
    ⊎_elim
    (λ (z : k ≡ 2). rw (← at_zero 3 a b (suc k) (omega arith), cold-ends 4 0 (omega arith) (omega arith)) (frost z))
    (λ (n : k ≡ 2 → ⊥). rw (← near-zero 3 a b (suc k) (λ e. n (omega arith)) (omega arith)) (between n (λ e. omega arith)))
    (one-or-not k 2))
    (reached 9 k)

-- ---- both signs
warm-warm : (k n : ℕ) (s : DegreesSeen) → Warm k s → n ≤ 994 → (pos ((n + 5) / 10 * 10) ≡ pos k) ↔ WithinDegrees s (pos n)
warm-warm k n _ (naught z) h =
    (λ e. let f : (n + 5) / 10 * 10 ≡ k = cc in (le-leb 0 n (omega arith), le-leb n 4 (omega arith)), λ (a, b). ap pos (omega (arith, leb-true n 4 b)))
warm-warm k n _ (warm l g z) h = (
  λ e. let f : (n + 5) / 10 * 10 ≡ k = cc in (le-leb (k - 5) n (omega arith), le-leb n (k + 4) (omega arith)),
  λ (a, b). ap pos (omega (arith, leb-true (k - 5) n a, leb-true n (k + 4) b)),
)
warm-warm k n _ (hot g) h = (λ e. let f : (n + 5) / 10 * 10 ≡ k = cc in absurd (omega arith), λ (a, b). absurd a)
warm-warm k n _ (part x) h = (λ e. let f : (n + 5) / 10 * 10 ≡ k = cc in absurd (x (omega arith)), λ (a, b). absurd a)

-- no reading from zero on stems from below it
warm-cold : (k n : ℕ) (s : DegreesSeen) → Warm k s → WithinDegrees s (negsuc n) → ⊥
warm-cold k n _ (naught z) (a, b) = false≢true a
warm-cold k n _ (warm l g z) (a, b) = false≢true a
warm-cold k n _ (hot g) (a, b) = a
warm-cold k n _ (part x) (a, b) = a

cold-warm : (k n : ℕ) (s : DegreesSeen) → Cold k s → WithinDegrees s (pos n) → ⊥
cold-warm k n _ (frost z) (a, b) = false≢true b
cold-warm k n _ (cold l g z) (a, b) = false≢true b
cold-warm k n _ (colder g) (a, b) = a
cold-warm k n _ (between x y) (a, b) = a

cool-cold : (k n : ℕ) (s : DegreesSeen) → Cold k s → n < 5 → (minus_zero ≡ negsuc k) ↔ WithinDegrees s (negsuc n)
cool-cold k n _ (frost z) h = (λ e. (le-leb n 4 (omega arith), le-leb 0 n (omega arith)), λ (a, b). ap negsuc (sym z))
cool-cold k n _ (cold l g z) h =
    (λ e. let f : 2 ≡ k = cc in absurd (omega arith), λ (a, b). absurd (omega (arith, leb-true (k - 4) n b)))
cool-cold k n _ (colder g) h = (λ e. let f : 2 ≡ k = cc in absurd (omega arith), λ (a, b). absurd a)
cool-cold k n _ (between x y) h = (λ e. let f : 2 ≡ k = cc in absurd (x (sym f)), λ (a, b). absurd a)

cold-cold : (k n : ℕ) (s : DegreesSeen) → Cold k s → 5 ≤ n → n ≤ 994 → (negsuc ((n - 5) / 10 * 10 + 9) ≡ negsuc k) ↔ WithinDegrees s (negsuc n)
cold-cold k n _ (frost z) i h =
    (λ e. let f : (n - 5) / 10 * 10 + 9 ≡ k = cc in absurd (omega arith), λ (a, b). absurd (omega (arith, leb-true n 4 a)))
cold-cold k n _ (cold l g z) i h = (
  λ e. let f : (n - 5) / 10 * 10 + 9 ≡ k = cc in (le-leb n (k + 5) (omega arith), le-leb (k - 4) n (omega arith)),
  λ (a, b). ap negsuc (omega (arith, leb-true n (k + 5) a, leb-true (k - 4) n b)),
)
cold-cold k n _ (colder g) i h = (λ e. let f : (n - 5) / 10 * 10 + 9 ≡ k = cc in absurd (omega arith), λ (a, b). absurd a)
cold-cold k n _ (between x y) i h = (λ e. let f : (n - 5) / 10 * 10 + 9 ≡ k = cc in absurd (y (omega arith)), λ (a, b). absurd a)

-- Of the tenths that may be written, those that come back as m are those that may have been seen where m is read, and no others: -5 to -1 for M00, 0 to 4
-- for 00, from -99.5 for M99 and to 99.4 for 99.
pub degrees-seen : (m v : ℤ) → degrees_fit v ≡ true → (rounded_degrees v ≡ m) ↔ WithinDegrees (seen_degrees m) v
unfolding seen_degrees
degrees-seen (pos k) (pos n) h = rw (rounded-warm n) (warm-warm k n (seen_warm k) (warm-is k) (leb-true n 994 h))
degrees-seen (negsuc k) (pos n) h = rw (rounded-warm n) (λ e. impossible (cc), λ w. absurd (cold-warm k n (seen_cold (suc k)) (cold_is k) w))
degrees-seen m (negsuc n) h =
    ⊎_elim (λ l. rw (rounded-cold n l) (below l m)) (λ l. rw (rounded-cool n l) (frozen l m)) (reached 5 n)
  where
    below : 5 ≤ n → (m : ℤ) → (negsuc ((n - 5) / 10 * 10 + 9) ≡ m) ↔ WithinDegrees (seen_degrees m) (negsuc n)
    below l (pos k) = (λ e. impossible (cc), λ w. absurd (warm-cold k n (seen_warm k) (warm-is k) w))
    below l (negsuc k) = cold-cold k n (seen_cold (suc k)) (cold_is k) l (leb-true n 994 ((and-eq-true_iff (leb n 994) true).0 h).0)

    frozen : n < 5 → (m : ℤ) → (minus_zero ≡ m) ↔ WithinDegrees (seen_degrees m) (negsuc n)
    frozen l (pos k) = (λ e. impossible (cc), λ w. absurd (warm-cold k n (seen_warm k) (warm-is k) w))
    frozen l (negsuc k) = cool-cold k n (seen_cold (suc k)) (cold_is k) l
