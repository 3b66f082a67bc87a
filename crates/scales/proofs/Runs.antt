-- Runs of classes, for any number of them and any distances: the class of a value that is before a run, in it or past it, and the reading of a
-- figure that a run has or has not.
-- Assumes nothing.
use Rattle.std.specs.Prelude.{None, Some}
use mathlib.Core.Path.{◌≡◌, refl, sym, ap, ◌∙◌}
use mathlib.Core.Bool.{Bool, true, false, cond, and-eq-true_iff}
use mathlib.Core.List.{List, [], ◌∷◌, ◌++◌}
use Prim.Native.Nat.{ℕ, zero, suc, ◌+◌, ◌-◌, ◌*◌, ◌/◌, ◌%◌, ◌≤◌, ◌<◌}
use native.Mathlib.Nat.{suc-mul, zero-mul, add-zero, add-mul, le-div_iff_mul-le, div-lt_iff_lt-mul, div-mul-le_self, lt-div-mul-add, div-add-mod', mul-mod_left}
use native.Mathlib.Omega.{arith}
use lib.Dec.{ltb, eqb}
use borrow.Author.Tests.{ltb-true, le-leb, lt-leb, eq-eqb, ne_eqb, eqb-true, eqb-false}
use Rattle.scales.specs.Scale.{Class, run, steps, class_in, read_in, rising}

-- the numbers of a run by their index: the first and those after it
shift : (a b k : ℕ) → a + b + k * b ≡ a + suc k * b
shift a b k = rw suc-mul (omega arith)

first : (a b : ℕ) → a + 0 * b ≡ a
first a b = rw (zero-mul, add-zero)

-- k steps of d above q of them are n of them
pub together : (d q k : ℕ) {a n : ℕ} → a ≡ q * d → q + k ≡ n → a + k * d ≡ n * d
together d q k e i = rw (e, ← add-mul q k d, i)

module _ {F : Type 0} where
  -- a value below the next foot keeps the class that it has
  pub under : (d : Class F) (ds : List (Class F)) (v : ℕ) → v < d.foot → (c : Class F) → class_in c (d ∷ ds) v ≡ c
  unfolding class_in
  under d ds v h c = rw (lt-leb d.foot v h)

  -- one that is not below it has its class from there on
  pub onto : (d : Class F) (ds : List (Class F)) (v : ℕ) → d.foot ≤ v → (c : Class F) → class_in c (d ∷ ds) v ≡ class_in d ds v
  unfolding class_in
  onto d ds v h c = rw (le-leb d.foot v h)

  -- ---- where the feet rise
  pub rises : (c d : Class F) (ds : List (Class F)) → rising c (d ∷ ds) ≡ true → (c.foot < d.foot) × (rising d ds ≡ true)
  unfolding rising
  rises c d ds r =
      let p = (and-eq-true_iff (ltb c.foot d.foot) (rising d ds)).0 r in
      (ltb-true c.foot d.foot p.0, p.1)

  rises-to : (c : Class F) (xs : List (Class F)) (d : Class F) (ds : List (Class F)) → rising c (xs ++ (d ∷ ds)) ≡ true → c.foot < d.foot
  rises-to c [] d ds r = (rises c d ds r).0
  rises-to c (x ∷ xs) d ds r =
      let p = rises c x (xs ++ (d ∷ ds)) r in
      omega (arith, p.0, rises-to x xs d ds p.1)

  -- a value that is not below the foot of d has its class from d on
  pub beyond : (c : Class F) (xs : List (Class F)) (d : Class F) (ds : List (Class F)) (v : ℕ) → rising c (xs ++ (d ∷ ds)) ≡ true → d.foot ≤ v
      → class_in c (xs ++ (d ∷ ds)) v ≡ class_in d ds v
  beyond c [] d ds v r h = onto d ds v h c
  beyond c (x ∷ xs) d ds v r h =
      let p = (rises c x (xs ++ (d ∷ ds)) r).1 in
      onto x (xs ++ (d ∷ ds)) v (omega (arith, rises-to x xs d ds p)) c ∙ beyond x xs d ds v p h

  -- and d itself where it is the last
  pub top : (c : Class F) (xs : List (Class F)) (d : Class F) (v : ℕ) → rising c (xs ++ (d ∷ [])) ≡ true → d.foot ≤ v
      → class_in c (xs ++ (d ∷ [])) v ≡ d
  top c xs d v r h = beyond c xs d [] v r h ∙ unfold class_in in refl

-- a number that is the figure itself
abbrev pub plain : ℕ → ℕ
plain n = n

module _ {F : Type 0} (mark : ℕ → F) (apart next : ℕ) where
  abbrev at : ℕ → ℕ → Class F
  at foot number = record { foot = foot; figure = mark number }

  abbrev kth : ℕ → ℕ → ℕ → Class F
  kth foot number k = at (foot + k * apart) (number + k * next)

  -- a value below the first foot of a run keeps the class that it has
  pub before : (n foot number : ℕ) (rest : List (Class F)) (v : ℕ) → v < foot → (c : Class F)
      → class_in c (run mark (suc n) foot apart number next ++ rest) v ≡ c
  unfolding run
  before n foot number rest v h c = under _ _ v h c

  -- a value between two feet has the lower one's class; after the last foot, where the rest has no foot below it
  pub inside : (n foot number : ℕ) (rest : List (Class F)) (v k : ℕ) → ((c : Class F) → class_in c rest v ≡ c) → k ≤ n → foot + k * apart ≤ v
      → v < foot + k * apart + apart → class_in (at foot number) (run mark n (foot + apart) apart (number + next) next ++ rest) v ≡ kth foot number k
  unfolding class_in run
  inside zero foot number rest v zero r l h g = rw (first foot apart, first number next) (r (at foot number))
  inside zero foot number rest v (suc k) r l h g = absurd (omega arith)
  inside (suc n) foot number rest v zero r l h g =
      rw (lt-leb (foot + apart) v (omega (arith, zero-mul apart)), first foot apart, first number next)
  inside (suc n) foot number rest v (suc k) r l h g =
      let m : suc k * apart ≡ k * apart + apart = suc-mul k apart in
      rw (le-leb (foot + apart) v (omega arith), ← shift foot apart k, ← shift number next k)
      (inside n (foot + apart) (number + next) rest v k r (omega arith) (omega arith) (omega arith))

  -- a value that is not below the last foot of a run has its class from there on
  pub past : (n foot number : ℕ) (rest : List (Class F)) (v : ℕ) → foot + n * apart ≤ v → (c : Class F)
      → class_in c (run mark (suc n) foot apart number next ++ rest) v ≡ class_in (kth foot number n) rest v
  unfolding run
  past zero foot number rest v h c = rw (first foot apart, first number next) (onto (at foot number) rest v (omega (arith, zero-mul apart)) c)
  past (suc n) foot number rest v h c =
      let m : suc n * apart ≡ n * apart + apart = suc-mul n apart in
      onto _ _ v (omega arith) c
      ∙ rw (← shift foot apart n, ← shift number next n) (past n (foot + apart) (number + next) rest v (omega arith) (at foot number))

  -- where the feet of a run are multiples of their distance, from q times it on, division finds the class
  pub among : (n q foot second start : ℕ) (rest : List (Class F)) (v : ℕ) → 0 < apart → foot ≡ q * apart → second ≡ foot + apart
      → ((c : Class F) → class_in c rest v ≡ c) → foot ≤ v → v < (q + suc n) * apart
      → class_in (at foot (start + q * next)) (run mark n second apart (start + q * next + next) next ++ rest) v
      ≡ at (v / apart * apart) (start + v / apart * next)
  among n q foot second start rest v p e s r l h =
      let k = v / apart - q in
      let a : q ≤ v / apart = (le-div_iff_mul-le p).1 (omega arith) in
      let b : v / apart < q + suc n = (div-lt_iff_lt-mul p).1 h in
      let i : foot + k * apart ≡ v / apart * apart = together apart q k e (omega arith) in
      let j : start + q * next + k * next ≡ start + v / apart * next = omega (arith, together next q k {n = v / apart} refl (omega arith)) in
      rw (s, ← i, ← j)
      (inside n foot (start + q * next) rest v k r (omega arith) (omega (arith, div-mul-le_self v apart)) (omega (arith, lt-div-mul-add {a = v} p)))

  -- the figure f is the number x
  module _ (same : F → F → Bool) (f : F) (x : ℕ) (is : (a : ℕ) → same (mark a) f ≡ eqb a x) where
    -- a figure that the run has not is read in the rest
    pub miss : (n foot number : ℕ) (rest : List (Class F)) → ((k : ℕ) → k < n → number + k * next ≡ x → ⊥)
        → read_in same (run mark n foot apart number next ++ rest) f ≡ read_in same rest f
    unfolding read_in run
    miss zero foot number rest h = refl
    miss (suc n) foot number rest h =
        rw (is number, ne_eqb number x (λ e. h 0 (omega arith) (first number next ∙ e)))
        (miss n (foot + apart) (number + next) rest (λ k l e. h (suc k) (omega arith) (rw shift at e)))

    -- a figure that it has is read as its foot
    pub hit : (n foot number : ℕ) (rest : List (Class F)) (k : ℕ) → 0 < next → k < n → number + k * next ≡ x
        → read_in same (run mark n foot apart number next ++ rest) f ≡ Some (foot + k * apart)
    unfolding read_in run
    hit zero foot number rest k p l e = absurd (omega arith)
    hit (suc n) foot number rest zero p l e =
        rw (is number, eq-eqb number x (rw (first number next) at e), first foot apart)
    hit (suc n) foot number rest (suc k) p l e =
        rw (is number, ne_eqb number x (λ d. omega (arith, suc-mul k next)), ← shift foot apart k)
        (hit n (foot + apart) (number + next) rest k p (omega arith) (shift number next k ∙ e))

-- ---- the same where the number is the figure
pub skip : (apart next f n foot number : ℕ) (rest : List (Class ℕ)) → ((k : ℕ) → k < n → number + k * next ≡ f → ⊥)
    → read_in eqb (steps n foot apart number next ++ rest) f ≡ read_in eqb rest f
skip apart next f = miss plain apart next eqb f f (λ a. refl)

pub meet : (apart next f n foot number : ℕ) (rest : List (Class ℕ)) (k : ℕ) → 0 < next → k < n → number + k * next ≡ f
    → read_in eqb (steps n foot apart number next ++ rest) f ≡ Some (foot + k * apart)
meet apart next f = hit plain apart next eqb f f (λ a. refl)

-- ---- runs whose feet are their figures, d apart from q times d on
module _ {F : Type 0} (mark : ℕ → F) (d : ℕ) (p : 0 < d) (same : F → F → Bool) (f : F) (x : ℕ) (is : (a : ℕ) → same (mark a) f ≡ eqb a x) where
  by-rest : (b : Bool) → eqb (x % d) 0 ≡ b → (n q : ℕ) (rest : List (Class F)) → q * d ≤ x → x < (q + n) * d → read_in same rest f ≡ None
      → read_in same (run mark n (q * d) d (q * d) d ++ rest) f ≡ cond b (Some x) None
  by-rest true e n q rest l h r =
      let m : x % d ≡ 0 = eqb-true (x % d) 0 e in
      let a : q ≤ x / d = (le-div_iff_mul-le p).1 l in
      let b : x / d < q + n = (div-lt_iff_lt-mul p).1 h in
      let u : q + (x / d - q) ≡ x / d = omega arith in
      let k : q * d + (x / d - q) * d ≡ x = rw (← add-mul, u) (omega (arith, div-add-mod' x d)) in
      hit mark d d same f x is n (q * d) (q * d) rest (x / d - q) p (omega arith) k ∙ ap Some k
  by-rest false e n q rest l h r =
      miss mark d d same f x is n (q * d) (q * d) rest (λ k m g. eqb-false (x % d) 0 e (ap (λ (y : ℕ). y % d) (sym (add-mul q k d ∙ g)) ∙ mul-mod_left (q + k) d)) ∙ r

  -- a figure among them is read as itself where d divides it, and not at all where it does not
  pub level : (n q : ℕ) (rest : List (Class F)) → q * d ≤ x → x < (q + n) * d → read_in same rest f ≡ None
      → read_in same (run mark n (q * d) d (q * d) d ++ rest) f ≡ cond (eqb (x % d) 0) (Some x) None
  level = by-rest (eqb (x % d) 0) refl

-- the one class that is left has another figure
pub other : {F : Type 0} (same : F → F → Bool) (c : Class F) (f : F) → same c.figure f ≡ false → read_in same (c ∷ []) f ≡ None
unfolding read_in
other same c f e = rw e
