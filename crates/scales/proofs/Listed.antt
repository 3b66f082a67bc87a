-- Scales whose classes are listed one by one: the class of a value by its index in the list, and figures that none of the classes has.
-- Assumes nothing.
use Rattle.std.specs.Prelude.{None, Some}
use mathlib.Core.Path.{◌≡◌, refl, ◌∙◌}
use mathlib.Core.Bool.{Bool, true, ◌&&◌, and-eq-true_iff}
use mathlib.Core.List.{List, [], ◌∷◌}
use Prim.Native.Nat.{ℕ, zero, suc, ◌+◌, ◌≤◌, ◌<◌}
use native.Mathlib.Nat.{add-suc, add-zero}
use native.Mathlib.Omega.{arith}
use lib.Dec.{leb, ltb, eqb}
use borrow.Author.Tests.{ltb-true, leb-true, ne_eqb}
use Rattle.scales.specs.Scale.{Class, Scale, class_in, read_in, rising}
use Rattle.scales.specs.Metres.{metres_figure}
use Rattle.scales.proofs.Answers.{class-is}
use Rattle.scales.proofs.Runs.{under, onto, rises}

module _ {F : Type 0} where
  -- the class at an index, 0 being c
  abbrev pub nth : Class F → List (Class F) → ℕ → Class F
  nth c [] i = c
  nth c (d ∷ ds) zero = c
  nth c (d ∷ ds) (suc i) = nth d ds i

  -- v is below the foot after it
  abbrev pub Upto : ℕ → List (Class F) → ℕ → Type 0
  Upto v [] i = Unit {0}
  Upto v (d ∷ ds) zero = v < d.foot
  Upto v (d ∷ ds) (suc i) = Upto v ds i

  nth-rises : (c : Class F) (ds : List (Class F)) (i : ℕ) → rising c ds ≡ true → c.foot ≤ (nth c ds i).foot
  nth-rises c [] i r = omega arith
  nth-rises c (d ∷ ds) zero r = omega arith
  nth-rises c (d ∷ ds) (suc i) r =
      let p = rises c d ds r in
      omega (arith, p.0, nth-rises d ds i p.1)

  -- a value from the foot at i to the next has the class at i
  pub sits : (c : Class F) (ds : List (Class F)) (v i : ℕ) → rising c ds ≡ true → (nth c ds i).foot ≤ v → Upto v ds i → class_in c ds v ≡ nth c ds i
  sits c [] v i r l h = unfold class_in in refl
  sits c (d ∷ ds) v zero r l h = under d ds v h c
  sits c (d ∷ ds) v (suc i) r l h =
      let p = rises c d ds r in
      onto d ds v (omega (arith, nth-rises d ds i p.1)) c ∙ sits d ds v i p.1 l h

pub listed : (s : Scale ℕ) (v i : ℕ) → rising s.lowest s.above ≡ true → v ≤ 99999 → (nth s.lowest s.above i).foot ≤ v
    → Upto v s.above i → Some (nth s.lowest s.above i).figure ≡ metres_figure s v
listed s v i r t l h = class-is s v t (sits s.lowest s.above v i r l h) refl

-- x is none of the n numbers from `from` on, the last of them named last
abbrev pub Spared : ℕ → ℕ → ℕ → Type 0
Spared from zero x = Unit {0}
Spared from (suc n) x = Spared from n x × (x ≡ from + n → ⊥)

abbrev pub between : ℕ → ℕ → List (Class ℕ) → Bool
between from n [] = true
between from n (c ∷ cs) = leb from c.figure && (ltb c.figure (from + n) && between from n cs)

module _ (from : ℕ) where
  outside : (n x : ℕ) → Spared from n x → from ≤ x → from + n ≤ x
  outside zero x s l = rw add-zero l
  outside (suc n) x s l = rw add-suc (omega (arith, outside n x s.0 l, s.1))

  -- such a figure has no reading where the figures of all classes are among those numbers
  pub unread : (n x : ℕ) (cs : List (Class ℕ)) → between from n cs ≡ true → Spared from n x → read_in eqb cs x ≡ None
  unfolding read_in
  unread n x [] b s = refl
  unread n x (c ∷ cs) b s =
      let p = (and-eq-true_iff (leb from c.figure) (ltb c.figure (from + n) && between from n cs)).0 b in
      let q = (and-eq-true_iff (ltb c.figure (from + n)) (between from n cs)).0 p.1 in
      let l : from ≤ c.figure = leb-true from c.figure p.0 in
      let h : c.figure < from + n = ltb-true c.figure (from + n) q.0 in
      rw (ne_eqb c.figure x (λ e. omega (arith, outside n x s (omega arith)))) (unread n x cs q.1 s)
