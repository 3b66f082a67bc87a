-- The laws of groups that fit a pattern byte for byte: with what follows, with what they do not begin with, and one of several.
-- Assumes nothing.
use mathlib.Core.Path.{◌≡◌, refl, sym, ap}
use mathlib.Core.Bool.{Bool, true, false, not, ◌&&◌, ◌||◌, and_assoc, and-false, false≢true}
use mathlib.Core.List.{List, [], ◌∷◌, ◌++◌}
use Prim.Native.Nat.{ℕ, zero, suc, ◌<◌}
use native.Mathlib.Omega.{arith}
use lib.ListN.{length, drop, get_or}
use borrow.Author.Tests.{not-true}
use Rattle.shapes.specs.Pattern.{Pattern, fits, more, apart, has_pattern, has_any}
use Rattle.shapes.specs.Shape.{Part, begins, each_before, with_each, unled, unled_each}
use Rattle.shapes.proofs.Patterns.{both, or_cases, or_right, apart_fits, starless}

-- each byte of the group fits the pattern's own, and '*' is a character like any other
abbrev pub exact : Pattern → List ℕ → Bool
exact [] [] = true
exact [] (b ∷ g) = false
exact (p ∷ ps) [] = false
exact (p ∷ ps) (b ∷ g) = fits p b && exact ps g

pub exact-pattern : (p : Pattern) (g : List ℕ) → exact p g ≡ true → has_pattern g p ≡ true
unfolding has_pattern
exact-pattern [] [] h = refl
exact-pattern [] (b ∷ g) h = absurd (false≢true h)
exact-pattern (p ∷ ps) [] h = absurd (false≢true h)
exact-pattern (p ∷ ps) (b ∷ g) h =
    let t = both (fits p b) (exact ps g) h in or_right (more p) _ (rw t.0 (exact-pattern ps g t.1))

-- where there is no '*' it is all the same
pub exact-is : (p : Pattern) (g : List ℕ) → starless p ≡ true → exact p g ≡ has_pattern g p
unfolding has_pattern
exact-is [] [] s = refl
exact-is [] (b ∷ g) s = refl
exact-is (p ∷ ps) [] s = sym (not-true (more p) (both _ (starless ps) s).0)
exact-is (p ∷ ps) (b ∷ g) s =
    let t = both (not (more p)) (starless ps) s in rw (not-true (more p) t.0, exact-is ps g t.1)

pub exact-length : (p : Pattern) (g : List ℕ) → exact p g ≡ true → length g ≡ length p
exact-length [] [] h = refl
exact-length [] (b ∷ g) h = absurd (false≢true h)
exact-length (p ∷ ps) [] h = absurd (false≢true h)
exact-length (p ∷ ps) (b ∷ g) h = ap suc (exact-length ps g (both (fits p b) (exact ps g) h).1)

-- ---- two pieces

pub exact-append : (p q : Pattern) (x y : List ℕ) → exact p x ≡ true → exact q y ≡ true → exact (p ++ q) (x ++ y) ≡ true
exact-append [] q [] y h k = k
exact-append [] q (b ∷ x) y h k = absurd (false≢true h)
exact-append (p ∷ ps) q [] y h k = absurd (false≢true h)
exact-append (p ∷ ps) q (b ∷ x) y h k =
    let t = both (fits p b) (exact ps x) h in rw t.0 (exact-append ps q x y t.1 k)

pub exact-begins : (p : Pattern) (x y : List ℕ) → exact p x ≡ true → begins p (x ++ y) ≡ true
unfolding begins
exact-begins [] x y h = refl
exact-begins (p ∷ ps) [] y h = absurd (false≢true h)
exact-begins (p ∷ ps) (b ∷ x) y h = let t = both (fits p b) (exact ps x) h in rw t.0 (exact-begins ps x y t.1)

pub begins-exact : (p q : Pattern) (g : List ℕ) → begins p g ≡ true → exact q (drop (length p) g) ≡ true → exact (p ++ q) g ≡ true
unfolding begins
begins-exact [] q g h k = k
begins-exact (p ∷ ps) q [] h k = absurd (false≢true h)
begins-exact (p ∷ ps) q (b ∷ g) h k =
    let t = both (fits p b) (begins ps g) h in rw t.0 (begins-exact ps q g t.1 k)

-- a group fits p just where it begins with p and nothing is left
pub exact-all : (p : Pattern) (g : List ℕ) → exact p g ≡ (begins p g && exact [] (drop (length p) g))
unfolding begins
exact-all [] g = refl
exact-all (p ∷ ps) [] = refl
exact-all (p ∷ ps) (b ∷ g) = rw (exact-all ps g) (sym (and_assoc (fits p b) (begins ps g) _))

-- ---- what a group does not begin with

unled-begins : (e x : Pattern) (g : List ℕ) → unled e x ≡ true → exact x g ≡ true → begins e g ≡ false
unfolding unled begins
unled-begins [] x g u h = absurd (false≢true u)
unled-begins (e ∷ es) x [] u h = refl
unled-begins (e ∷ es) [] (b ∷ g) u h = absurd (false≢true h)
unled-begins (e ∷ es) (x ∷ xs) (b ∷ g) u h =
    let t = both (fits x b) (exact xs g) h in
    or_cases (apart x e) (unled es xs) u
    (λ a. rw (apart_fits x e b a t.0))
    (λ k. rw (unled-begins es xs g k t.1) (and-false (fits e b)))

-- ---- one of several patterns

abbrev pub exact_any : List Pattern → List ℕ → Bool
exact_any [] g = false
exact_any (p ∷ ps) g = exact p g || exact_any ps g

pub any-pattern : (ps : List Pattern) (g : List ℕ) → exact_any ps g ≡ true → has_any ps g ≡ true
unfolding has_any
any-pattern [] g h = absurd (false≢true h)
any-pattern (p ∷ ps) g h =
    or_cases (exact p g) (exact_any ps g) h
    (λ k. rw (exact-pattern p g k))
    (λ k. or_right (has_pattern g p) (has_any ps g) (any-pattern ps g k))

pub unled-any : (e : Pattern) (xs : List Pattern) (g : List ℕ) → unled_each e xs ≡ true → exact_any xs g ≡ true → begins e g ≡ false
unfolding unled_each
unled-any e [] g u h = absurd (false≢true h)
unled-any e (x ∷ xs) g u h =
    let t = both (unled e x) (unled_each e xs) u in
    or_cases (exact x g) (exact_any xs g) h (unled-begins e x g t.0) (unled-any e xs g t.1)

any_left : (ps qs : List Pattern) (g : List ℕ) → exact_any ps g ≡ true → exact_any (ps ++ qs) g ≡ true
any_left [] qs g h = absurd (false≢true h)
any_left (p ∷ ps) qs g h =
    or_cases (exact p g) (exact_any ps g) h (λ k. rw k) (λ k. or_right (exact p g) _ (any_left ps qs g k))

any-right : (ps qs : List Pattern) (g : List ℕ) → exact_any qs g ≡ true → exact_any (ps ++ qs) g ≡ true
any-right [] qs g h = h
any-right (p ∷ ps) qs g h = or_right (exact p g) _ (any-right ps qs g h)

-- ---- the spellings of a part and what follows it

module _ (a : Pattern) (g y : List ℕ) (joins : (c : Pattern) → exact c y ≡ true → exact (a ++ c) g ≡ true) where
  each-before : (cs : List Pattern) → exact_any cs y ≡ true → exact_any (each_before a cs) g ≡ true
  each-before [] h = absurd (false≢true h)
  each-before (c ∷ cs) h =
      or_cases (exact c y) (exact_any cs y) h
      (λ k. rw (joins c k))
      (λ k. or_right (exact (a ++ c) g) _ (each-before cs k))

  pub with_first : (p : Part) (cs : List Pattern) → exact_any cs y ≡ true → exact_any (with_each (a ∷ p) cs) g ≡ true
  with_first p cs h = any_left (each_before a cs) (with_each p cs) g (each-before cs h)

pub with-later : (a : Pattern) (p : Part) (cs : List Pattern) (g : List ℕ) → exact_any (with_each p cs) g ≡ true → exact_any (with_each (a ∷ p) cs) g ≡ true
with-later a p cs g h = any-right (each_before a cs) (with_each p cs) g h

-- alternative number i, and one of the continuations
pub spelled : (p : Part) (i : ℕ) (cs : List Pattern) (x y : List ℕ) → i < length p → exact (get_or p i []) x ≡ true → exact_any cs y ≡ true
    → exact_any (with_each p cs) (x ++ y) ≡ true
spelled [] i cs x y l h k = absurd (omega arith)
spelled (a ∷ p) zero cs x y l h k = with_first a (x ++ y) y (λ c e. exact-append a c x y h e) p cs k
spelled (a ∷ p) (suc i) cs x y l h k = with-later a p cs (x ++ y) (spelled p i cs x y (omega arith) h k)
