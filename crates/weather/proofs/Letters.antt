-- The laws of a text of codes: its first code, the code at a position, and the tests of its codes that the code makes.
-- Assumes nothing.
use Rattle.std.specs.Prelude.{None, Some}
use mathlib.Core.Path.{◌≡◌, refl}
use mathlib.Core.Bool.{Bool, true, false, ◌&&◌, and-true}
use mathlib.Core.List.{List, [], ◌∷◌}
use Prim.Native.Nat.{ℕ, zero, suc, ◌+◌, ◌*◌, ◌-◌, ◌/◌, ◌≤◌, ◌<◌}
use native.Mathlib.Nat.{suc-add}
use native.Mathlib.Omega.{arith}
use lib.ListN.{length, take, drop, get_or}
use lib.Seq.{take_all}
use lib.Dec.{eqb}
use borrow.Author.Tests.{lt-ltb, le-ltb}
use Rattle.std.specs.List.{list_any, list_all}
use Rattle.std.specs.Simd.{first_chunks}
use Rattle.record.specs.Values.{code_of}
use Rattle.elements.specs.Weather.{codes_of, among, all_among, differ, code_at}

-- the first two letters are the first code, and what follows them has the others
pub first-code : (s : List ℕ) (n : ℕ) → 2 ≤ length s → n ≡ length s - 2 → codes_of s ≡ (get_or s 0 0 ∷ get_or s 1 0 ∷ []) ∷ codes_of (take n (drop 2 s))
unfolding codes_of
first-code [] n h e = absurd (omega arith)
first-code (a ∷ []) n h e = absurd (omega arith)
first-code (a ∷ b ∷ s) n h e = rw (take_all n s (omega arith))

pub no_code : (s : List ℕ) → length s < 2 → codes_of s ≡ []
unfolding codes_of
no_code [] h = refl
no_code (a ∷ []) h = refl
no_code (a ∷ b ∷ s) h = absurd (omega arith)

pub code_count : (s : List ℕ) → length (codes_of s) ≡ length s / 2
unfolding codes_of
code_count [] = refl
code_count (a ∷ []) = refl
code_count (a ∷ b ∷ s) = let e = code_count s in omega arith

code_is : (s : List ℕ) (i : ℕ) → i < length s / 2 → get_or (codes_of s) i [] ≡ get_or s (2 * i) 0 ∷ get_or s (2 * i + 1) 0 ∷ []
unfolding codes_of
code_is [] i h = absurd (omega arith)
code_is (a ∷ []) i h = absurd (omega arith)
code_is (a ∷ b ∷ s) zero h = refl
code_is (a ∷ b ∷ s) (suc i) h = rw (twice, suc-add (suc (2 * i)) 1, suc-add (2 * i) 1) (code_is s i (omega arith))
  where
    twice : 2 * suc i ≡ suc (suc (2 * i))
    twice = omega arith

-- a test of some or of all codes, by the pairs that a text is cut into
abbrev pub by_letters : (ℕ → ℕ → Bool) → List ℕ → Bool
by_letters test c = test (get_or c 0 0) (get_or c 1 0)

pub some-code : (a b : ℕ) (s : List ℕ) (k : ℕ) → k ≡ length s / 2
    → list_any (by_letters (λ x y. eqb a x && eqb b y)) (first_chunks 2 k s) ≡ among (a ∷ b ∷ []) (codes_of s)
unfolding codes_of
some-code a b [] zero h = refl
some-code a b [] (suc k) h = absurd (omega arith)
some-code a b (x ∷ []) zero h = refl
some-code a b (x ∷ []) (suc k) h = absurd (omega arith)
some-code a b (x ∷ y ∷ s) zero h = absurd (omega arith)
some-code a b (x ∷ y ∷ s) (suc k) h = rw (and-true (eqb b y), some-code a b s k (omega arith))

pub each-code : (test : List ℕ → Bool) (s : List ℕ) (k : ℕ) → k ≡ length s / 2
    → list_all (by_letters (λ x y. test (x ∷ y ∷ []))) (first_chunks 2 k s) ≡ all_among test (codes_of s)
unfolding codes_of
each-code test [] zero h = refl
each-code test [] (suc k) h = absurd (omega arith)
each-code test (x ∷ []) zero h = refl
each-code test (x ∷ []) (suc k) h = absurd (omega arith)
each-code test (x ∷ y ∷ s) zero h = absurd (omega arith)
each-code test (x ∷ y ∷ s) (suc k) h = rw (each-code test s k (omega arith))

-- codes that differ
module _ (s : List ℕ) (n : ℕ) (h : 2 ≤ length s) (e : n ≡ length s - 2) where
  pub differ-next : among (get_or s 0 0 ∷ get_or s 1 0 ∷ []) (codes_of (take n (drop 2 s))) ≡ false → differ (codes_of (take n (drop 2 s))) ≡ differ (codes_of s)
  differ-next f = rw (first-code s n h e, f)

  pub differ-stop : among (get_or s 0 0 ∷ get_or s 1 0 ∷ []) (codes_of (take n (drop 2 s))) ≡ true → false ≡ differ (codes_of s)
  differ-stop f = rw (first-code s n h e, f)

pub differ-end : (s : List ℕ) → length s < 2 → true ≡ differ (codes_of s)
differ-end s h = rw (no_code s h)

-- the code number i, where there are so many, and where not
pub code_there : (s : List ℕ) (i : ℕ) → i < length s / 2 → Some (code_of (get_or s (2 * i) 0) (get_or s (2 * i + 1) 0)) ≡ code_at (codes_of s) i
code_there s i h = rw (lt-ltb i (length (codes_of s)) (rw (code_count s) h), code_is s i h)

pub code_past : (s : List ℕ) (i : ℕ) → length s / 2 ≤ i → None ≡ code_at (codes_of s) i
code_past s i h = rw (le-ltb i (length (codes_of s)) (rw (code_count s) h))
