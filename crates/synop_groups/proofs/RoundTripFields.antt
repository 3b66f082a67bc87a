-- What the writer's judgement says of each part, and what the reader does with a field that holds it.
-- Assumes nothing.
use Rattle.std.specs.Prelude.{None, Option, Some}
use mathlib.Core.Path.{◌≡◌, refl, ◌∙◌}
use mathlib.Core.Bool.{Bool, true, false, ◌||◌, false≢true}
use mathlib.Core.List.{List, [], ◌∷◌}
use Prim.Native.Nat.{ℕ, ◌+◌, ◌^◌, ◌≤◌, ◌<◌}
use native.Mathlib.Omega.{arith}
use lib.ListN.{get_or}
use lib.Dec.{leb, eqb}
use borrow.Author.Tests.{leb-true, eqb-true}
use Rattle.figures.specs.declared.kinds.Field.{Field}
use Rattle.figures.specs.Figures.{every, Fits, field_at}
use Rattle.shapes.proofs.Patterns.{both, or_cases}
use Rattle.synop_groups.specs.declared.kinds.Said.{Said}
use Rattle.synop_groups.specs.Reads.{Group, part}
use Rattle.synop_groups.specs.Shows.{field_of}
use Rattle.record.specs.Missing.{between, optional}
use Rattle.synop_groups.proofs.RoundTripParts.{Part, at, Holds}

-- ---- the judgement

pub in-range : (low high n : ℕ) → between low high n ≡ true → (low ≤ n) × (n ≤ high)
in-range low high n e = let t = both (leb low n) (leb n high) e in (leb-true low n t.0, leb-true n high t.1)

-- n is one of several numbers
abbrev one_of : Bool → ℕ → List ℕ → Bool
one_of b n [] = b
one_of b n (k ∷ ks) = one_of (b || eqb n k) n ks

one-of : (low high n : ℕ) (ks : List ℕ) (b : Bool) → every (between low high) ks ≡ true → (b ≡ true → between low high n ≡ true) → one_of b n ks ≡ true
    → between low high n ≡ true
one-of low high n [] b r f e = f e
one-of low high n (k ∷ ks) b r f e =
    let t = both (between low high k) (every (between low high) ks) r in
    one-of low high n ks (b || eqb n k) t.1 (λ q. or_cases b (eqb n k) q f (λ p. rw (eqb-true n k p) t.0)) e

-- which are all in a range
pub chosen : (low high n : ℕ) (ks : List ℕ) → every (between low high) ks ≡ true → one_of false n ks ≡ true → (low ≤ n) × (n ≤ high)
chosen low high n ks r e = in-range low high n (one-of low high n ks false r (λ q. absurd (false≢true q)) e)

-- a number that may be missing and is in range fits the width of its range
pub optional-fits : (w high : ℕ) (n : Option ℕ) → high < 10 ^ w → optional (between 0 high) n ≡ true → Fits w (field_of n)
optional-fits w high None h e = tt
optional-fits w high (Some n) h e = let r = in-range 0 high n e in omega arith

-- one figure that may be missing
abbrev pub one_figure : Option ℕ → Bool
one_figure = optional (between 0 9)

pub one-fits : (n : Option ℕ) → one_figure n ≡ true → Fits 1 (field_of n)
one-fits n e = optional-fits 1 9 n (omega arith) e

-- ---- the reader

-- a field that holds a number which may be missing
pub part-is : (f : Field) (n : Option ℕ) (k : Option ℕ → Said) → f ≡ field_of n → part f k ≡ k n
part-is f None k e = rw e
part-is f (Some n) k e = rw e

-- numbers that may be missing, each with the width of its field
pub record Slot : Type 0 where
  pub width : ℕ
  pub number : Option ℕ

abbrev pub slot : ℕ → Option ℕ → Slot
slot w n = record { width = w; number = n }

abbrev pub parts_of : List Slot → List Part
parts_of [] = []
parts_of (s ∷ ss) = at s.width (field_of s.number) ∷ parts_of ss

abbrev pub numbers_of : List Slot → List (Option ℕ)
numbers_of [] = []
numbers_of (s ∷ ss) = s.number ∷ numbers_of ss

-- the i-th of the numbers
abbrev pub nth : ℕ → List (Option ℕ) → Option ℕ
nth i ns = get_or ns i None

-- read one after the other from byte i
abbrev pub asked : Group → ℕ → List Slot → (List (Option ℕ) → Said) → Said
asked g i [] k = k []
asked g i (s ∷ ss) k = part (field_at g i s.width) (λ n. asked g (i + s.width) ss (λ ns. k (n ∷ ns)))

pub asked-back : (g : Group) (i : ℕ) (ss : List Slot) (k : List (Option ℕ) → Said) → Holds g i (parts_of ss) → asked g i ss k ≡ k (numbers_of ss)
asked-back g i [] k h = refl
asked-back g i (s ∷ ss) k h =
    part-is (field_at g i s.width) s.number (λ n. asked g (i + s.width) ss (λ ns. k (n ∷ ns))) h.0
    ∙ asked-back g (i + s.width) ss (λ ns. k (s.number ∷ ns)) h.1
