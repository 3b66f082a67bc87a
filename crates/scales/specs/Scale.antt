-- A scale that rounds down: its classes by rising foot, each with the figure that it is written as.
-- "A value's class has the greatest foot not above it; its length runs to the next foot, the last class is open above."
-- Assumes nothing: these are definitions.
use Rattle.std.specs.Prelude.{ℕ, zero, suc, ◌+◌, ◌-◌, Bool, true, cond, not, ◌&&◌, List, [], ◌∷◌, leb, ltb, None, Option, Some}

pub record Class (F : Type 0) : Type 0 where
  pub foot : ℕ
  pub figure : F

-- The length of a class, or none where the class is open above.
pub data Length : Type 0 where
  Of : ℕ → Length
  Open : Length

-- n classes one after the other: how a number is written as a figure, the first foot and how far the feet are apart, the first number and how
-- far the numbers are apart
unfoldable pub run : {F : Type 0} → (ℕ → F) → ℕ → ℕ → ℕ → ℕ → ℕ → List (Class F)
run mark zero foot apart number next = []
run mark (suc n) foot apart number next =
    record { foot = foot; figure = mark number } ∷ run mark n (foot + apart) apart (number + next) next

-- the same where the number is the figure
abbrev pub steps : ℕ → ℕ → ℕ → ℕ → ℕ → List (Class ℕ)
steps = run (λ number. number)

-- A scale has a lowest class, whose foot is 0 in every scale here, and the classes above it.
pub record Scale (F : Type 0) : Type 0 where
  pub lowest : Class F
  pub above : List (Class F)

module _ {F : Type 0} where
  -- the last class whose foot is not above v, where c's is not
  unfoldable pub class_in : Class F → List (Class F) → ℕ → Class F
  class_in c [] v = c
  class_in c (d ∷ ds) v = cond (leb d.foot v) (class_in d ds v) c

  -- the length of that class
  unfoldable pub length_in : Class F → List (Class F) → ℕ → Length
  length_in c [] v = Open
  length_in c (d ∷ ds) v = cond (leb d.foot v) (length_in d ds v) (Of (d.foot - c.foot))

  -- the last class of all, which is open above
  unfoldable pub last_in : Class F → List (Class F) → Class F
  last_in c [] = c
  last_in c (d ∷ ds) = last_in d ds

  -- the reading of the first class that has the figure
  unfoldable pub read_in : (F → F → Bool) → List (Class F) → F → Option ℕ
  read_in same [] f = None
  read_in same (c ∷ cs) f = cond (same c.figure f) (Some c.foot) (read_in same cs f)

  -- the class of a value, its length, its figure and its reading; the reading of a figure
  abbrev pub class_of : Scale F → ℕ → Class F
  class_of s v = class_in s.lowest s.above v

  abbrev pub length_of : Scale F → ℕ → Length
  length_of s v = length_in s.lowest s.above v

  abbrev pub figure_of : Scale F → ℕ → F
  figure_of s v = (class_of s v).figure

  abbrev pub foot_of : Scale F → ℕ → ℕ
  foot_of s v = (class_of s v).foot

  abbrev pub read_of : (F → F → Bool) → Scale F → F → Option ℕ
  read_of same s f = read_in same (s.lowest ∷ s.above) f

  -- what a list of classes has to be: the feet rise, and no two classes have one figure
  unfoldable pub rising : Class F → List (Class F) → Bool
  rising c [] = true
  rising c (d ∷ ds) = ltb c.foot d.foot && rising d ds

  unfoldable pub unlike : (F → F → Bool) → F → List (Class F) → Bool
  unlike same f [] = true
  unlike same f (d ∷ ds) = not (same d.figure f) && unlike same f ds

  unfoldable pub distinct : (F → F → Bool) → List (Class F) → Bool
  distinct same [] = true
  distinct same (c ∷ cs) = unlike same c.figure cs && distinct same cs
