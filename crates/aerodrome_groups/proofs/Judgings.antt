-- What the judging of a station finds, in the definition's words.
-- Assumes nothing.
use Prim.Native.Nat.{ℕ}
use native.Mathlib.Omega.{arith}
use mathlib.Core.Path.{◌≡◌}
use mathlib.Core.Bool.{◌&&◌, and_assoc, and-true}
use mathlib.Core.List.{List, [], ◌∷◌}
use lib.ListN.{length, get_or}
use lib.Dec.{eqb}
use Rattle.figures.specs.Figures.{is_letter, every}

-- the four letters of a station
pub four_letters : (l : List ℕ) → length l ≡ 4
    → ((is_letter (get_or l 0 0) && is_letter (get_or l 1 0)) && (is_letter (get_or l 2 0) && is_letter (get_or l 3 0))) ≡ (eqb (length l) 4 && every is_letter l)
four_letters [] e = absurd (omega arith)
four_letters (a ∷ []) e = absurd (omega arith)
four_letters (a ∷ b ∷ []) e = absurd (omega arith)
four_letters (a ∷ b ∷ c ∷ []) e = absurd (omega arith)
four_letters (a ∷ b ∷ c ∷ d ∷ []) e = rw (and-true (is_letter d)) (and_assoc (is_letter a) (is_letter b) (is_letter c && is_letter d))
four_letters (a ∷ b ∷ c ∷ d ∷ x ∷ l) e = absurd (omega arith)
