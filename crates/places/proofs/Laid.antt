-- Fields of two figures laid out in a group, each after a word of its own, which may be empty: the group has the shape of them, and each field is found
-- where it stands.
-- Assumes nothing.
use Prim.Native.Nat.{ℕ, ◌+◌}
use native.Mathlib.Omega.{arith}
use mathlib.Core.Path.{◌≡◌, refl, sym, ◌∙◌, subst}
use mathlib.Core.Bool.{Bool, true, ◌&&◌}
use mathlib.Core.List.{List, [], ◌∷◌, ◌++◌, append_assoc}
use lib.ListN.{length, length-append}
use Rattle.figures.specs.Quote.{bytes}
use Rattle.figures.specs.declared.kinds.Field.{Field}
use Rattle.figures.specs.Figures.{field_at, field_text, Fits}
use Rattle.figures.proofs.Figures.{length-field, field_back}
use Rattle.shapes.specs.Pattern.{Pattern, has_pattern}
use Rattle.shapes.proofs.Patterns.{both, starless, pattern-append, field-pattern}

-- a word and the field after it
abbrev pub Spot : Type 0
Spot = List ℕ × Field

abbrev pub laid : List Spot → List ℕ
laid [] = []
laid (x ∷ xs) = x.0 ++ (field_text 2 x.1 ++ laid xs)

abbrev pub laid_shape : List Spot → Pattern
laid_shape [] = []
laid_shape (x ∷ xs) = x.0 ++ (bytes "##" ++ laid_shape xs)

-- each field has two figures
abbrev pub Narrow : List Spot → Type 0
Narrow [] = Unit {0}
Narrow (x ∷ xs) = Fits 2 x.1 × Narrow xs

-- each word has its own shape
abbrev pub worded : List Spot → Bool
worded [] = true
worded (x ∷ xs) = (starless x.0 && has_pattern x.0 x.0) && worded xs

-- each field stands in g, the first word at a place
abbrev pub Stands : List ℕ → ℕ → List Spot → Type 0
Stands g at [] = Unit {0}
Stands g at (x ∷ xs) = (field_at g (at + length x.0) 2 ≡ x.1) × Stands g (at + length x.0 + 2) xs

two : (f : Field) → Fits 2 f → length (field_text 2 f) ≡ 2
two f fit = length-field 2 f (omega arith) fit

pub laid-shaped : (xs : List Spot) → Narrow xs → worded xs ≡ true → has_pattern (laid xs) (laid_shape xs) ≡ true
unfolding has_pattern
laid-shaped [] n e = refl
laid-shaped (x ∷ xs) n e =
    let w = both (starless x.0 && has_pattern x.0 x.0) (worded xs) e in
    let s = both (starless x.0) (has_pattern x.0 x.0) w.0 in
    pattern-append x.0 (field_text 2 x.1 ++ laid xs) x.0 (bytes "##" ++ laid_shape xs) s.0 refl
    ∙ rw (s.1, pattern-append (field_text 2 x.1) (laid xs) (bytes "##") (laid_shape xs) refl (two x.1 n.0), field-pattern 2 x.1 (omega arith) n.0, laid-shaped xs n.1 w.1)

stands_from : (xs : List Spot) → Narrow xs → (pre : List ℕ) (at : ℕ) → length pre ≡ at → Stands (pre ++ laid xs) at xs
stands_from [] n pre at e = tt
stands_from (x ∷ xs) n pre at e =
    let t = field_text 2 x.1 in
    let all : pre ++ laid (x ∷ xs) ≡ pre ++ x.0 ++ t ++ laid xs = sym (append_assoc (pre ++ x.0) t (laid xs) ∙ append_assoc pre x.0 (t ++ laid xs)) in
    let here : length (pre ++ x.0) ≡ at + length x.0 = rw (length-append pre x.0, e) in
    let past : length (pre ++ x.0 ++ t) ≡ at + length x.0 + 2 = rw (length-append (pre ++ x.0) t, here, two x.1 n.0) in
    subst (λ (g : List ℕ). Stands g at (x ∷ xs)) (sym all)
    (rw here at (field_back (pre ++ x.0) (laid xs) 2 x.1 (omega arith) (omega arith) n.0), stands_from xs n.1 (pre ++ x.0 ++ t) (at + length x.0 + 2) past)

pub laid-stands : (xs : List Spot) → Narrow xs → Stands (laid xs) 0 xs
laid-stands xs n = stands_from xs n [] 0 refl
