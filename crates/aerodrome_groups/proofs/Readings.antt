-- What a field that is no number makes of a reading, the four bytes of a station, and the values that the code takes from a scan.
-- Assumes nothing.
use Rattle.std.specs.Prelude.{Result}
use Prim.Native.Nat.{ℕ, ◌<◌}
use mathlib.Core.Path.{◌≡◌, refl, ap, ◌∙◌}
use mathlib.Core.List.{List, [], ◌∷◌, ◌++◌}
use lib.ListN.{get_or, take, replicate}
use types.Run.{OneOf}
use denote.Enum.Declared.{tag_of}
use Rattle.figures.specs.contracts.kinds.Field.{the_type}
use Rattle.figures.specs.declared.kinds.Field.{Field}
use Rattle.figures.specs.declared.kinds.Field.TheVariants as field
use Rattle.shapes.specs.declared.kinds.Value.{Value}
use Rattle.shapes.specs.declared.kinds.Scan.{Scan}
use Rattle.shapes.specs.Shape.{scan_of}
use Rattle.text.specs.declared.kinds.Refusal.{Refusal}
use Rattle.elements.proofs.Answers as answers
use Rattle.elements.proofs.Scanned.{value-is}
use Rattle.elements.specs.Parts.{wrong, figured, value_at}

-- a field that has to be a number and is none
pub no-figure : {A R : Type 0} (answer : Result A Refusal → R) (k : ℕ → Result A Refusal) {e f : Field} → f ≡ e → OneOf (1 ∷ 2 ∷ 3 ∷ []) (tag_of the_type f)
    → answer wrong ≡ answer (figured e k)
no-figure answer k {f = f} asked h = rw (← asked, answers.no-figure f h k)

-- the four bytes of a station, 0 past its end
pub four_bytes : (g : List ℕ) → get_or g 0 0 ∷ get_or g 1 0 ∷ get_or g 2 0 ∷ get_or g 3 0 ∷ [] ≡ take 4 (g ++ replicate 4 0)
four_bytes [] = refl
four_bytes (a ∷ []) = refl
four_bytes (a ∷ b ∷ []) = refl
four_bytes (a ∷ b ∷ c ∷ []) = refl
four_bytes (a ∷ b ∷ c ∷ d ∷ g) = refl

-- the values that the code takes from a scan are those of the group; past the eight it would have zeros
abbrev pub zero_value : Value
zero_value = record { which = 0; field = field.Number 0 }

pub scanned : (shape g : List ℕ) (x : Scan) → x ≡ scan_of shape g → (i : ℕ) → i < 8 → get_or x.values i zero_value ≡ value_at shape g i
scanned shape g x e i h = ap (λ (y : Scan). get_or y.values i zero_value) e ∙ value-is shape g i zero_value h
