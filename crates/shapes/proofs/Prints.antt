-- The laws of printing as the code goes: part by part, each with its value.
-- Assumes nothing.
use mathlib.Core.Path.{◌≡◌, refl, sym}
use mathlib.Core.List.{List, [], ◌∷◌, ◌++◌, map, append-nil, append_assoc}
use Prim.Native.Nat.{ℕ}
use denote.Ref.{Bor}
use lib.ListN.{get_or}
use Rattle.std.specs.List.{zip}
use Rattle.shapes.specs.declared.kinds.Value.{Value}
use Rattle.shapes.specs.Shape.{split, filled, print_parts}

-- a part and its value, as the loop has them
abbrev pub shown : Bor (List ℕ) × Bor Value → List ℕ × Value
shown x = (x.0.now, x.1.now)

abbrev pub text : List ℕ × Value → List ℕ
text p = filled (get_or (split 124 p.0) p.1.which []) p.1.field

abbrev pub texts : List (List ℕ × Value) → List ℕ
texts [] = []
texts (p ∷ ps) = text p ++ texts ps

pub texts-push : (xs : List (Bor (List ℕ) × Bor Value)) (x : Bor (List ℕ) × Bor Value)
    → texts (map shown (xs ++ x ∷ [])) ≡ texts (map shown xs) ++ text (shown x)
texts-push [] x = append-nil (text (shown x))
texts-push (y ∷ xs) x = rw (texts-push xs x) (sym (append_assoc (text (shown y)) (texts (map shown xs)) (text (shown x))))

-- a value with no part, and a part with no value, are not printed
pub texts-zip : (ps : List (List ℕ)) (vs : List Value) → texts (zip ps vs) ≡ print_parts (map (split 124) ps) vs
unfolding print_parts
texts-zip [] vs = refl
texts-zip (p ∷ ps) [] = refl
texts-zip (p ∷ ps) (v ∷ vs) = rw (texts-zip ps vs)
