-- The values of a scan, which are eight: each is there, whatever the array would have past its end; and those that are printed.
-- Assumes nothing.
use Prim.Native.Nat.{ℕ, zero, suc, ◌≤◌, ◌<◌}
use native.Mathlib.Omega.{arith}
use mathlib.Core.Path.{◌≡◌, refl}
use mathlib.Core.Bool.{Bool, true, false, cond}
use mathlib.Core.List.{List, [], ◌∷◌, ◌++◌}
use lib.ListN.{length, get_or, length-append, length-replicate}
use lib.Dec.{leb}
use borrow.Author.Tests.{leb-true}
use Rattle.shapes.specs.declared.kinds.Value.{Value}
use Rattle.shapes.specs.declared.kinds.Scan.{Scan}
use Rattle.shapes.specs.Shape.{Part, Values, Says, Unlike, parts_of, scan_parts, blank_value, padded, misfit, answered, scan_of, print_parts, print_of}
use Rattle.elements.specs.Parts.{value_at}

eight-said : (vs : List Value) (fits : Bool) → leb (length vs) 8 ≡ fits
    → length (cond {A = Scan} fits (record { fits = true; values = padded vs }) misfit).values ≡ 8
eight-said vs true e =
    let few = leb-true (length vs) 8 e in
    simp (length-append, length-replicate) (omega arith)
eight-said vs false e = refl

eight : (x : Values) → length (answered x).values ≡ 8
unfolding answered
eight (Says vs) = eight-said vs (leb (length vs) 8) refl
eight Unlike = refl

-- and values past a shape's parts are not printed
print-parts : (ps : List Part) (vs more : List Value) → length ps ≤ length vs → print_parts ps (vs ++ more) ≡ print_parts ps vs
unfolding print_parts
print-parts [] vs more h = refl
print-parts (p ∷ ps) [] more h = absurd (omega arith)
print-parts (p ∷ ps) (v ∷ vs) more h = rw (print-parts ps vs more (omega arith))

pub print-enough : (shape : List ℕ) (vs more : List Value) → length (parts_of shape) ≤ length vs → print_of shape (vs ++ more) ≡ print_of shape vs
unfolding print_of
print-enough shape vs more h = print-parts (parts_of shape) vs more h

any-default : (vs : List Value) (i : ℕ) (d e : Value) → i < length vs → get_or vs i d ≡ get_or vs i e
any-default [] i d e h = absurd (omega arith)
any-default (v ∷ vs) zero d e h = refl
any-default (v ∷ vs) (suc i) d e h = any-default vs i d e (omega arith)

pub value-is : (shape g : List ℕ) (i : ℕ) (d : Value) → i < 8 → get_or (scan_of shape g).values i d ≡ value_at shape g i
unfolding scan_of
value-is shape g i d h =
    any-default (answered (scan_parts (parts_of shape) g)).values i d blank_value (omega (arith, eight (scan_parts (parts_of shape) g)))
