-- A group that was printed by a shape: it has the shape, fits one of the shape's spellings, and says at each part what was printed there.
-- Assumes nothing.
use Prim.Native.Nat.{ℕ}
use mathlib.Core.Path.{◌≡◌, ap}
use mathlib.Core.Bool.{true}
use mathlib.Core.List.{List, []}
use lib.ListN.{length, get_or}
use lib.Dec.{leb, ltb}
use Rattle.shapes.specs.declared.kinds.Value.{Value}
use Rattle.shapes.specs.declared.kinds.Scan.{Scan}
use Rattle.shapes.specs.Pattern.{has_any}
use Rattle.shapes.specs.Shape.{Part, field_width, FieldOf, blank_value, parts_of, padded, answered, scan_of, has_shape, print_of, spellings, clear, printable_all, sound, Sayable}
use Rattle.shapes.proofs.Patterns.{both}
use Rattle.shapes.proofs.Shapes.{scan-print, covered}
use Rattle.places.specs.Engine.{Group}
use Rattle.elements.specs.Parts.{value_at}

-- a part can say a value: the alternative is there, and its number field fits, or there is none
abbrev pub SaidAt : Part → Value → Type 0
SaidAt p v = (ltb v.which (length p) ≡ true) × FieldOf (field_width (get_or p v.which [])) v.field

-- a group has a shape, and fits one of its spellings
abbrev pub Shaped : List ℕ → Group → Type 0
Shaped shape g = (has_shape shape g ≡ true) × (has_any (spellings (parts_of shape)) g ≡ true)

pub record Printed (shape : List ℕ) (vs : List Value) (g : Group) : Type 0 where
  pub shaped : Shaped shape g
  pub says : (i : ℕ) → value_at shape g i ≡ get_or (padded vs) i blank_value

module _ (shape : List ℕ) (vs : List Value) (s : sound shape ≡ true) (say : Sayable (parts_of shape) vs) (few : leb (length vs) 8 ≡ true) where
  scan : scan_of shape (print_of shape vs) ≡ record { fits = true; values = padded vs }
  unfolding sound scan_of print_of answered
  scan =
      let t = both (clear (parts_of shape)) _ s in
      let u = both (printable_all (parts_of shape)) _ t.1 in
      rw (scan-print (parts_of shape) vs t.0 u.0 say, few)

  has : has_shape shape (print_of shape vs) ≡ true
  unfolding has_shape
  has = ap (λ (x : Scan). x.fits) scan

  pub printed : Printed shape vs (print_of shape vs)
  printed =
      record {
        shaped = (has, covered shape (print_of shape vs) has);
        says = λ i. ap (λ (x : Scan). get_or x.values i blank_value) scan;
      }
