-- What the printers' texts are in the definitions' words: values past a shape's parts, the figure of a range, two values of a temperature.
-- Assumes nothing.
use Rattle.std.specs.Prelude.{ℤ, None, Option, Some}
use Prim.Native.Nat.{ℕ, ◌<◌}
use native.Mathlib.Omega.{arith}
use mathlib.Core.Path.{◌≡◌, refl, sym, ap}
use mathlib.Core.List.{[], ◌∷◌}
use Rattle.scales.proofs.Answers.{range-told, range-beyond}
use Rattle.shapes.specs.declared.kinds.Value.{Value}
use Rattle.shapes.specs.Shape.{split, parts_of, print_of}
use Rattle.scales.specs.declared.kinds.Range.{Range}
use Rattle.scales.specs.declared.kinds.Range.TheVariants as range
use Rattle.scales.specs.Scale.{Class, run, last_in, figure_of}
use Rattle.scales.specs.Metres.{runway}
use Rattle.scales.proofs.MetresLaws.{runway-laws}
use Rattle.elements.proofs.Scanned.{print-enough}
use Rattle.aerodrome_groups.specs.Runway.{runway_shape}
use Rattle.aerodrome_groups.specs.Temperatures.{temperatures_shape, degrees_values}
use Rattle.aerodrome_groups.specs.Values.{minus_of, whole_of}

-- ---- values past a shape's parts are not printed

pub runway-text : (a b c d e f x y : Value) → print_of runway_shape (a ∷ b ∷ c ∷ d ∷ e ∷ f ∷ x ∷ y ∷ []) ≡ print_of runway_shape (a ∷ b ∷ c ∷ d ∷ e ∷ f ∷ [])
runway-text a b c d e f x y =
    print-enough runway_shape (a ∷ b ∷ c ∷ d ∷ e ∷ f ∷ []) (x ∷ y ∷ []) (unfold parts_of split in omega arith)

pub temperatures-text : (a b c d e x y z : Value) → print_of temperatures_shape (a ∷ b ∷ c ∷ d ∷ e ∷ x ∷ y ∷ z ∷ []) ≡ print_of temperatures_shape (a ∷ b ∷ c ∷ d ∷ e ∷ [])
temperatures-text a b c d e x y z =
    print-enough temperatures_shape (a ∷ b ∷ c ∷ d ∷ e ∷ []) (x ∷ y ∷ z ∷ []) (unfold parts_of split in omega arith)

-- ---- the figure of a range

-- past 2,000 m there is one class
pub last-class : (m : ℕ) → 2000 < m → range.Above 2000 ≡ figure_of runway m
unfolding runway run last_in
last-class m h = sym (ap (λ (c : Class Range). c.figure) (runway-laws.last m h))

-- what the figure that the scale answers is, and what it says where there is none
pub ruleset ranges = (range-told, range-beyond, last-class)

-- ---- a temperature has two values
pub two-values : (x : Option ℤ) → degrees_values x ≡ minus_of x ∷ whole_of x ∷ []
two-values None = refl
two-values (Some t) = refl
