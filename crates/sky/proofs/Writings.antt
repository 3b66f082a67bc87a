-- What the printers' texts are in the definitions' words: a layer's group.
-- Assumes nothing.
use native.Mathlib.Omega.{arith}
use mathlib.Core.Path.{◌≡◌}
use mathlib.Core.List.{List, [], ◌∷◌}
use Rattle.shapes.specs.declared.kinds.Value.{Value}
use Rattle.shapes.specs.Shape.{split, parts_of, print_of}
use Rattle.elements.specs.Sky.{layer_shape}
use Rattle.elements.proofs.Scanned.{print-enough}

pub three-parts : (a h c : Value) (more : List Value) → print_of layer_shape (a ∷ h ∷ c ∷ more) ≡ print_of layer_shape (a ∷ h ∷ c ∷ [])
three-parts a h c more = print-enough layer_shape (a ∷ h ∷ c ∷ []) more (unfold parts_of split in omega arith)
