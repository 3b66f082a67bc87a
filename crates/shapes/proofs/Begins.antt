-- The laws of a group that begins with a pattern.
-- Assumes nothing.
use mathlib.Core.Path.{◌≡◌}
use mathlib.Core.Bool.{false, ◌&&◌}
use mathlib.Core.List.{List, ◌∷◌}
use Prim.Native.Nat.{ℕ, ◌+◌, ◌<◌}
use lib.ListN.{length, drop, get_or}
use Rattle.std.proofs.lemmas.List.{nil_from_length}
use Rattle.figures.proofs.Fields.{next}
use Rattle.shapes.specs.Pattern.{Pattern, fits}
use Rattle.shapes.specs.Shape.{begins}

-- at character i of the pattern, where g is left of the group
module _ (g : List ℕ) (p : Pattern) (i : ℕ) (h : i < length p) where
  pub begin-spent : length g ≡ 0 → begins (drop i p) g ≡ false
  unfolding begins
  begin-spent e = rw (next p i h, nil_from_length g e)

  pub begin-byte : {b : ℕ} {t : List ℕ} → g ≡ b ∷ t → begins (drop i p) g ≡ (fits (get_or p i 0) b && begins (drop (i + 1) p) t)
  unfolding begins
  begin-byte e = rw (next p i h, e)
