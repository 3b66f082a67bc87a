-- Three figures that are read as a direction, as the code finds them.
-- Assumes nothing.
use Rattle.std.specs.Prelude.{None, Some}
use Prim.Native.Nat.{ℕ, ◌%◌}
use mathlib.Core.Path.{◌≡◌, refl, sym, ap, ◌∙◌}
use mathlib.Core.Bool.{Bool, true, false, cond, ◌&&◌}
use lib.Dec.{leb, eqb}
use Rattle.shapes.proofs.Patterns.{both}
use Rattle.scales.specs.Rounded.{ddd_reading}
use Rattle.scales.proofs.DirectionLaws.{ddd-is}
use Rattle.wind.specs.Parts.{is_used}

pub ddd-test : (d : ℕ) → (eqb (d % 10) 0 && leb 10 d && leb d 360) ≡ is_used (ddd_reading d)
ddd-test d = go (eqb (d % 10) 0 && leb 10 d && leb d 360) ∙ ap is_used (sym (ddd-is d))
  where
    go : (b : Bool) → b ≡ is_used (cond b (Some (d % 360)) None)
    go true = refl
    go false = refl

pub ddd-used : (d : ℕ) → is_used (ddd_reading d) ≡ true → ddd_reading d ≡ Some (d % 360)
ddd-used d h = ddd-is d ∙ rw (ddd-test d ∙ h)

module _ {x y : Bool} (a b : ℕ) (first : x ≡ is_used (ddd_reading a)) (second : y ≡ is_used (ddd_reading b)) where
  pub both_used : (x && y) ≡ true → (ddd_reading a ≡ Some (a % 360)) × (ddd_reading b ≡ Some (b % 360))
  both_used h = let t = both x y h in (ddd-used a (sym first ∙ t.0), ddd-used b (sym second ∙ t.1))
