-- What may have been seen, on any scale of rising feet: the values of the class are exactly those that come back as its reading.
-- Assumes nothing.
use Rattle.std.specs.Prelude.{Some}
use mathlib.Core.Path.{◌≡◌, refl, sym, ap, ◌∙◌}
use mathlib.Core.Bool.{Bool, true, false, cond}
use mathlib.Core.Logic.Iff
use mathlib.Core.Logic.{◌↔◌}
use Prim.Native.Nat.{ℕ, ◌+◌, ◌<◌}
use native.Mathlib.Omega.{arith}
use lib.Dec.{eqb}
use borrow.Author.Tests.{eqb-true, eqb-false}
use Rattle.scales.specs.Scale.{Length, Of, Open, Scale, length_of, figure_of, foot_of, read_of}
use Rattle.scales.proofs.Laws.{Lawful}
use Rattle.scales.proofs.Alike.{FromFoot, alike}
use Rattle.seen_values.specs.Seen.{Within, from_foot, seen_on}
use Rattle.seen_values.specs.declared.kinds.Seen.TheVariants as seen

module _ {F : Type 0} {same : F → F → Bool} {s : Scale F} (laws : Lawful same s) where
  -- a reading is read as itself
  foot-again : (v : ℕ) → foot_of s (foot_of s v) ≡ foot_of s v
  foot-again v =
      let a : read_of same s (figure_of s (foot_of s v)) ≡ Some (foot_of s (foot_of s v)) = laws.reads-back (foot_of s v) in
      let b : read_of same s (figure_of s v) ≡ Some (foot_of s v) = laws.reads-back v in
      let c : Some (foot_of s (foot_of s v)) ≡ Some (foot_of s v) = sym a ∙ ap (read_of same s) (laws.again v) ∙ b in
      cc

  -- a class from its foot up to its length, or up to its greatest value
  as-class : (m v : ℕ) (n : Length) → length_of s m ≡ n → foot_of s m ≡ m → FromFoot m n v ↔ Within (from_foot m n) v
  as-class m v (Of l) e f =
      let h : m < m + l = rw f at (laws.within m l e) in
      (λ (a, b). (a, omega (arith, b, h)), λ (a, b). (a, omega (arith, b, h)))
  as-class m v Open e f = (λ h. h, λ h. h)

  -- The values that come back as m are those that may have been seen where m is read, and no others.
  pub seen-exactly : (m v : ℕ) → (foot_of s v ≡ m) ↔ Within (seen_on s m) v
  unfolding seen_on
  seen-exactly m v = go (eqb (foot_of s m) m) refl
    where
      go : (b : Bool) → eqb (foot_of s m) m ≡ b → (foot_of s v ≡ m) ↔ Within (cond b (from_foot m (length_of s m)) seen.Nothing) v
      go true e = let f = eqb-true (foot_of s m) m e in Iff.trans (alike laws m f v) (as-class m v (length_of s m) refl f)
      go false e = (λ g. absurd (eqb-false (foot_of s m) m e (rw g at (foot-again v))), λ n. absurd n)
