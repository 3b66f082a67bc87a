-- `scales::degrees::degrees_figure` meets its contract: each branch is a band of temperatures.
-- Assumes nothing.
use mathlib.Core.Path.{◌≡◌, sym, ap, ◌∙◌}
use mathlib.Core.Bool.{Bool}
use Prim.Native.Nat.{ℕ}
use native.Mathlib.Omega.{arith}
use lib.IntN.{ℤ, nat_abs}
use mir.Syntax.{w32}
use mir.Val.{SFits, to_z, of_z}
use mir.Facts.{to_z-of_z}
use borrow.Author.Rules.{rules}
use Rattle.figures.specs.Signed.{negative}
use Rattle.scales.proofs.DegreesLaws.{below-zero, from_zero, too-cold, too-hot}
use Rattle.scales.proofs.degrees.degrees_figure.Statement.{statement}
use Rattle.scales.proofs.degrees.degrees_figure.Tie as tie

-- the callees speak of the value as its bits give it back
module _ {t : ℤ} (f : SFits w32 t) where
  size : {m : ℕ} → m ≡ nat_abs (to_z w32 (of_z w32 t)) → m ≡ nat_abs t
  size e = e ∙ ap nat_abs (to_z-of_z f)

  sign : {r b : Bool} → r ≡ negative (to_z w32 (of_z w32 t)) → r ≡ b → negative t ≡ b
  sign e g = sym (e ∙ ap negative (to_z-of_z f)) ∙ g

pub degrees_figure_spec : {M : Type 1} → statement M
degrees_figure_spec =
    tie.close
    (tie.spec
    (λ c κs. search rules) (λ c κs. search rules) (λ c. search rules) (λ c. search rules)
    (λ c.
    let f = c.ranges.tenths in
    below-zero _ _ (size f c.magnitude-m.ensures) (sign f c.is_negative.ensures c.if-is_negative.true) (omega arith))
    (λ c.
    let f = c.ranges.tenths in
    too-cold _ _ (size f c.magnitude-m.ensures) (sign f c.is_negative.ensures c.if-is_negative.true) c.if-m-le995.false)
    (λ c.
    let f = c.ranges.tenths in
    from_zero _ _ (size f c.magnitude-m.ensures) (sign f c.is_negative.ensures c.if-is_negative.false) (omega arith))
    (λ c.
    let f = c.ranges.tenths in
    too-hot _ _ (size f c.magnitude-m.ensures) (sign f c.is_negative.ensures c.if-is_negative.false) c.if-m-le994.false))
