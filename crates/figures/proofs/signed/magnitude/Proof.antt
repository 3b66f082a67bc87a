-- `figures::signed::magnitude` meets its contract: each step of a number below zero towards its magnitude fits, so that what is read back
-- from its bits is the step's number.
-- Assumes nothing.
use mathlib.Core.Path.{◌≡◌, refl, sym, ap, ◌∙◌}
use mathlib.Core.Bool.{true, false, false≢true}
use Prim.Native.Nat.{zero, suc, ◌+◌}
use native.Mathlib.Omega.{arith}
use native.Mathlib.Numerals.{add-one}
use lib.IntN.{ℤ, pos, negsuc, neg_ℤ, nat_abs, ◌+ℤ◌, ◌-ℤ◌, +ℤ_idl, +ℤ_one, neg_ℤ-neg_ℤ, suc_ℤ}
use lib.Dec.{T}
use lib.Signed.{mag, lt_z, non_neg}
use borrow.Author.Rules.{rules}
use mir.Syntax.{w32}
use mir.Val.{SFits, Fits, to_z, of_z}
use mir.ValLaws.{to_z-of_z}
use Rattle.figures.specs.Signed.{negative}
use Rattle.figures.proofs.Signs.{below-zero, magnitude-fits}
use Rattle.figures.proofs.signed.magnitude.Statement.{statement}
use Rattle.figures.proofs.signed.magnitude.Tie as tie

-- a number read back from its bits
abbrev back : ℤ → ℤ
back z = to_z w32 (of_z w32 z)

-- a number below zero: one more than it is, and its magnitude
one_up : (t : ℤ) → negative t ≡ true → suc_ℤ t ≡ neg_ℤ (pos (mag t))
one_up (pos n) h = absurd (false≢true h)
one_up (negsuc zero) h = refl
one_up (negsuc (suc n)) h = refl

under : (t : ℤ) → negative t ≡ true → mag t + 1 ≡ nat_abs t
under (pos n) h = absurd (false≢true h)
under (negsuc n) h = add-one n

-- the steps from a number below zero, as the code goes
module _ {t : ℤ} (f : SFits w32 t) (low : lt_z (back t) (pos 0) ≡ true) where
  is : back t ≡ t
  is = to_z-of_z w32 t f

  below : negative t ≡ true
  below = sym (below-zero t) ∙ ap (λ (z : ℤ). lt_z z (pos 0)) (sym is) ∙ low

  up : back t +ℤ pos 1 ≡ neg_ℤ (pos (mag t))
  up = +ℤ_one (back t) ∙ ap suc_ℤ is ∙ one_up t below

  up_fits : SFits w32 (back t +ℤ pos 1)
  up_fits = rw up (magnitude-fits true (mag t) (omega (arith, f.sfits)))

  over : pos 0 -ℤ back (back t +ℤ pos 1) ≡ pos (mag t)
  over = +ℤ_idl _ ∙ ap neg_ℤ (to_z-of_z w32 _ up_fits ∙ up) ∙ neg_ℤ-neg_ℤ (pos (mag t))

  over-fits : SFits w32 (pos 0 -ℤ back (back t +ℤ pos 1))
  over-fits = rw over (record { sfits = f.sfits })

  last : back (pos 0 -ℤ back (back t +ℤ pos 1)) ≡ pos (mag t)
  last = to_z-of_z w32 _ over-fits ∙ over

-- a number that is not below zero is its magnitude
whole : {t : ℤ} → SFits w32 t → lt_z (back t) (pos 0) ≡ false → T (non_neg (back t)) × Fits w32 (nat_abs (back t))
whole {t = pos n} f left = rw (to_z-of_z w32 (pos n) f) (tt, record { fits = omega (arith, f.sfits) })
whole {t = negsuc n} f left = absurd (false≢true (sym left ∙ ap (λ (z : ℤ). lt_z z (pos 0)) (to_z-of_z w32 (negsuc n) f)))

pub magnitude_spec : {M : Type 1} → statement M
magnitude_spec =
    tie.close
    (tie.spec
    (λ c. up_fits c.ranges.t c.if-t-lt0.true)
    (λ c. over-fits c.ranges.t c.if-t-lt0.true)
    (λ c. rw (last c.ranges.t c.if-t-lt0.true) (tt, record { fits = omega (arith, c.ranges.t.sfits) }))
    (λ c. rw (last c.ranges.t c.if-t-lt0.true) (record { fits = omega (arith, c.ranges.t.sfits) }))
    (λ c. whole c.ranges.t c.if-t-lt0.false)
    (λ c. ap (λ (z : ℤ). nat_abs z + 1) (last c.ranges.t c.if-t-lt0.true) ∙ under c.args.t (below c.ranges.t c.if-t-lt0.true))
    (λ c. search rules))
