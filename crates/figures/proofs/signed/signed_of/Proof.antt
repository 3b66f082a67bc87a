-- `figures::signed::signed_of` meets its contract: what fits is read back from its bits as it was.
-- Assumes nothing.
use Rattle.std.specs.Prelude.{Some}
use mathlib.Core.Path.{◌≡◌, ap, ◌∙◌}
use mathlib.Core.Bool.{true, false}
use Prim.Native.Nat.{ℕ, ◌≤◌}
use lib.IntN.{ℤ, pos, neg_ℤ, ◌-ℤ◌, +ℤ_idl}
use borrow.Author.Rules.{rules}
use borrow.Author.Tests.{lt-leb}
use mir.Syntax.{w32}
use mir.Val.{SFits, to_z}
use mir.ValLaws.{to_z-of_z}
use Rattle.figures.specs.Signed.{with_sign, signed_of}
use Rattle.figures.proofs.Signs.{signed-in, magnitude-fits}
use Rattle.figures.proofs.signed.signed_of.Statement.{statement}
use Rattle.figures.proofs.signed.signed_of.Tie as tie

-- the number that the bits m hold, and the number below zero that is made of it
plus : {m : ℕ} → m ≤ 2147483647 → to_z w32 m ≡ pos m
plus {m} h = to_z-of_z w32 (pos m) (magnitude-fits false m h)

minus : {m : ℕ} → m ≤ 2147483647 → pos 0 -ℤ to_z w32 m ≡ with_sign true m
minus {m} h = ap (λ (z : ℤ). pos 0 -ℤ z) (plus h) ∙ +ℤ_idl (neg_ℤ (pos m))

fits : {m : ℕ} (h : m ≤ 2147483647) → SFits w32 (pos 0 -ℤ to_z w32 m)
fits {m} h = rw (minus h) (magnitude-fits true m h)

pub signed_of_spec : {M : Type 1} → statement M
signed_of_spec =
    tie.close
    (tie.spec
    (λ c. search rules)
    (λ c. fits c.if-m-le2147483647.true)
    (λ c.
    let h = c.if-m-le2147483647.true in
    rw c.if-minus.true (ap Some (to_z-of_z w32 _ (fits h) ∙ minus h) ∙ signed-in true _ h))
    (λ c.
    let h = c.if-m-le2147483647.true in
    rw c.if-minus.false (ap Some (plus h) ∙ signed-in false _ h))
    (λ c. unfold signed_of in rw (lt-leb _ _ c.if-m-le2147483647.false)))
