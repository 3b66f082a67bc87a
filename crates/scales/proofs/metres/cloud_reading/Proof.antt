-- `scales::metres::cloud_reading` meets its contract: each branch is a run of the scale, or no class has the figure.
-- Assumes nothing.
use Rattle.std.specs.Prelude.{None, Some}
use mathlib.Core.Path.{◌≡◌, refl, sym, ◌∙◌}
use mathlib.Core.Logic.{◌⊎◌, inl, inr, ⊎_elim}
use Prim.Native.Nat.{ℕ, ◌-◌, ◌*◌, ◌/◌, ◌%◌, ◌≤◌, ◌<◌}
use native.Mathlib.Omega.{arith}
use lib.Dec.{eqb}
use borrow.Author.Rules.{rules}
use borrow.Author.Tests.{ne_eqb}
use Rattle.scales.specs.Scale.{run, read_in}
use Rattle.scales.specs.Metres.{cloud, metres_reading}
use Rattle.scales.proofs.Answers.{read_is, foot-is}
use Rattle.scales.proofs.Runs.{skip, meet, other}
use Rattle.scales.proofs.metres.cloud_reading.Statement.{statement}
use Rattle.scales.proofs.metres.cloud_reading.Tie as tie

module _ (f : ℕ) where
  by-30 : f ≤ 100 → Some (f * 30) ≡ metres_reading cloud f
  unfolding cloud run
  by-30 h = foot-is cloud f (meet 30 1 f 101 0 0 _ f (omega arith) (omega arith) (omega arith)) (omega arith)

  by-300 : 100 < f → f ≤ 990 → f % 10 ≡ 0 → Some (f / 10 * 300) ≡ metres_reading cloud f
  unfolding cloud run
  by-300 l h d =
      foot-is
      cloud
      f
      (skip 30 1 f 101 0 0 _ (λ k m e. omega arith)
      ∙ meet 300 10 f 89 3300 110 _ (f / 10 - 11) (omega arith) (omega arith) (omega arith))
      (omega arith)

  over : f ≡ 999 → Some 30000 ≡ metres_reading cloud f
  unfolding cloud run read_in
  over e = rw e (read_is cloud 999 refl)

  unused : 100 < f → (f ≡ 999 → ⊥) → ((f % 10 ≡ 0 → ⊥) ⊎ (990 < f)) → None ≡ metres_reading cloud f
  unfolding cloud run
  unused l n h =
      read_is
      cloud
      f
      (skip 30 1 f 101 0 0 _ (λ k m e. omega arith)
      ∙ skip 300 10 f 89 3300 110 _ (λ k m e. ⊎_elim (λ w. omega arith) (λ w. omega arith) h)
      ∙ other eqb _ f (ne_eqb 999 f (λ e. n (sym e))))

pub cloud_reading_spec : {M : Type 1} → statement M
cloud_reading_spec =
    tie.close
    (tie.spec
    (λ c. search rules) (λ c. search rules)
    (λ c. by-30 _ (omega arith))
    (λ c. by-300 _ (omega arith) (omega arith) c.if-figure-eq0.true)
    (λ c. unused _ (omega arith) (λ e. omega arith) (inl c.if-figure-eq0.false))
    (λ c. over _ c.if-figure-eq999.true)
    (λ c. unused _ (omega arith) c.if-figure-eq999.false (inr (omega arith))))
