-- `scales::metres::visibility_reading` meets its contract: each branch is a run of the scale whose figures are its feet.
-- Assumes nothing.
use Rattle.std.specs.Prelude.{None, Some}
use mathlib.Core.Path.{◌≡◌, refl, sym, ◌∙◌}
use Prim.Native.Nat.{ℕ, ◌%◌, ◌≤◌, ◌<◌}
use native.Mathlib.Omega.{arith}
use lib.Dec.{eqb}
use borrow.Author.Rules.{rules}
use borrow.Author.Tests.{ne_eqb}
use mathlib.Core.Bool.{cond}
use Rattle.scales.specs.Scale.{run, read_in}
use Rattle.scales.specs.Metres.{visibility, metres_reading}
use Rattle.scales.proofs.Answers.{read_is}
use Rattle.scales.proofs.Runs.{plain, skip, level, other}
use Rattle.scales.proofs.metres.visibility_reading.Statement.{statement}
use Rattle.scales.proofs.metres.visibility_reading.Tie as tie

module _ (f : ℕ) where
  by-50 : f < 800 → cond (eqb (f % 50) 0) (Some f) None ≡ metres_reading visibility f
  unfolding visibility run
  by-50 h =
      read_is
      visibility
      f
      (level plain 50 (omega arith) eqb f f (λ a. refl) 16 0 _ (omega arith) (omega arith)
      (skip 100 100 f 42 800 800 _ (λ k m e. omega arith)
      ∙ skip 1000 1000 f 5 5000 5000 _ (λ k m e. omega arith)
      ∙ other eqb _ f (ne_eqb 9999 f (λ e. omega arith))))

  by-100 : 800 ≤ f → f < 5000 → cond (eqb (f % 100) 0) (Some f) None ≡ metres_reading visibility f
  unfolding visibility run
  by-100 l h =
      read_is
      visibility
      f
      (skip 50 50 f 16 0 0 _ (λ k m e. omega arith)
      ∙ level plain 100 (omega arith) eqb f f (λ a. refl) 42 8 _ (omega arith) (omega arith)
      (skip 1000 1000 f 5 5000 5000 _ (λ k m e. omega arith)
      ∙ other eqb _ f (ne_eqb 9999 f (λ e. omega arith))))

  by-1000 : 5000 ≤ f → f ≤ 9000 → cond (eqb (f % 1000) 0) (Some f) None ≡ metres_reading visibility f
  unfolding visibility run
  by-1000 l h =
      read_is
      visibility
      f
      (skip 50 50 f 16 0 0 _ (λ k m e. omega arith)
      ∙ skip 100 100 f 42 800 800 _ (λ k m e. omega arith)
      ∙ level plain 1000 (omega arith) eqb f f (λ a. refl) 5 5 _ (omega arith) (omega arith)
      (other eqb _ f (ne_eqb 9999 f (λ e. omega arith))))

  over : f ≡ 9999 → Some 10000 ≡ metres_reading visibility f
  unfolding visibility run read_in
  over e = rw e (read_is visibility 9999 refl)

  unused : 9000 < f → (f ≡ 9999 → ⊥) → None ≡ metres_reading visibility f
  unfolding visibility run
  unused l n =
      read_is
      visibility
      f
      (skip 50 50 f 16 0 0 _ (λ k m e. omega arith)
      ∙ skip 100 100 f 42 800 800 _ (λ k m e. omega arith)
      ∙ skip 1000 1000 f 5 5000 5000 _ (λ k m e. omega arith)
      ∙ other eqb _ f (ne_eqb 9999 f (λ e. n (sym e))))

pub visibility_reading_spec : {M : Type 1} → statement M
visibility_reading_spec =
    tie.close
    (tie.spec
    (λ c κs. search rules) (λ c κs. search rules) (λ c κs. search rules)
    (λ c. c.multiple.ensures ∙ by-50 _ (omega arith))
    (λ c. c.multiple-then-figure-lt5000.ensures ∙ by-100 _ (omega arith) (omega arith))
    (λ c. c.multiple-then-figure-le9000.ensures ∙ by-1000 _ (omega arith) (omega arith))
    (λ c. over _ c.if-figure-eq9999.true)
    (λ c. unused _ (omega arith) c.if-figure-eq9999.false))
