-- `scales::metres::exact_reading` meets its contract: each branch is a run of the scale whose figures are its feet.
-- Assumes nothing.
use Rattle.std.specs.Prelude.{None, Some}
use mathlib.Core.Path.{◌≡◌, refl, ◌∙◌}
use mathlib.Core.Logic.{◌⊎◌, inl, inr, ⊎_elim}
use Prim.Native.Nat.{ℕ, ◌+◌, ◌*◌, ◌%◌, ◌≤◌, ◌<◌}
use native.Mathlib.Omega.{arith}
use lib.Dec.{eqb}
use borrow.Author.Rules.{rules}
use mathlib.Core.Bool.{cond}
use mathlib.Core.List.{List, ◌++◌}
use Rattle.scales.specs.Scale.{Class, run, read_in}
use Rattle.scales.specs.declared.kinds.Range.{Range}
use Rattle.scales.specs.Metres.{runway, same_range, range_reading}
use Rattle.scales.specs.declared.kinds.Range.TheVariants.{Exact}
use Rattle.scales.proofs.Answers.{range-read-is}
use Rattle.scales.proofs.Runs.{miss, level}
use Rattle.scales.proofs.metres.exact_reading.Statement.{statement}
use Rattle.scales.proofs.metres.exact_reading.Tie as tie

module _ (f : ℕ) where
  -- a run that has not the figure
  skip : (apart n foot : ℕ) (rest : List (Class Range)) → ((k : ℕ) → k < n → foot + k * apart ≡ f → ⊥)
      → read_in same_range (run Exact n foot apart foot apart ++ rest) (Exact f) ≡ read_in same_range rest (Exact f)
  unfolding same_range
  skip apart n foot = miss Exact apart apart same_range (Exact f) f (λ a. refl) n foot foot

  by-25 : 50 ≤ f → f < 400 → cond (eqb (f % 25) 0) (Some f) None ≡ range_reading (Exact f)
  unfolding runway same_range read_in
  by-25 l h =
      range-read-is
      (Exact f)
      (level Exact 25 (omega arith) same_range (Exact f) f (λ a. refl) 14 2 _ (omega arith) (omega arith)
      (skip 50 8 400 _ (λ k m e. omega arith) ∙ skip 100 13 800 _ (λ k m e. omega arith)))

  by-50 : 400 ≤ f → f < 800 → cond (eqb (f % 50) 0) (Some f) None ≡ range_reading (Exact f)
  unfolding runway same_range read_in
  by-50 l h =
      range-read-is
      (Exact f)
      (skip 25 14 50 _ (λ k m e. omega arith)
      ∙ level Exact 50 (omega arith) same_range (Exact f) f (λ a. refl) 8 8 _ (omega arith) (omega arith)
      (skip 100 13 800 _ (λ k m e. omega arith)))

  by-100 : 800 ≤ f → f ≤ 2000 → cond (eqb (f % 100) 0) (Some f) None ≡ range_reading (Exact f)
  unfolding runway same_range read_in
  by-100 l h =
      range-read-is
      (Exact f)
      (skip 25 14 50 _ (λ k m e. omega arith)
      ∙ skip 50 8 400 _ (λ k m e. omega arith)
      ∙ level Exact 100 (omega arith) same_range (Exact f) f (λ a. refl) 13 8 _ (omega arith) (omega arith) refl)

  unused : (f < 50) ⊎ (2000 < f) → None ≡ range_reading (Exact f)
  unfolding runway same_range read_in
  unused h =
      range-read-is
      (Exact f)
      (skip 25 14 50 _ (λ k m e. ⊎_elim (λ w. omega arith) (λ w. omega arith) h)
      ∙ skip 50 8 400 _ (λ k m e. ⊎_elim (λ w. omega arith) (λ w. omega arith) h)
      ∙ skip 100 13 800 _ (λ k m e. ⊎_elim (λ w. omega arith) (λ w. omega arith) h))

pub exact_reading_spec : {M : Type 1} → statement M
exact_reading_spec =
    tie.close
    (tie.spec
    (λ c κs. search rules) (λ c κs. search rules) (λ c κs. search rules)
    (λ c. unused _ (inl (omega arith)))
    (λ c. c.multiple.ensures ∙ by-25 _ (omega arith) (omega arith))
    (λ c. c.multiple-then-figure-lt800.ensures ∙ by-50 _ (omega arith) (omega arith))
    (λ c. c.multiple-then-figure-le2000.ensures ∙ by-100 _ (omega arith) (omega arith))
    (λ c. unused _ (inr (omega arith))))
