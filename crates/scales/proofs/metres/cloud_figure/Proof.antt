-- `scales::metres::cloud_figure` meets its contract: each branch is a run of the scale, or a class between two.
-- Assumes nothing.
use Rattle.std.specs.Prelude.{Some}
use mathlib.Core.Path.{◌≡◌, refl, ◌∙◌}
use mathlib.Core.List.{◌++◌}
use Prim.Native.Nat.{ℕ, ◌-◌, ◌*◌, ◌/◌, ◌≤◌, ◌<◌}
use native.Mathlib.Omega.{arith}
use borrow.Author.Rules.{rules}
use Rattle.scales.specs.Scale.{run, steps, rising}
use Rattle.scales.specs.Metres.{cloud, class, metres_figure}
use Rattle.scales.proofs.Answers.{class-is, too_far}
use Rattle.scales.proofs.Runs.{plain, before, inside, under, beyond, top}
use Rattle.scales.proofs.metres.cloud_figure.Statement.{statement}
use Rattle.scales.proofs.metres.cloud_figure.Tie as tie

module _ (v : ℕ) where
  by-30 : v < 3000 → Some (v / 30) ≡ metres_figure cloud v
  unfolding cloud run rising
  by-30 h =
      class-is cloud v (omega arith)
      (inside plain 30 1 100 0 0 _ v (v / 30) (before plain 300 10 88 3300 110 _ v (omega arith)) (omega arith) (omega arith) (omega arith))
      (omega arith)

  hundred : 3000 ≤ v → v < 3300 → Some 100 ≡ metres_figure cloud v
  unfolding cloud run rising
  hundred l h =
      class-is cloud v (omega arith)
      (beyond _ (steps 99 30 30 1 1) (class 3000 100) _ v refl l ∙ before plain 300 10 88 3300 110 _ v h _)
      refl

  by-300 : 3300 ≤ v → v < 30000 → Some (v / 300 * 10) ≡ metres_figure cloud v
  unfolding cloud run rising
  by-300 l h =
      class-is cloud v (omega arith)
      (beyond _ (steps 100 30 30 1 1) (class 3300 110) _ v refl l
      ∙ inside plain 300 10 88 3300 110 _ v (v / 300 - 11) (under _ _ v h) (omega arith) (omega arith) (omega arith))
      (omega arith)

  over : 30000 ≤ v → v ≤ 99999 → Some 999 ≡ metres_figure cloud v
  unfolding cloud run rising
  over l h =
      class-is cloud v (omega arith)
      (top _ (steps 100 30 30 1 1 ++ steps 89 3300 300 110 10) (class 30000 999) v refl l)
      refl

pub cloud_figure_spec : {M : Type 1} → statement M
cloud_figure_spec =
    tie.close
    (tie.spec
    (λ c. search rules)
    (λ c. by-30 _ (omega arith))
    (λ c. hundred _ (omega arith) (omega arith))
    (λ c. by-300 _ (omega arith) (omega arith))
    (λ c. over _ (omega arith) (omega arith))
    (λ c. too_far cloud _ (omega arith)))
