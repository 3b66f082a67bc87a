-- `scales::depth::depth_figure` meets its contract: each branch is a run of the scale, or a class between two.
-- Assumes nothing.
use Rattle.std.specs.Prelude.{Some}
use mathlib.Core.Path.{◌≡◌, refl, ◌∙◌}
use mathlib.Core.List.{◌++◌}
use Prim.Native.Nat.{ℕ, ◌+◌, ◌-◌, ◌/◌, ◌≤◌, ◌<◌}
use native.Mathlib.Omega.{arith}
use borrow.Author.Rules.{rules}
use Rattle.scales.specs.Scale.{run, steps, rising}
use Rattle.scales.specs.Metres.{class, metres_figure}
use Rattle.scales.specs.Depth.{depth}
use Rattle.scales.proofs.Answers.{class-is, too_far}
use Rattle.scales.proofs.Runs.{plain, before, inside, under, beyond, top}
use Rattle.scales.proofs.depth.depth_figure.Statement.{statement}
use Rattle.scales.proofs.depth.depth_figure.Tie as tie

module _ (v : ℕ) where
  by-1 : v < 90 → Some v ≡ metres_figure depth v
  unfolding depth run rising
  by-1 h =
      class-is depth v (omega arith)
      (inside plain 1 1 90 0 0 _ v v (before plain 50 1 5 100 92 _ v (omega arith)) (omega arith) (omega arith) (omega arith))
      (omega arith)

  ninety : 90 ≤ v → v < 100 → Some 90 ≡ metres_figure depth v
  unfolding depth run rising
  ninety l h =
      class-is depth v (omega arith)
      (beyond _ (steps 89 1 1 1 1) (class 90 90) _ v refl l ∙ before plain 50 1 5 100 92 _ v h _)
      refl

  by-50 : 100 ≤ v → v < 400 → Some (90 + v / 50) ≡ metres_figure depth v
  unfolding depth run rising
  by-50 l h =
      class-is depth v (omega arith)
      (beyond _ (steps 90 1 1 1 1) (class 100 92) _ v refl l
      ∙ inside plain 50 1 5 100 92 _ v (v / 50 - 2) (under _ _ v h) (omega arith) (omega arith) (omega arith))
      (omega arith)

  over : 400 ≤ v → v ≤ 99999 → Some 98 ≡ metres_figure depth v
  unfolding depth run rising
  over l h = class-is depth v (omega arith) (top _ (steps 90 1 1 1 1 ++ steps 6 100 50 92 1) (class 400 98) v refl l) refl

pub depth_figure_spec : {M : Type 1} → statement M
depth_figure_spec =
    tie.close
    (tie.spec
    (λ c. search rules)
    (λ c. by-1 _ (omega arith))
    (λ c. ninety _ (omega arith) (omega arith))
    (λ c. by-50 _ (omega arith) (omega arith))
    (λ c. over _ (omega arith) (omega arith))
    (λ c. too_far depth _ (omega arith)))
