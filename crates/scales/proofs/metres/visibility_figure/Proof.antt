-- `scales::metres::visibility_figure` meets its contract: each branch is a run of the scale.
-- Assumes nothing.
use Rattle.std.specs.Prelude.{Some}
use mathlib.Core.Path.{◌≡◌, refl, ◌∙◌}
use mathlib.Core.List.{◌++◌}
use Prim.Native.Nat.{ℕ, ◌-◌, ◌*◌, ◌/◌, ◌≤◌, ◌<◌}
use native.Mathlib.Omega.{arith}
use borrow.Author.Rules.{rules}
use Rattle.scales.specs.Scale.{run, steps, rising}
use Rattle.scales.specs.Metres.{visibility, class, metres_figure}
use Rattle.scales.proofs.Answers.{class-is, too_far}
use Rattle.scales.proofs.Runs.{plain, before, inside, under, beyond, top}
use Rattle.scales.proofs.metres.visibility_figure.Statement.{statement}
use Rattle.scales.proofs.metres.visibility_figure.Tie as tie

module _ (v : ℕ) where
  by-50 : v < 800 → Some (v / 50 * 50) ≡ metres_figure visibility v
  unfolding visibility run rising
  by-50 h =
      class-is visibility v (omega arith)
      (inside plain 50 50 15 0 0 _ v (v / 50) (before plain 100 100 41 800 800 _ v h) (omega arith) (omega arith) (omega arith))
      (omega arith)

  by-100 : 800 ≤ v → v < 5000 → Some (v / 100 * 100) ≡ metres_figure visibility v
  unfolding visibility run rising
  by-100 l h =
      class-is visibility v (omega arith)
      (beyond _ (steps 15 50 50 50 50) (class 800 800) _ v refl l
      ∙ inside plain 100 100 41 800 800 _ v (v / 100 - 8) (before plain 1000 1000 4 5000 5000 _ v h) (omega arith) (omega arith) (omega arith))
      (omega arith)

  by-1000 : 5000 ≤ v → v < 10000 → Some (v / 1000 * 1000) ≡ metres_figure visibility v
  unfolding visibility run rising
  by-1000 l h =
      class-is visibility v (omega arith)
      (beyond _ (steps 15 50 50 50 50 ++ steps 42 800 100 800 100) (class 5000 5000) _ v refl l
      ∙ inside plain 1000 1000 4 5000 5000 _ v (v / 1000 - 5) (under _ _ v h) (omega arith) (omega arith) (omega arith))
      (omega arith)

  over : 10000 ≤ v → v ≤ 99999 → Some 9999 ≡ metres_figure visibility v
  unfolding visibility run rising
  over l h =
      class-is visibility v (omega arith)
      (top _ (steps 15 50 50 50 50 ++ (steps 42 800 100 800 100 ++ steps 5 5000 1000 5000 1000)) (class 10000 9999) v refl l)
      refl

pub visibility_figure_spec : {M : Type 1} → statement M
visibility_figure_spec =
    tie.close
    (tie.spec
    (λ c. search rules) (λ c. search rules) (λ c. search rules)
    (λ c. by-50 _ (omega arith))
    (λ c. by-100 _ (omega arith) (omega arith))
    (λ c. by-1000 _ (omega arith) (omega arith))
    (λ c. over _ (omega arith) (omega arith))
    (λ c. too_far visibility _ (omega arith)))
