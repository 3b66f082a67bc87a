-- `scales::metres::runway_figure` meets its contract: each branch is a run of the scale.
-- Assumes nothing.
use Rattle.std.specs.Prelude.{Some}
use mathlib.Core.Path.{◌≡◌, refl, ap, ◌∙◌}
use mathlib.Core.List.{[], ◌++◌}
use Prim.Native.Nat.{ℕ, ◌-◌, ◌*◌, ◌/◌, ◌≤◌, ◌<◌}
use native.Mathlib.Omega.{arith}
use borrow.Author.Rules.{rules}
use Rattle.scales.specs.Scale.{run, rising}
use Rattle.scales.specs.Metres.{runway, class, range_figure}
use Rattle.scales.specs.declared.kinds.Range.TheVariants.{Below, Exact, Above}
use Rattle.scales.proofs.Answers.{range-is, range-too-far}
use Rattle.scales.proofs.Runs.{before, inside, under, beyond, top}
use Rattle.scales.proofs.metres.runway_figure.Statement.{statement}
use Rattle.scales.proofs.metres.runway_figure.Tie as tie

module _ (v : ℕ) where
  below : v < 50 → Some (Below 50) ≡ range_figure v
  unfolding runway
  below h = range-is v (omega arith) (before Exact 25 25 13 50 50 _ v h _) refl

  by-25 : 50 ≤ v → v < 400 → Some (Exact (v / 25 * 25)) ≡ range_figure v
  unfolding runway run rising
  by-25 l h =
      range-is v (omega arith)
      (beyond _ [] (class 50 (Exact 50)) _ v refl l
      ∙ inside Exact 25 25 13 50 50 _ v (v / 25 - 2) (before Exact 50 50 7 400 400 _ v h) (omega arith) (omega arith) (omega arith))
      (ap Exact (omega arith))

  by-50 : 400 ≤ v → v < 800 → Some (Exact (v / 50 * 50)) ≡ range_figure v
  unfolding runway run rising
  by-50 l h =
      range-is v (omega arith)
      (beyond _ (run Exact 14 50 25 50 25) (class 400 (Exact 400)) _ v refl l
      ∙ inside Exact 50 50 7 400 400 _ v (v / 50 - 8) (before Exact 100 100 12 800 800 _ v h) (omega arith) (omega arith) (omega arith))
      (ap Exact (omega arith))

  by-100 : 800 ≤ v → v ≤ 2000 → Some (Exact (v / 100 * 100)) ≡ range_figure v
  unfolding runway run rising
  by-100 l h =
      range-is v (omega arith)
      (beyond _ (run Exact 14 50 25 50 25 ++ run Exact 8 400 50 400 50) (class 800 (Exact 800)) _ v refl l
      ∙ inside Exact 100 100 12 800 800 _ v (v / 100 - 8) (under _ _ v (omega arith)) (omega arith) (omega arith) (omega arith))
      (ap Exact (omega arith))

  over : 2000 < v → v ≤ 99999 → Some (Above 2000) ≡ range_figure v
  unfolding runway run rising
  over l h =
      range-is v (omega arith)
      (top _ (run Exact 14 50 25 50 25 ++ (run Exact 8 400 50 400 50 ++ run Exact 13 800 100 800 100)) (class 2001 (Above 2000)) v refl l)
      refl

pub runway_figure_spec : {M : Type 1} → statement M
runway_figure_spec =
    tie.close
    (tie.spec
    (λ c. search rules) (λ c. search rules) (λ c. search rules)
    (λ c. below _ (omega arith))
    (λ c. by-25 _ (omega arith) (omega arith))
    (λ c. by-50 _ (omega arith) (omega arith))
    (λ c. by-100 _ (omega arith) (omega arith))
    (λ c. over _ (omega arith) (omega arith))
    (λ c. range-too-far _ (omega arith)))
