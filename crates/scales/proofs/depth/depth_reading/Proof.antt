-- `scales::depth::depth_reading` meets its contract: each branch is a run of the scale, or no class has the figure.
-- Assumes nothing.
use Rattle.std.specs.Prelude.{None, Some}
use mathlib.Core.Path.{◌≡◌, refl, ◌∙◌}
use mathlib.Core.List.{[]}
use mathlib.Core.Logic.{◌⊎◌, inl, inr, ⊎_elim}
use Prim.Native.Nat.{ℕ, ◌-◌, ◌*◌, ◌≤◌, ◌<◌}
use native.Mathlib.Omega.{arith}
use lib.Dec.{eqb}
use borrow.Author.Rules.{rules}
use Rattle.scales.specs.Scale.{run, read_in}
use Rattle.scales.specs.Metres.{metres_reading}
use Rattle.scales.specs.Depth.{depth}
use Rattle.scales.proofs.Answers.{read_is, foot-is}
use Rattle.scales.proofs.Runs.{skip, meet}
use Rattle.scales.proofs.depth.depth_reading.Statement.{statement}
use Rattle.scales.proofs.depth.depth_reading.Tie as tie

module _ (f : ℕ) where
  by-1 : f ≤ 90 → Some f ≡ metres_reading depth f
  unfolding depth run
  by-1 h = foot-is depth f (meet 1 1 f 91 0 0 _ f (omega arith) (omega arith) (omega arith)) (omega arith)

  by-50 : 92 ≤ f → f ≤ 98 → Some ((f - 90) * 50) ≡ metres_reading depth f
  unfolding depth run
  by-50 l h =
      foot-is
      depth
      f
      (skip 1 1 f 91 0 0 _ (λ k m e. omega arith)
      ∙ meet 50 1 f 7 100 92 [] (f - 92) (omega arith) (omega arith) (omega arith))
      (omega arith)

  unread : read_in eqb [] f ≡ None
  unfolding read_in
  unread = refl

  unused : 90 < f → (f < 92) ⊎ (98 < f) → None ≡ metres_reading depth f
  unfolding depth run
  unused l h =
      read_is
      depth
      f
      (skip 1 1 f 91 0 0 _ (λ k m e. omega arith)
      ∙ skip 50 1 f 7 100 92 [] (λ k m e. ⊎_elim (λ w. omega arith) (λ w. omega arith) h)
      ∙ unread)

pub depth_reading_spec : {M : Type 1} → statement M
depth_reading_spec =
    tie.close
    (tie.spec
    (λ c. search rules) (λ c. search rules)
    (λ c. by-1 _ (omega arith))
    (λ c. unused _ (omega arith) (inl (omega arith)))
    (λ c. by-50 _ (omega arith) (omega arith))
    (λ c. unused _ (omega arith) (inr (omega arith))))
