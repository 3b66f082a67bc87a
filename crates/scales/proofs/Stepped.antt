-- Table 4377 over land and table 1677 by steps are one scale in two units: `land` is it by 100 m, `layer_steps` by 30 m. The figures and readings of
-- that scale for any unit, as the code of both has them by branches: a run of the scale, a class between two, or no class at all.
-- Assumes nothing.
use Rattle.std.specs.Prelude.{None, Some}
use mathlib.Core.Path.{◌≡◌, refl, ◌∙◌}
use mathlib.Core.List.{List, [], ◌∷◌, ◌++◌}
use Prim.Native.Nat.{ℕ, ◌+◌, ◌-◌, ◌*◌, ◌/◌, ◌≤◌, ◌<◌}
use native.Mathlib.Nat.{zero-add}
use native.Mathlib.Omega.{arith}
use lib.Dec.{eqb}
use borrow.Author.Tests.{ne_eqb}
use Rattle.scales.specs.Scale.{Class, Scale, run, steps, class_in, read_in}
use Rattle.scales.specs.Metres.{class, metres_figure, metres_reading}
use Rattle.scales.proofs.Answers.{class-is, read_is, foot-is}
use Rattle.scales.proofs.Runs.{plain, before, past, among, under, onto, skip, meet, other, together}

-- 00 to 50 by the unit, 56 to 80 by ten units, 81 to 88 by fifty, and 89 over 700
unfoldable pub stepped : ℕ → Scale ℕ
stepped u =
    record {
      lowest = class 0 0;
      above = steps 50 u u 1 1 ++ (steps 25 (60 * u) (10 * u) 56 1 ++ (steps 8 (350 * u) (50 * u) 81 1 ++ (class (700 * u + 1) 89 ∷ [])));
    }

-- ---- figures: a unit of at most 100 m keeps the values below 89 among those that may be written
module _ (v u : ℕ) (p : 0 < u) (m : u ≤ 100) where
  pub by-one-figure : v < 50 * u → Some (v / u) ≡ metres_figure (stepped u) v
  unfolding stepped run
  by-one-figure h =
      class-is (stepped u) v (omega arith)
      (among plain u 1 50 0 0 u 0 _ v p (omega arith) (omega arith) (before plain (10 * u) 1 24 (60 * u) 56 _ v (omega arith)) (omega arith) (omega arith))
      (omega arith)

  pub fifty-figure : 50 * u ≤ v → v < 60 * u → Some 50 ≡ metres_figure (stepped u) v
  unfolding stepped run
  fifty-figure l h =
      class-is (stepped u) v (omega arith) (past plain u 1 49 u 1 _ v (omega arith) _ ∙ before plain (10 * u) 1 24 (60 * u) 56 _ v h _) refl

  pub by-ten-figure : 60 * u ≤ v → v < 300 * u → Some (50 + v / (10 * u)) ≡ metres_figure (stepped u) v
  unfolding stepped run
  by-ten-figure l h =
      class-is (stepped u) v (omega arith)
      (past plain u 1 49 u 1 _ v (omega arith) _
      ∙ onto _ _ v l _
      ∙ among plain (10 * u) 1 24 6 (60 * u) _ 50 _ v (omega arith) (omega arith) refl
      (before plain (50 * u) 1 7 (350 * u) 81 _ v (omega arith)) l (omega arith))
      (omega arith)

  pub by-fifty-figure : 300 * u ≤ v → v ≤ 700 * u → Some (74 + v / (50 * u)) ≡ metres_figure (stepped u) v
  unfolding stepped run
  by-fifty-figure l h =
      class-is (stepped u) v (omega arith)
      (past plain u 1 49 u 1 _ v (omega arith) _
      ∙ past plain (10 * u) 1 24 (60 * u) 56 _ v (omega arith) _
      ∙ among plain (50 * u) 1 8 6 (60 * u + 24 * (10 * u)) (350 * u) 74 _ v (omega arith) (omega arith) (omega arith)
      (under _ _ v (omega arith)) (omega arith) (omega arith))
      (omega arith)

  pub over-figure : 700 * u < v → v ≤ 99999 → Some 89 ≡ metres_figure (stepped u) v
  unfolding stepped run
  over-figure l h =
      class-is (stepped u) v h
      (past plain u 1 49 u 1 _ v (omega arith) _
      ∙ past plain (10 * u) 1 24 (60 * u) 56 _ v (omega arith) _
      ∙ past plain (50 * u) 1 7 (350 * u) 81 _ v (omega arith) _
      ∙ onto (class (700 * u + 1) 89) _ v (omega arith) _)
      (unfold class_in in refl)

-- ---- readings
module _ (f u : ℕ) where
  -- the lowest class and the run above it are one run
  joined : (rest : List (Class ℕ)) → read_in eqb (class 0 0 ∷ (steps 50 u u 1 1 ++ rest)) f ≡ read_in eqb (steps 51 0 u 0 1 ++ rest) f
  unfolding run
  joined rest = rw (zero-add u)

  pub by-one-reading : f ≤ 50 → Some (f * u) ≡ metres_reading (stepped u) f
  unfolding stepped
  by-one-reading h = foot-is (stepped u) f (joined _ ∙ meet u 1 f 51 0 0 _ f (omega arith) (omega arith) (omega arith)) (omega arith)

  above-fifty : 50 < f → (rest : List (Class ℕ)) → read_in eqb (class 0 0 ∷ (steps 50 u u 1 1 ++ rest)) f ≡ read_in eqb rest f
  above-fifty l rest = joined rest ∙ skip u 1 f 51 0 0 rest (λ k m e. omega arith)

  pub by-ten-reading : 56 ≤ f → f ≤ 80 → Some ((f - 50) * (10 * u)) ≡ metres_reading (stepped u) f
  unfolding stepped
  by-ten-reading l h =
      foot-is (stepped u) f
      (above-fifty (omega arith) _ ∙ meet (10 * u) 1 f 25 (60 * u) 56 _ (f - 56) (omega arith) (omega arith) (omega arith))
      (together (10 * u) 6 (f - 56) (omega arith) (omega arith))

  pub by-fifty-reading : 80 < f → f ≤ 88 → Some ((f - 74) * (50 * u)) ≡ metres_reading (stepped u) f
  unfolding stepped
  by-fifty-reading l h =
      foot-is (stepped u) f
      (above-fifty (omega arith) _
      ∙ skip (10 * u) 1 f 25 (60 * u) 56 _ (λ k m e. omega arith)
      ∙ meet (50 * u) 1 f 8 (350 * u) 81 _ (f - 81) (omega arith) (omega arith) (omega arith))
      (together (50 * u) 7 (f - 81) (omega arith) (omega arith))

  pub over-reading : f ≡ 89 → Some (700 * u + 1) ≡ metres_reading (stepped u) f
  unfolding stepped run read_in
  over-reading e = rw e (read_is (stepped u) 89 refl)

  pub unused-reading : 50 < f → (56 ≤ f → f ≤ 89 → ⊥) → None ≡ metres_reading (stepped u) f
  unfolding stepped
  unused-reading l n =
      read_is (stepped u) f
      (above-fifty l _
      ∙ skip (10 * u) 1 f 25 (60 * u) 56 _ (λ k m e. n (omega arith) (omega arith))
      ∙ skip (50 * u) 1 f 8 (350 * u) 81 _ (λ k m e. n (omega arith) (omega arith))
      ∙ other eqb _ f (ne_eqb 89 f (λ e. n (omega arith) (omega arith))))
