-- Directions by their bands, and their laws: how far off on the circle, and what is written reads back.
-- Assumes nothing.
use Rattle.std.specs.Prelude.{None, Some}
use mathlib.Core.Path.{◌≡◌, refl, sym, ap, ◌∙◌}
use mathlib.Core.Bool.{Bool, true, false, cond, ◌&&◌}
use mathlib.Core.List.{[], ◌∷◌, ◌++◌}
use mathlib.Core.Logic.{◌⊎◌, inl, inr, ⊎_elim}
use Prim.Native.Nat.{ℕ, ◌+◌, ◌-◌, ◌*◌, ◌/◌, ◌%◌, ◌≤◌, ◌<◌}
use native.Mathlib.Omega.{arith}
use lib.Dec.{leb, eqb}
use borrow.Author.Tests.{lt-ltb, le-ltb, le-leb, lt-leb, eq-eqb, ne_eqb, eqb-true}
use Rattle.figures.specs.Figures.{figures, number_text, field_text}
use Rattle.figures.specs.declared.kinds.Field.TheVariants as field
use Rattle.figures.proofs.Impossible.{impossible}
use Rattle.scales.specs.Fields.{field_by}
use Rattle.scales.specs.Rounded.{direction_figure, direction_reading, rounded_direction, ddd_figure, ddd_reading}
use Rattle.scales.proofs.Laws.{reached}
use Rattle.scales.proofs.Rounds.{Rounds, rounds}

module _ (d : ℕ) where
  pub north-written : d < 5 → Some 36 ≡ direction_figure d
  unfolding direction_figure
  north-written h = rw (le-ltb 359 d (omega arith), lt-ltb d 5 h)

  pub tens-written : 5 ≤ d → d ≤ 359 → Some ((d + 5) / 10) ≡ direction_figure d
  unfolding direction_figure
  tens-written l h = rw (le-ltb 359 d h, le-ltb d 5 l)

  pub none_written : 359 < d → None ≡ direction_figure d
  unfolding direction_figure
  none_written h = rw (lt-ltb 359 d h)

module _ (f : ℕ) where
  pub read : 1 ≤ f → f ≤ 36 → Some (f * 10 % 360) ≡ direction_reading f
  unfolding direction_reading
  read l h = rw (ne_eqb f 0 (λ e. omega arith), le-ltb 36 f h)

  pub none_read : (f ≡ 0) ⊎ (36 < f) → None ≡ direction_reading f
  unfolding direction_reading
  none_read h = ⊎_elim (λ e. rw e) (λ l. rw (ne_eqb f 0 (λ e. omega arith), lt-ltb 36 f l)) h

-- a direction in range has a figure from 1 to 36
pub direction-written : (d : ℕ) → d ≤ 359 → (f : ℕ) × (direction_figure d ≡ Some f) × (1 ≤ f) × (f ≤ 36)
direction-written d h =
    ⊎_elim
    (λ l. ((d + 5) / 10, sym (tens-written d l h), omega arith, omega arith))
    (λ l. (36, sym (north-written d l), omega arith, omega arith))
    (reached 5 d)

module _ (d f : ℕ) (w : direction_figure d ≡ Some f) where
  back : direction_reading f ≡ Some (rounded_direction d)
  unfolding rounded_direction
  back =
      ⊎_elim
      (λ h. let i : None ≡ direction_figure d = none_written d h in impossible (cc))
      (λ h. ⊎_elim (λ l. tens l (omega arith)) north (reached 5 d))
      (reached 360 d)
    where
      tens : 5 ≤ d → d ≤ 359 → direction_reading f ≡ Some ((d + 5) / 10 * 10 % 360)
      tens l h =
          let i : Some ((d + 5) / 10) ≡ direction_figure d = tens-written d l h in
          let j : (d + 5) / 10 ≡ f = cc in
          rw j (sym (read f (omega arith) (omega arith)))

      north : d < 5 → direction_reading f ≡ Some ((d + 5) / 10 * 10 % 360)
      north h =
          let i : Some 36 ≡ direction_figure d = north-written d h in
          let j : 36 ≡ f = cc in
          let k : (d + 5) / 10 * 10 % 360 ≡ 0 = omega arith in
          rw (k, ← j) (sym (read 36 (omega arith) (omega arith)))

own : (f d : ℕ) → direction_reading f ≡ Some d → direction_figure d ≡ Some f
own f d e =
    ⊎_elim
    (λ h. none (inr h))
    (λ h. ⊎_elim (λ l. used l (omega arith)) (λ l. none (inl (omega arith))) (reached 1 f))
    (reached 37 f)
  where
    none : (f ≡ 0) ⊎ (36 < f) → direction_figure d ≡ Some f
    none h =
        let i : None ≡ direction_reading f = none_read f h in
        impossible (cc)

    used : 1 ≤ f → f ≤ 36 → direction_figure d ≡ Some f
    used l h =
        let i : Some (f * 10 % 360) ≡ direction_reading f = read f l h in
        let j : f * 10 % 360 ≡ d = cc in
        ⊎_elim
        (λ m. let k : (d + 5) / 10 ≡ f = omega arith in sym (tens-written d m (omega arith)) ∙ ap Some k)
        (λ m. let k : 36 ≡ f = omega arith in sym (north-written d m) ∙ ap Some k)
        (reached 5 d)

pub direction-rounds : Rounds (λ d f. direction_figure d ≡ Some f) (λ f d. direction_reading f ≡ Some d) (λ f. direction_reading f ≡ None) rounded_direction
direction-rounds = rounds back own (λ f d u e. impossible (cc))

-- value less reading is -5 to 4 on the circle: five more is 0 to 9
pub direction-near : (d : ℕ) → d ≤ 359 → (d + 365 - rounded_direction d) % 360 ≤ 9
unfolding rounded_direction
direction-near d h = omega arith

-- the reading is a direction again
pub rounded-below : (d : ℕ) → rounded_direction d < 360
unfolding rounded_direction
rounded-below d = omega arith

-- ---- in three figures

-- 010 to 360 by tens are read, 360 as north
pub ddd-is : (f : ℕ) → ddd_reading f ≡ cond (eqb (f % 10) 0 && leb 10 f && leb f 360) (Some (f % 360)) None
ddd-is f = go (eqb (f % 10) 0) refl
  where
    tens : f % 10 ≡ 0 → direction_reading (f / 10) ≡ cond (leb 10 f && leb f 360) (Some (f % 360)) None
    tens z =
        ⊎_elim
        (λ l.
        ⊎_elim
        (λ h.
        let is : Some (f / 10 * 10 % 360) ≡ direction_reading (f / 10) = read (f / 10) (omega arith) (omega arith) in
        let same : f / 10 * 10 % 360 ≡ f % 360 = omega arith in
        rw (le-leb 10 f l, le-leb f 360 h, ← is, same))
        (λ h. rw (le-leb 10 f l, lt-leb f 360 h, ← none_read (f / 10) (inr (omega arith))))
        (reached f 360))
        (λ l. rw (lt-leb 10 f l, ← none_read (f / 10) (inl (omega arith))))
        (reached 10 f)

    go : (b : Bool) → eqb (f % 10) 0 ≡ b
        → cond b (direction_reading (f / 10)) None ≡ cond (b && leb 10 f && leb f 360) (Some (f % 360)) None
    go true e = tens (eqb-true (f % 10) 0 e)
    go false e = refl

-- every direction has three figures
pub ddd-most : (d : ℕ) → ddd_figure d ≤ 360
ddd-most d =
    ⊎_elim
    (λ h. rw (← none_written d h) (omega arith))
    (λ h. let w = direction-written d (omega arith) in rw w.1 (omega (arith, w.3)))
    (reached 360 d)

module _ (d : ℕ) (h : d ≤ 359) where
  pub ddd-some : eqb (ddd_figure d) 0 ≡ false
  ddd-some = let w = direction-written d h in rw w.1 (ne_eqb (w.0 * 10) 0 (λ e. omega (arith, w.2)))

  pub ddd-back : ddd_reading (ddd_figure d) ≡ Some (rounded_direction d)
  ddd-back =
      let w = direction-written d h in
      let f = w.0 in
      let tens : f * 10 / 10 ≡ f = omega arith in
      rw (w.1, eq-eqb (f * 10 % 10) 0 (omega arith), tens) (direction-rounds.back d f w.1)

  pub ddd-again : ddd_figure (rounded_direction d) ≡ ddd_figure d
  ddd-again = let w = direction-written d h in rw (w.1, direction-rounds.again d w.0 w.1)

-- ---- as text

-- a figure that is written is at most 36
pub figure-most : (d f : ℕ) → direction_figure d ≡ Some f → f ≤ 36
figure-most d f e =
    ⊎_elim
    (λ h. let i : None ≡ direction_figure d = none_written d h in impossible (cc))
    (λ h.
    let w = direction-written d (omega arith) in
    let i : direction_figure d ≡ Some w.0 = w.1 in
    let j : w.0 ≡ f = cc in
    omega (arith, w.3))
    (reached 360 d)

-- the two figures of a number below a hundred
pub two-figures : (f : ℕ) → f < 100 → ((48 + f / 10) ∷ (48 + f % 10) ∷ []) ≡ field_text 2 (field.Number f)
unfolding field_text number_text figures
two-figures f h = let e : f / 10 % 10 ≡ f / 10 = omega arith in rw e refl

-- ddd is dd with a zero after it
pub three-figures : (d : ℕ) → d ≤ 359 → figures 3 (ddd_figure d) ≡ field_text 2 (field_by (direction_figure d)) ++ (48 ∷ [])
unfolding field_text number_text figures
three-figures d h =
    let w = direction-written d h in
    let f = w.0 in
    let tens : f * 10 / 10 ≡ f = omega arith in
    let zero : f * 10 % 10 ≡ 0 = omega arith in
    rw (w.1, tens, zero) refl
