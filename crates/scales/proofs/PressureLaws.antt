-- Q in and out of range, and its laws: how far off, the order, and what is written reads back.
-- Assumes nothing.
use Rattle.std.specs.Prelude.{None, Some}
use mathlib.Core.Path.{◌≡◌, refl, sym, ◌∙◌}
use mathlib.Core.Bool.{true}
use mathlib.Core.Logic.{⊎_elim}
use Prim.Native.Nat.{ℕ, ◌+◌, ◌*◌, ◌/◌, ◌≤◌, ◌<◌}
use native.Mathlib.Omega.{arith}
use lib.Dec.{leb}
use borrow.Author.Tests.{le-leb, lt-leb, leb-true}
use Rattle.figures.proofs.Impossible.{impossible}
use Rattle.scales.specs.Metres.{metres_figure, metres_reading}
use Rattle.scales.specs.Rounded.{pressure_figure, pressure_reading, rounded_pressure}
use Rattle.scales.proofs.Laws.{reached}
use Rattle.scales.proofs.Rounds.{Rounds, rounds}
use Rattle.scales.proofs.Answers.{class-is, too_far, read_is}
use Rattle.scales.proofs.PressureScale.{pressures, pressures-rounds, pressure-class, pressure-read, pressure-unread}

module _ (v : ℕ) where
  pub written : v ≤ 99999 → Some (v / 10) ≡ pressure_figure v
  unfolding pressure_figure
  written h = rw (le-leb v 99999 h)

  pub none_written : 99999 < v → None ≡ pressure_figure v
  unfolding pressure_figure
  none_written h = rw (lt-leb v 99999 h)

module _ (f : ℕ) where
  pub read : f ≤ 9999 → Some (f * 10) ≡ pressure_reading f
  unfolding pressure_reading
  read h = rw (le-leb f 9999 h)

  pub none_read : 9999 < f → None ≡ pressure_reading f
  unfolding pressure_reading
  none_read h = rw (lt-leb f 9999 h)

back : (v f : ℕ) → pressure_figure v ≡ Some f → pressure_reading f ≡ Some (rounded_pressure v)
unfolding rounded_pressure
back v f w =
    ⊎_elim
    (λ h. let i : Some (v / 10) ≡ pressure_figure v = written v h in let j : v / 10 ≡ f = cc in rw j (sym (read f (omega arith))))
    (λ h. let i : None ≡ pressure_figure v = none_written v h in impossible (cc))
    (reached v 99999)

-- ---- Q's answers are those of its scale
pub figure-is : (v : ℕ) → pressure_figure v ≡ metres_figure pressures v
figure-is v =
    ⊎_elim
    (λ h. sym (written v h) ∙ class-is pressures v h (pressure-class v h) refl)
    (λ h. sym (none_written v h) ∙ too_far pressures v h)
    (reached v 99999)

pub reading-is : (f : ℕ) → pressure_reading f ≡ metres_reading pressures f
reading-is f =
    ⊎_elim
    (λ h. sym (read f h) ∙ read_is pressures f (pressure-read f h))
    (λ h. sym (none_read f h) ∙ read_is pressures f (pressure-unread f h))
    (reached f 9999)

own : (f v : ℕ) → pressure_reading f ≡ Some v → pressure_figure v ≡ Some f
own f v e = figure-is v ∙ pressures-rounds.own f v (sym (reading-is f) ∙ e)

pub pressure-rounds : Rounds (λ v f. pressure_figure v ≡ Some f) (λ f v. pressure_reading f ≡ Some v) (λ f. pressure_reading f ≡ None) rounded_pressure
pressure-rounds = rounds back own (λ f v u e. impossible (cc))

-- a value and its reading: the value less its reading is 0 to 9
abbrev pub PressureNear : ℕ → ℕ → Type 0
PressureNear value read = (read ≤ value) × (value ≤ read + 9)

pub pressure-near : (v : ℕ) → PressureNear v (rounded_pressure v)
unfolding rounded_pressure
pressure-near v = (omega arith, omega arith)

pub pressure-order : (v w : ℕ) → v ≤ w → rounded_pressure v ≤ rounded_pressure w
unfolding rounded_pressure
pressure-order v w h = omega arith

-- what may be written has four figures, and so may its reading; the reading has the same figure, or none, as the value
pub pressure-written : (v : ℕ) → leb v 99999 ≡ true → (f : ℕ) × (pressure_figure v ≡ Some f) × (f ≤ 9999)
pressure-written v e = let h = leb-true v 99999 e in (v / 10, sym (written v h), omega arith)

pub pressure-low : (v : ℕ) → leb v 99999 ≡ true → leb (rounded_pressure v) 99999 ≡ true
pressure-low v e = le-leb (rounded_pressure v) 99999 (omega (arith, (pressure-near v).0, leb-true v 99999 e))

pub pressure-again : (v : ℕ) → pressure_figure (rounded_pressure v) ≡ pressure_figure v
unfolding rounded_pressure
pressure-again v =
    ⊎_elim
    (λ h. pressure-rounds.again v (v / 10) (sym (written v h)) ∙ written v h)
    (λ h. sym (none_written (v / 10 * 10) (omega arith)) ∙ none_written v h)
    (reached v 99999)
