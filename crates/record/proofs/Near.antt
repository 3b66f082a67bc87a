-- How a rounded value of the record is read back, for every kind of report: as the reading of its class, a number on a scale that rounds down not above its
-- value and within its class, a direction near on the circle.
-- Assumes nothing.
use Rattle.std.specs.Prelude.{None, Option, Some}
use Prim.Native.Nat.{ℕ, ◌+◌, ◌-◌, ◌%◌, ◌≤◌, ◌<◌}
use mathlib.Core.Path.{◌≡◌, refl}
use mathlib.Core.Bool.{Bool, true}
use lib.Dec.{leb}
use borrow.Author.Tests.{leb-true}
use Rattle.scales.specs.Scale.{Scale}
use Rattle.scales.specs.Rounded.{rounded_direction}
use Rattle.scales.proofs.Laws.{Lawful}
use Rattle.scales.proofs.Down.{Down, down}
use Rattle.scales.proofs.DirectionLaws as scale
use Rattle.record.specs.declared.values.Direction.{Direction}
use Rattle.record.specs.declared.values.Direction.TheVariants as direction
use Rattle.record.specs.Classes.{class_on, class_direction}

-- ---- a number on a scale, which may be missing

pub data NumberDown {F : Type 0} (s : Scale F) : Option ℕ → Option ℕ → Type 0 where
  no_number : NumberDown s None None
  lower : {m n : ℕ} → Down s m n → NumberDown s (Some m) (Some n)

pub number-down : {F : Type 0} {same : F → F → Bool} {s : Scale F} → Lawful same s → (n : Option ℕ) → NumberDown s n (class_on s n)
number-down laws None = no_number
number-down {same = same} {s} laws (Some m) = lower (down same s laws m)

-- ---- directions: the reading of its class; "on the circle, -5 to 4 degrees", so that five more is 0 to 9 round the circle

pub record Near (value read : ℕ) : Type 0 where
  pub class : read ≡ rounded_direction value
  pub below : read < 360
  pub near : (value + 365 - read) % 360 ≤ 9

pub degrees-near : (d : ℕ) → leb d 359 ≡ true → Near d (rounded_direction d)
degrees-near d h = record { class = refl; below = scale.rounded-below d; near = scale.direction-near d (leb-true d 359 h) }

pub data DirectionNear : Direction → Direction → Type 0 where
  no-direction : DirectionNear direction.Missing direction.Missing
  calm : DirectionNear direction.Calm direction.Calm
  variable : DirectionNear direction.Variable direction.Variable
  degrees : {d e : ℕ} → Near d e → DirectionNear (direction.Degrees d) (direction.Degrees e)

-- what is in range: 0 to 359
abbrev pub direction_fits : Direction → Bool
direction_fits direction.Missing = true
direction_fits direction.Calm = true
direction_fits direction.Variable = true
direction_fits (direction.Degrees d) = leb d 359

pub direction-near : (d : Direction) → direction_fits d ≡ true → DirectionNear d (class_direction d)
direction-near direction.Missing h = no-direction
direction-near direction.Calm h = calm
direction-near direction.Variable h = variable
direction-near (direction.Degrees d) h = degrees (degrees-near d h)
