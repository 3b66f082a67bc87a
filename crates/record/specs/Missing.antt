-- Nothing is said: a number, a temperature, a direction, a speed or the letters of a name are not there. And what a number that is there has to be.
-- Assumes nothing: these are definitions.
use Rattle.std.specs.Prelude.{ℕ, Bool, true, false, ◌&&◌, List, leb, eqb, None, Option, Some}
use Rattle.figures.specs.Figures.{every}
use Rattle.record.specs.declared.values.Direction.{Direction}
use Rattle.record.specs.declared.values.Direction.TheVariants as direction
use Rattle.record.specs.declared.values.Speed.{Speed}
use Rattle.record.specs.declared.values.Speed.TheVariants as speed

abbrev pub is_missing : {A : Type 0} → Option A → Bool
is_missing None = true
is_missing (Some x) = false

abbrev pub no_direction : Direction → Bool
no_direction direction.Missing = true
no_direction direction.Calm = false
no_direction direction.Variable = false
no_direction (direction.Degrees d) = false

abbrev pub no_speed : Speed → Bool
no_speed speed.Missing = true
no_speed (speed.Is s) = false
no_speed (speed.Above s) = false

-- a speed of zero, which goes with calm
abbrev pub is_still : Speed → Bool
is_still speed.Missing = false
is_still (speed.Is s) = eqb s 0
is_still (speed.Above s) = false

-- a slot that holds no letter is 0
abbrev pub no_letters : List ℕ → Bool
no_letters l = every (λ b. eqb b 0) l

-- ---- a number that has to be there, and one that may be missing

abbrev pub between : ℕ → ℕ → ℕ → Bool
between low high n = leb low n && leb n high

abbrev pub present : (ℕ → Bool) → Option ℕ → Bool
present ok None = false
present ok (Some n) = ok n

abbrev pub optional : (ℕ → Bool) → Option ℕ → Bool
optional ok None = true
optional ok (Some n) = ok n
