-- A value of which nothing is said is the missing one.
-- Assumes nothing.
use Rattle.std.specs.Prelude.{None, Option, Some, is_some, Bool, true, false, not}
use Prim.Native.Nat.{ℕ}
use mathlib.Core.Path.{◌≡◌, refl, sym}
use mathlib.Core.Bool.{false≢true}
use mathlib.Core.List.{List}
use lib.ListN.{length, replicate}
use lib.Dec.{eqb}
use borrow.Author.Tests.{eqb-true}
use Rattle.figures.proofs.Every.{every-is}
use Rattle.record.specs.declared.values.Direction.{Direction}
use Rattle.record.specs.declared.values.Direction.TheVariants as direction
use Rattle.record.specs.declared.values.Speed.{Speed}
use Rattle.record.specs.declared.values.Speed.TheVariants as speed
use Rattle.record.specs.Missing.{is_missing, no_direction, no_speed, no_letters}

pub none-said : {A : Type 0} (x : Option A) → is_missing x ≡ true → x ≡ None
none-said None e = refl
none-said (Some x) e = absurd (false≢true e)

pub direction-blank : (d : Direction) → no_direction d ≡ true → d ≡ direction.Missing
direction-blank direction.Missing e = refl
direction-blank direction.Calm e = absurd (false≢true e)
direction-blank direction.Variable e = absurd (false≢true e)
direction-blank (direction.Degrees d) e = absurd (false≢true e)

pub speed-blank : (s : Speed) → no_speed s ≡ true → s ≡ speed.Missing
speed-blank speed.Missing e = refl
speed-blank (speed.Is s) e = absurd (false≢true e)
speed-blank (speed.Above s) e = absurd (false≢true e)

pub letters-blank : (l : List ℕ) → no_letters l ≡ true → l ≡ replicate (length l) 0
letters-blank l e = every-is (λ b. eqb b 0) 0 (λ b h. eqb-true b 0 h) l e

-- what `is_none` answers
pub missing-by : {A : Type 0} (x : Option A) {r : Bool} → is_some x ≡ not r → r ≡ is_missing x
missing-by {A} x {r} e = go x r e
  where
    go : (x : Option A) (r : Bool) → is_some x ≡ not r → r ≡ is_missing x
    go None true e = refl
    go None false e = absurd (false≢true e)
    go (Some x) true e = absurd (false≢true (sym e))
    go (Some x) false e = refl
