-- The class of a speed: what is read back of a speed that may be written, that its class is its own class, and that order is kept.
-- Assumes nothing.
use Prim.Native.Nat.{ℕ, ◌+◌, ◌≤◌, ◌<◌}
use native.Mathlib.Omega.{arith}
use mathlib.Core.Path.{◌≡◌, refl}
use mathlib.Core.Bool.{Bool, true, false, cond, false≢true}
use lib.Dec.{leb, ltb}
use borrow.Author.Tests.{leb-true, leb-false, ltb-true, ltb-false, eqb-true, le-leb, lt-ltb, le-ltb}
use Rattle.record.specs.declared.values.Speed.{Speed}
use Rattle.record.specs.declared.values.Speed.TheVariants as speed
use Rattle.record.specs.declared.aerodrome.Unit.{Unit}
use Rattle.record.specs.declared.aerodrome.Unit.TheVariants as unit
use Rattle.record.specs.Missing.{no_speed}
use Rattle.elements.specs.Wind.{last_exact, is_over, class_speed, gust_fits, speed_rank}

pub last-small : (u : Unit) → last_exact u ≤ 199
last-small unit.Missing = omega arith
last-small unit.Knots = omega arith
last-small unit.MetresPerSecond = omega arith
last-small unit.KilometresPerHour = omega arith

-- ---- what a speed is read back as: up to the last exact number itself, over it "above" that number, which an "above" is already

pub data SpeedKept (u : Unit) : Speed → Speed → Type 0 where
  no-speed : SpeedKept u speed.Missing speed.Missing
  exact : {n : ℕ} → n ≤ last_exact u → SpeedKept u (speed.Is n) (speed.Is n)
  over : {n : ℕ} → last_exact u < n → SpeedKept u (speed.Is n) (speed.Above (last_exact u))
  above : SpeedKept u (speed.Above (last_exact u)) (speed.Above (last_exact u))

pub speed-kept : (u : Unit) (s : Speed) → gust_fits u s ≡ true → SpeedKept u s (class_speed u s)
speed-kept u speed.Missing h = no-speed
speed-kept u (speed.Is n) h = go (ltb (last_exact u) n) refl
  where
    go : (b : Bool) → ltb (last_exact u) n ≡ b → SpeedKept u (speed.Is n) (cond b (speed.Above (last_exact u)) (speed.Is n))
    go true e = over (ltb-true (last_exact u) n e)
    go false e = exact (ltb-false (last_exact u) n e)
speed-kept u (speed.Above n) h = rw (eqb-true n (last_exact u) h, le-leb (last_exact u) (last_exact u) (omega arith)) above

-- the class of a number up to the last exact one, of one over it, and of what is above it
pub speed-exact : (u : Unit) (n : ℕ) → n ≤ last_exact u → class_speed u (speed.Is n) ≡ speed.Is n
speed-exact u n h = rw (le-ltb (last_exact u) n h)

pub speed-over : (u : Unit) (n : ℕ) → last_exact u < n → class_speed u (speed.Is n) ≡ speed.Above (last_exact u)
speed-over u n h = rw (lt-ltb (last_exact u) n h)

pub speed-above : (u : Unit) → class_speed u (speed.Above (last_exact u)) ≡ speed.Above (last_exact u)
speed-above u = rw (le-leb (last_exact u) (last_exact u) (omega arith))

-- what was read back is its own class, and is missing just where the speed was
pub own-class : {u : Unit} {s q : Speed} → SpeedKept u s q → class_speed u q ≡ q
own-class no-speed = refl
own-class {u} (exact {n} h) = speed-exact u n h
own-class {u} (over h) = speed-above u
own-class {u} above = speed-above u

pub missing-classed : (u : Unit) (s : Speed) → no_speed (class_speed u s) ≡ no_speed s
missing-classed u speed.Missing = refl
missing-classed u (speed.Is n) = go (ltb (last_exact u) n)
  where
    go : (b : Bool) → no_speed (cond b (speed.Above (last_exact u)) (speed.Is n)) ≡ false
    go true = refl
    go false = refl
missing-classed u (speed.Above n) = go (leb (last_exact u) n)
  where
    go : (b : Bool) → no_speed (cond b (speed.Above (last_exact u)) (speed.Above n)) ≡ false
    go true = refl
    go false = refl

-- what holds of "above" the last exact number and of the speed holds of its class
pub class-has : (test : Speed → Bool) (u : Unit) (s : Speed) → test (speed.Above (last_exact u)) ≡ true → test s ≡ true → test (class_speed u s) ≡ true
class-has test u s a h = go (is_over u s)
  where
    go : (b : Bool) → test (cond b (speed.Above (last_exact u)) s) ≡ true
    go true = a
    go false = h

-- ---- order: "above" is greater than each number up to it

over-ranked : (u : Unit) (s : Speed) → is_over u s ≡ true → last_exact u + 1 ≤ speed_rank s
over-ranked u speed.Missing e = absurd (false≢true e)
over-ranked u (speed.Is n) e = omega (arith, ltb-true (last_exact u) n e)
over-ranked u (speed.Above n) e = omega (arith, leb-true (last_exact u) n e)

under-ranked : (u : Unit) (s : Speed) → is_over u s ≡ false → speed_rank s ≤ last_exact u
under-ranked u speed.Missing e = omega arith
under-ranked u (speed.Is n) e = ltb-false (last_exact u) n e
under-ranked u (speed.Above n) e = omega (arith, leb-false (last_exact u) n e)

-- Of two speeds of one unit the greater never comes back smaller.
pub speed-order : (u : Unit) (s t : Speed) → speed_rank s ≤ speed_rank t → speed_rank (class_speed u s) ≤ speed_rank (class_speed u t)
speed-order u s t h = go (is_over u s) (is_over u t) refl refl
  where
    go : (a b : Bool) → is_over u s ≡ a → is_over u t ≡ b
        → speed_rank (cond a (speed.Above (last_exact u)) s) ≤ speed_rank (cond b (speed.Above (last_exact u)) t)
    go true true e f = omega arith
    go true false e f = absurd (omega (arith, over-ranked u s e, under-ranked u t f))
    go false true e f = omega (arith, under-ranked u s e)
    go false false e f = h
