-- What the round trip promises of these groups, in document 01's words: each exact field comes back as it was, each rounded number as the reading of
-- its class, near its value and never above it where the scale rounds down.
-- Assumes nothing.
use Rattle.std.specs.Prelude.{None, Option, Some}
use Prim.Native.Nat.{ℕ}
use mathlib.Core.Path.{◌≡◌, refl}
use mathlib.Core.List.{List, [], ◌∷◌, map}
use lib.IntN.{ℤ}
use Rattle.scales.specs.Metres.{runway}
use Rattle.scales.specs.Degrees.{rounded_degrees}
use Rattle.scales.specs.Rounded.{rounded_pressure}
use Rattle.scales.proofs.MetresLaws.{runway-laws}
use Rattle.scales.proofs.DegreesLaws.{DegreesNear, degrees-near}
use Rattle.scales.proofs.PressureLaws.{PressureNear, pressure-near}
use Rattle.record.specs.declared.aerodrome.Runway.{Runway}
use Rattle.record.specs.declared.aerodrome.Runways.{Runways}
use Rattle.record.specs.declared.aerodrome.Temperatures.{Temperatures}
use Rattle.record.specs.declared.aerodrome.Qnh.{Qnh}
use Rattle.record.proofs.Near.{NumberDown, number-down}
use Rattle.aerodrome_groups.specs.Runway.{class_range, class_runway, class_runways}
use Rattle.aerodrome_groups.specs.Temperatures.{class_tenths, class_temperatures, class_pressure, class_qnh}

-- ---- which number comes back, and how far off

-- a runway range and its reading
pub range-kept : (x : Option ℕ) → NumberDown runway x (class_range x)
range-kept = number-down runway-laws

-- a temperature and its reading, which is that of its class
pub data TenthsKept : Option ℤ → Option ℤ → Type 0 where
  no-tenths : TenthsKept None None
  near-tenths : {t u : ℤ} → u ≡ rounded_degrees t → DegreesNear t u → TenthsKept (Some t) (Some u)

pub tenths-kept : (x : Option ℤ) → TenthsKept x (class_tenths x)
tenths-kept None = no-tenths
tenths-kept (Some t) = near-tenths refl (degrees-near t)

-- Q and its reading, which is that of its class
pub data PressureKept : Option ℕ → Option ℕ → Type 0 where
  no-pressure : PressureKept None None
  near-pressure : {p q : ℕ} → q ≡ rounded_pressure p → PressureNear p q → PressureKept (Some p) (Some q)

pub pressure-kept : (x : Option ℕ) → PressureKept x (class_pressure x)
pressure-kept None = no-pressure
pressure-kept (Some p) = near-pressure refl (pressure-near p)

-- ---- the parts of a record that are read back

-- "The numbers scaled here are the rounded ones; all else in a record .. is carried exactly."
pub record RunwayKept (w q : Runway) : Type 0 where
  pub number : q.number ≡ w.number
  pub side : q.side ≡ w.side
  pub range : NumberDown runway w.range q.range
  pub course : q.course ≡ w.course

pub data EachKept : List Runway → List Runway → Type 0 where
  no-runway : EachKept [] []
  one_more : {w q : Runway} {ws qs : List Runway} → RunwayKept w q → EachKept ws qs → EachKept (w ∷ ws) (q ∷ qs)

pub record RunwaysKept (rs qs : Runways) : Type 0 where
  pub items : EachKept rs.items qs.items
  pub count : qs.count ≡ rs.count

pub record TemperaturesKept (t u : Temperatures) : Type 0 where
  pub air : TenthsKept t.air u.air
  pub dew : TenthsKept t.dew u.dew

pub record QnhKept (p q : Qnh) : Type 0 where
  pub is : PressureKept p.is q.is

runway-kept : (w : Runway) → RunwayKept w (class_runway w)
runway-kept w = record { number = refl; side = refl; range = range-kept w.range; course = refl }

each-kept : (ws : List Runway) → EachKept ws (map class_runway ws)
each-kept [] = no-runway
each-kept (w ∷ ws) = one_more (runway-kept w) (each-kept ws)

pub runways-kept : (rs : Runways) → RunwaysKept rs (class_runways rs)
runways-kept rs = record { items = each-kept rs.items; count = refl }

pub temperatures-kept : (t : Temperatures) → TemperaturesKept t (class_temperatures t)
temperatures-kept t = record { air = tenths-kept t.air; dew = tenths-kept t.dew }

pub qnh-kept : (q : Qnh) → QnhKept q (class_qnh q)
qnh-kept q = record { is = pressure-kept q.is }
