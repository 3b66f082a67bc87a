-- What may have been seen where Q, rain, a direction or an aerodrome temperature is read.
-- Assumes nothing: these are definitions.
use Rattle.std.specs.Prelude.{ℕ, ◌+◌, ◌-◌, ◌%◌, ◌≤◌, ◌≡◌, true, cond, ltb, eqb, ℤ, nat_abs, None, Option, Some}
use Rattle.std.specs.Int.Signed.{le_z}
use Rattle.figures.specs.Signed.{negative}
use Rattle.scales.specs.Degrees.{signed_reading}
use Rattle.scales.specs.declared.kinds.Rain.{Rain}
use Rattle.scales.specs.declared.kinds.Rain.TheVariants as rain
use Rattle.seen_values.specs.Seen.{Within}
use Rattle.seen_values.specs.declared.kinds.Seen.{Seen}
use Rattle.seen_values.specs.declared.kinds.Seen.TheVariants as seen
use Rattle.seen_values.specs.declared.kinds.DegreesSeen.{DegreesSeen}
use Rattle.seen_values.specs.declared.kinds.RainSeen.{RainSeen}
use Rattle.seen_values.specs.declared.kinds.RainSeen.TheVariants as amount
use Rattle.seen_values.specs.declared.kinds.Arc.{Arc}

-- ---- Q, "rounded down to a whole hPa": ten tenths from a whole hPa on
unfoldable pub seen_pressure : ℕ → Seen
seen_pressure t = cond (ltb 99999 t) seen.Nothing (cond (eqb (t % 10) 0) (seen.Between t (t + 9)) seen.Nothing)

-- ---- rain: below 1.0 mm exact, "from 1.0 mm written to the nearest mm, halves up", so that 1.0 has no half below it; "989 (from 988.5 mm) is open"
unfoldable pub seen_tenths : ℕ → Seen
seen_tenths t =
    cond (eqb t 0) seen.Nothing
    (cond (ltb t 10) (seen.Between t t)
    (cond (eqb t 10) (seen.Between 10 14)
    (cond (eqb t 9890) (seen.From 9885)
    (cond (ltb 9890 t) seen.Nothing (cond (eqb (t % 10) 0) (seen.Between (t - 5) (t + 4)) seen.Nothing)))))

unfoldable pub seen_rain : Rain → RainSeen
seen_rain rain.Trace = amount.Trace
seen_rain (rain.Tenths t) = amount.Tenths (seen_tenths t)

-- trace is a case of its own
abbrev pub WithinRain : RainSeen → Rain → Type 0
WithinRain amount.Trace r = r ≡ rain.Trace
WithinRain (amount.Tenths s) rain.Trace = ⊥
WithinRain (amount.Tenths s) (rain.Tenths t) = Within s t

abbrev pub arc_of : ℕ → ℕ → Arc
arc_of first last = record { first = first; last = last }

-- ---- directions, "to tens, halves up": five degrees before to four after, on the circle
unfoldable pub seen_direction : ℕ → Option Arc
seen_direction d = cond (ltb 359 d) None (cond (eqb (d % 10) 0) (Some (arc_of ((d + 355) % 360) (d + 4))) None)

-- no further clockwise from the first than the last is
abbrev pub WithinArc : Option Arc → ℕ → Type 0
WithinArc (Some x) d = (d + 360 - x.first) % 360 ≤ (x.last + 360 - x.first) % 360
WithinArc None d = ⊥

-- ---- aerodrome temperature, by the sign and the magnitude of the reading and of both ends: "halves up"; "-0.5 to -0.1 is written M00, which is read as
-- -0.3. Class 00 holds 0.0 to 0.4."
abbrev pub spread : ℕ → ℕ → ℕ → DegreesSeen
spread sign least greatest = record { least = signed_reading sign least; greatest = signed_reading sign greatest }

abbrev pub no_degrees : DegreesSeen
no_degrees = record { least = None; greatest = None }

-- around zero a class of its own; of the other numbers only whole degrees are readings
unfoldable pub of_degrees : ℕ → DegreesSeen → DegreesSeen → ℕ → DegreesSeen
of_degrees near around whole m =
    cond (eqb m near) around (cond (ltb m 10) no_degrees (cond (ltb 990 m) no_degrees (cond (eqb (m % 10) 0) whole no_degrees)))

abbrev pub seen_cold : ℕ → DegreesSeen
seen_cold m = of_degrees 3 (spread 1 5 1) (spread 1 (m + 5) (m - 4)) m

abbrev pub seen_warm : ℕ → DegreesSeen
seen_warm m = of_degrees 0 (spread 0 0 4) (spread 0 (m - 5) (m + 4)) m

unfoldable pub seen_degrees : ℤ → DegreesSeen
seen_degrees t = cond (negative t) (seen_cold (nat_abs t)) (seen_warm (nat_abs t))

abbrev pub AtLeast : Option ℤ → ℤ → Type 0
AtLeast (Some least) t = le_z least t ≡ true
AtLeast None t = ⊥

abbrev pub AtMost : Option ℤ → ℤ → Type 0
AtMost (Some greatest) t = le_z t greatest ≡ true
AtMost None t = ⊥

abbrev pub WithinDegrees : DegreesSeen → ℤ → Type 0
WithinDegrees s t = AtLeast s.least t × AtMost s.greatest t
