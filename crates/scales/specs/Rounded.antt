-- "The scales and how far off": Q, rain and direction.
-- Assumes nothing: these are definitions.
use Rattle.std.specs.Prelude.{ℕ, ◌+◌, ◌-◌, ◌*◌, ◌/◌, ◌%◌, Bool, true, cond, ◌&&◌, ◌||◌, leb, ltb, eqb, None, Option, Some}
use Rattle.scales.specs.declared.kinds.Rain.{Rain}
use Rattle.scales.specs.declared.kinds.Rain.TheVariants as rain

-- "Q is rounded down to a whole hPa, 0000-9999": a value in tenths of hPa
unfoldable pub pressure_figure : ℕ → Option ℕ
pressure_figure v = cond (leb v 99999) (Some (v / 10)) None

unfoldable pub pressure_reading : ℕ → Option ℕ
pressure_reading f = cond (leb f 9999) (Some (f * 10)) None

-- the reading of a value: what its figure is read as
unfoldable pub rounded_pressure : ℕ → ℕ
rounded_pressure v = v / 10 * 10

-- "rain is trace or 0.1 to 9,999.9 mm, from 1.0 mm written to the nearest mm, halves up"; "989 (from 988.5 mm) is open and is read 989.0"
abbrev pub rain_fits : Rain → Bool
rain_fits rain.Trace = true
rain_fits (rain.Tenths t) = leb 1 t && leb t 99999

-- "6RRRt: 001-988 mm, 989 that or more, 990 trace, 991-999 0.1-0.9 mm; 000 is 5."
unfoldable pub rain_figure : Rain → Option ℕ
rain_figure rain.Trace = Some 990
rain_figure (rain.Tenths t) =
    cond (eqb t 0 || ltb 99999 t) None
    (cond (ltb t 10) (Some (990 + t)) (cond (ltb t 9885) (Some ((t + 5) / 10)) (Some 989)))

unfoldable pub rain_reading : ℕ → Option Rain
rain_reading f =
    cond (eqb f 0 || ltb 999 f) None
    (cond (leb f 989) (Some (rain.Tenths (f * 10))) (cond (eqb f 990) (Some rain.Trace) (Some (rain.Tenths (f - 990)))))

-- the reading of an amount: "from 1.0 mm written to the nearest mm, halves up", 989.0 from 988.5 mm on
unfoldable pub rounded_rain : Rain → Rain
rounded_rain rain.Trace = rain.Trace
rounded_rain (rain.Tenths t) = cond (ltb t 10) (rain.Tenths t) (cond (ltb t 9885) (rain.Tenths ((t + 5) / 10 * 10)) (rain.Tenths 9890))

-- "Trace is least."
unfoldable pub rain_rank : Rain → ℕ
rain_rank rain.Trace = 0
rain_rank (rain.Tenths t) = t

-- "A record's direction is calm, variable, missing or 0-359; the last rounds to tens, halves up, 0 written as 36 or 360 and read as 0"
-- the figure is in tens of degrees, 1 to 36
unfoldable pub direction_figure : ℕ → Option ℕ
direction_figure d =
    cond (ltb 359 d) None (cond (ltb d 5) (Some 36) (Some ((d + 5) / 10)))

unfoldable pub direction_reading : ℕ → Option ℕ
direction_reading f = cond (eqb f 0 || ltb 36 f) None (Some (f * 10 % 360))

-- the reading of a direction
unfoldable pub rounded_direction : ℕ → ℕ
rounded_direction d = (d + 5) / 10 * 10 % 360

-- the same in three figures, a zero after the tens: "ddd 010-360 by tens"; 000 where a direction is out of range
abbrev pub with_zero : Option ℕ → ℕ
with_zero (Some f) = f * 10
with_zero None = 0

abbrev pub ddd_figure : ℕ → ℕ
ddd_figure d = with_zero (direction_figure d)

abbrev pub ddd_reading : ℕ → Option ℕ
ddd_reading f = cond (eqb (f % 10) 0) (direction_reading (f / 10)) None
