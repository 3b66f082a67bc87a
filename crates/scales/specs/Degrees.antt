-- "The scales and how far off": aerodrome temperature; and the signed tenths of SYNOP and SHIP, which are exact.
-- Assumes nothing: these are definitions.
use Rattle.std.specs.Prelude.{ℕ, ◌*◌, Bool, cond, ◌&&◌, ◌||◌, ltb, eqb, ℤ, pos, negsuc, nat_abs, ◌+ℤ◌, ◌*ℤ◌, None, Option, Some}
use Rattle.std.specs.Int.Signed.{le_z, shr_z}
use Rattle.figures.specs.Signed.{negative, with_sign}
use Rattle.scales.specs.declared.kinds.Degrees.{Degrees}

-- "Aerodrome temperature is kept in tenths and written as whole degrees, -99 to 99, halves up (a record may hold -99.5 to 99.4)"

-- what may be written
abbrev pub degrees_fit : ℤ → Bool
degrees_fit t = le_z (negsuc 994) t && le_z t (pos 994)

-- the nearest whole degree, halves up: five tenths more, divided by ten and rounded down
unfoldable pub whole_degrees : ℤ → ℤ
whole_degrees t = shr_z (t +ℤ pos 5) 10

-- Document 02, No. 2: "M now follows the observed value: -0.5 to -0.1 is written M00, which is read as -0.3. Class 00 holds 0.0 to 0.4."

-- the reading of M00 in tenths
abbrev pub minus_zero : ℤ
minus_zero = negsuc 2

-- below zero, and 0 in whole degrees: -0.5 to -0.1
unfoldable pub is_minus_zero : ℤ → Bool
is_minus_zero t = negative t && eqb (nat_abs (whole_degrees t)) 0

-- the reading of a value's class, in tenths
unfoldable pub rounded_degrees : ℤ → ℤ
rounded_degrees t = cond (is_minus_zero t) minus_zero (whole_degrees t *ℤ pos 10)

abbrev pub degrees_with : Bool → ℕ → Degrees
degrees_with minus whole = record { minus = minus; whole = whole }

-- "M now follows the observed value"
unfoldable pub degrees_of : ℤ → Option Degrees
degrees_of t = cond (degrees_fit t) (Some (degrees_with (negative t) (nat_abs (whole_degrees t)))) None

-- "M00 is no longer 5"
unfoldable pub degrees_reading : Bool → ℕ → Option ℤ
degrees_reading minus whole =
    cond (ltb 99 whole) None (Some (cond (minus && eqb whole 0) minus_zero (with_sign minus (whole * 10))))

-- "Value less reading, in tenths: -5 to 4"; "The distance for M00 is -2 to 2 tenths"; 0 to 4 for class 00. How far below a reading its class goes, and how
-- far above.
unfoldable pub far_below : ℤ → ℕ
far_below (negsuc n) = cond (eqb n 2) 2 5
far_below (pos n) = cond (eqb n 0) 0 5

unfoldable pub far_above : ℤ → ℕ
far_above (negsuc n) = cond (eqb n 2) 2 4
far_above (pos n) = 4

-- "1sTTT, 2sTTT tenths of a degree, s 0 or 1; s 1 with 000 is 5": a sign's figure and three figures
unfoldable pub signed_reading : ℕ → ℕ → Option ℤ
signed_reading s ttt =
    cond (ltb 1 s || ltb 999 ttt || (eqb s 1 && eqb ttt 0)) None (Some (with_sign (eqb s 1) ttt))
