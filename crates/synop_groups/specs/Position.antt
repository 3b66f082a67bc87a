-- A ship's position: "Latitude 000-900 and longitude 0000-1800 in tenths; Qc 1 NE, 3 SE, 5 SW, 7 NW. Zero counts as north or east, and 180.0 W is
-- read as 180.0 E; a record's longitude runs from -179.9 to 180.0."
-- Assumes nothing: these are definitions.
use Rattle.std.specs.Prelude.{ℕ, Bool, cond, not, ◌&&◌, ◌||◌, eqb, ℤ}
use Rattle.figures.specs.Signed.{negative, with_sign}

-- the quadrants of table 3333 here
abbrev pub is_quadrant : ℕ → Bool
is_quadrant q = eqb q 1 || eqb q 3 || eqb q 5 || eqb q 7

abbrev pub is_south : ℕ → Bool
is_south q = eqb q 3 || eqb q 5

abbrev pub is_west : ℕ → Bool
is_west q = eqb q 5 || eqb q 7

abbrev pub latitude_of : ℕ → ℕ → ℤ
latitude_of q m = with_sign (is_south q) m

abbrev pub longitude_of : ℕ → ℕ → ℤ
longitude_of q m = with_sign (is_west q && not (eqb m 1800)) m

-- the quadrant of a position
abbrev pub quadrant_of : ℤ → ℤ → ℕ
quadrant_of latitude longitude = cond (negative longitude) (cond (negative latitude) 5 7) (cond (negative latitude) 3 1)
