-- What some figures of SYNOP and SHIP stand for.
-- Assumes nothing: these are definitions.
use Rattle.std.specs.Prelude.{ℕ, cond, ◌||◌, eqb, None, Option, Some}
use Rattle.record.specs.declared.aerodrome.Unit.{Unit}
use Rattle.record.specs.declared.aerodrome.Unit.TheVariants as unit

-- "4ahhh with a 1, 2, 5, 7, 8 for 1000, 925, 500, 700, 850 hPa"
abbrev pub surface_of : ℕ → Option ℕ
surface_of a =
    cond (eqb a 1) (Some 1000)
    (cond (eqb a 2) (Some 925)
    (cond (eqb a 5) (Some 500) (cond (eqb a 7) (Some 700) (cond (eqb a 8) (Some 850) None))))

-- "iw 0, 1 (m/s), 3, 4 (knots)"
abbrev pub unit_of : Option ℕ → Unit
unit_of None = unit.Missing
unit_of (Some n) = cond (eqb n 0 || eqb n 1) unit.MetresPerSecond (cond (eqb n 3 || eqb n 4) unit.Knots unit.Missing)
