-- Document 02, No. 13: how deep a deposit is on a runway, table 1079, in millimetres. The code answers as on the scales in metres: 0 to 99,999 may be
-- written, and a figure that no class has is not in the table.
-- Assumes nothing: these are definitions.
use Rattle.std.specs.Prelude.{ℕ, [], ◌∷◌, ◌++◌}
use Rattle.scales.specs.Scale.{Scale, steps}
use Rattle.scales.specs.Metres.{class}

-- 1079: "92 to 98 as 100 to 400 by 50, 98 open"; "0 to 89 by 1, then 90 up to 99 mm, then the 50s". 91 is reserved, and 99 says "closed" and no depth:
-- neither is a class.
unfoldable pub depth : Scale ℕ
depth = record { lowest = class 0 0; above = steps 90 1 1 1 1 ++ (steps 6 100 50 92 1 ++ (class 400 98 ∷ [])) }
