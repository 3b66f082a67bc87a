-- Document 02, No. 10: how high a layer's base is in section 3, hh by table 1677, in metres. The code answers as on the other scales in metres: 0 to 99,999
-- may be written, and a figure that no class has is not in the table.
-- Assumes nothing: these are definitions.
use Rattle.std.specs.Prelude.{ℕ, ◌+◌, [], ◌∷◌, ◌++◌, map}
use Rattle.scales.specs.Scale.{Class, Scale, steps}
use Rattle.scales.specs.Metres.{class, base}

-- 1677 by steps: "00 below 30 m, 01-50 by 30, 56-80 from 1,800 by 300, 81-88 from 10,500 by 1,500, 89 over 21,000 (read 21,001) ..; 51-55 unused"
unfoldable pub layer_steps : Scale ℕ
layer_steps =
    record {
      lowest = class 0 0;
      above = steps 50 30 30 1 1 ++ (steps 25 1800 300 56 1 ++ (steps 8 10500 1500 81 1 ++ (class 21001 89 ∷ [])));
    }

-- a class with the same foot and a figure that is n more
abbrev pub raised_class : ℕ → Class ℕ → Class ℕ
raised_class n c = class c.foot (n + c.figure)

abbrev pub raised : ℕ → Scale ℕ → Scale ℕ
raised n s = record { lowest = raised_class n s.lowest; above = map (raised_class n) s.above }

-- 1677 by bands: "90-99 with the feet of document 01's h scale"
unfoldable pub layer_bands : Scale ℕ
layer_bands = raised 90 base
