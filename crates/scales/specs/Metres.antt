-- "The scales and how far off": the six scales in metres. "Classes; read as the foot." "Numbers in metres unless said; 0 to 99,999 may be written."
-- Assumes nothing: these are definitions.
use Rattle.std.specs.Prelude.{ℕ, Bool, false, cond, [], ◌∷◌, ◌++◌, leb, eqb, None, Option, Some}
use Rattle.scales.specs.Scale.{Class, Scale, run, steps, figure_of, read_of}
use Rattle.scales.specs.declared.kinds.Range.{Range}
use Rattle.scales.specs.declared.kinds.Range.TheVariants.{Below, Exact, Above}

abbrev pub class : {F : Type 0} → ℕ → F → Class F
class foot figure = record { foot = foot; figure = figure }

-- 4377 land: "00 below 100; 01-50 by 100; 56-80 6,000-30,000 by 1,000; 81-88 to 70,000 by 5,000; 89 over 70,000, read 70,001; 51-55 none"
unfoldable pub land : Scale ℕ
land =
    record {
      lowest = class 0 0;
      above = steps 50 100 100 1 1 ++ (steps 25 6000 1000 56 1 ++ (steps 8 35000 5000 81 1 ++ (class 70001 89 ∷ [])));
    }

-- 4377 sea: "90-99: 0, 50, 200, 500, 1,000, 2,000, 4,000, 10,000, 20,000, 50,000"
unfoldable pub sea : Scale ℕ
sea =
    record {
      lowest = class 0 90;
      above =
          class 50 91 ∷ class 200 92 ∷ class 500 93 ∷ class 1000 94 ∷ class 2000 95 ∷ class 4000 96 ∷ class 10000 97 ∷ class 20000 98 ∷ class 50000 99 ∷ [];
    }

-- 1600 h: "0-9: 0, 50, 100, 200, 300, 600, 1,000, 1,500, 2,000, 2,500 (9 also where there is no cloud)"
unfoldable pub base : Scale ℕ
base =
    record {
      lowest = class 0 0;
      above =
          class 50 1 ∷ class 100 2 ∷ class 200 3 ∷ class 300 4 ∷ class 600 5 ∷ class 1000 6 ∷ class 1500 7 ∷ class 2000 8 ∷ class 2500 9 ∷ [];
    }

-- VVVV: "by 50 to 800, by 100 to 5,000, by 1,000 to 9,000; 9999 is 10,000 or more"
unfoldable pub visibility : Scale ℕ
visibility =
    record {
      lowest = class 0 0;
      above = steps 15 50 50 50 50 ++ (steps 42 800 100 800 100 ++ (steps 5 5000 1000 5000 1000 ++ (class 10000 9999 ∷ [])));
    }

-- RVR: "M0050 below 50, read 0; by 25 from 50 to 400, by 50 to 800, by 100 to 2,000; P2000 over 2,000, read 2,001"
unfoldable pub runway : Scale Range
runway =
    record {
      lowest = class 0 (Below 50);
      above =
          run Exact 14 50 25 50 25 ++ (run Exact 8 400 50 400 50 ++ (run Exact 13 800 100 800 100 ++ (class 2001 (Above 2000) ∷ [])));
    }

-- 1690: "000-100 by 30; 110-990 by 300; 999 is 30,000 or more"
unfoldable pub cloud : Scale ℕ
cloud =
    record {
      lowest = class 0 0;
      above = steps 100 30 30 1 1 ++ (steps 89 3300 300 110 10 ++ (class 30000 999 ∷ []));
    }

-- two runway ranges are written alike
unfoldable pub same_range : Range → Range → Bool
same_range (Below a) (Below b) = eqb a b
same_range (Below a) (Exact b) = false
same_range (Below a) (Above b) = false
same_range (Exact a) (Below b) = false
same_range (Exact a) (Exact b) = eqb a b
same_range (Exact a) (Above b) = false
same_range (Above a) (Below b) = false
same_range (Above a) (Exact b) = false
same_range (Above a) (Above b) = eqb a b

-- The answers of the code: "0 to 99,999 may be written"; a figure that no class has is "not in the table".
unfoldable pub metres_figure : Scale ℕ → ℕ → Option ℕ
metres_figure s v = cond (leb v 99999) (Some (figure_of s v)) None

unfoldable pub metres_reading : Scale ℕ → ℕ → Option ℕ
metres_reading s f = read_of eqb s f

unfoldable pub range_figure : ℕ → Option Range
range_figure v = cond (leb v 99999) (Some (figure_of runway v)) None

unfoldable pub range_reading : Range → Option ℕ
range_reading f = read_of same_range runway f
