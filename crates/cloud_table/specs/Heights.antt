-- "Keep table 1690 as 1,000 numbers, one for each code 000 to 999, unused codes marked." What each number is, by the present rule.
-- Assumes nothing: these are definitions.
use Rattle.std.specs.Prelude.{ℕ, zero, suc, ◌+◌, min, List, [], ◌∷◌, map, ◌++◌, length, take, drop, None, Option, Some}
use Rattle.scales.specs.Metres.{cloud, metres_reading}

-- the mark of an unused code, a number that no height is
abbrev pub unused_mark : ℕ
unused_mark = 100000

-- a reading as one number: the height, or the mark
abbrev pub marked : Option ℕ → ℕ
marked (Some height) = height
marked None = unused_mark

-- the number of any code; none over 999 is used
unfoldable pub height_or_mark : ℕ → ℕ
height_or_mark code = marked (metres_reading cloud code)

-- n codes, one after the other
unfoldable pub codes_from : ℕ → ℕ → List ℕ
codes_from code zero = []
codes_from code (suc n) = code ∷ codes_from (code + 1) n

-- the table, "one for each code 000 to 999"
unfoldable pub cloud_table : List ℕ
cloud_table = map height_or_mark (codes_from 0 1000)

-- how many codes are answered: as many as both slices have room for
abbrev pub room : List ℕ → List ℕ → ℕ
room codes heights = min (length codes) (length heights)

-- the heights after many codes: the numbers of these codes, and past them what was there before
unfoldable pub heights_over : List ℕ → List ℕ → List ℕ
heights_over codes heights = take (room codes heights) (map height_or_mark codes) ++ drop (room codes heights) heights
