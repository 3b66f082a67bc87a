-- The first place that answers, where one does.
-- Assumes nothing: these are definitions.
use Rattle.std.specs.Prelude.{ℕ, cond, ltb, None, Option, Some}

-- a number, where it is below n
abbrev pub if_below : ℕ → ℕ → Option ℕ
if_below n i = cond (ltb i n) (Some i) None
