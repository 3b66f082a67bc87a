-- How the judging of layers goes on from one to the next.
-- Assumes nothing: these are definitions.
use Rattle.std.specs.Prelude.{ℕ, None, Option, Some}

-- the last height so far, missing ones passed over: the greatest, where heights rise
abbrev pub last_height : Option ℕ → Option ℕ → Option ℕ
last_height before None = before
last_height before (Some m) = Some m
