-- A group's turn by the row: where it is to be read, or why it is not. Nothing that was read before has a part in it.
-- Assumes nothing: these are definitions.
use Rattle.std.specs.Prelude.{ℕ, Bool, true, false, cond, List, length, leb}
use Rattle.text.specs.declared.kinds.Refusal.TheVariants as refusal
use Rattle.places.specs.declared.kinds.Found.{Found}
use Rattle.places.specs.declared.kinds.Found.TheVariants.{Take, Skips, Full, Earlier, Unknown}
use Rattle.places.specs.declared.kinds.Turn.{Turn}
use Rattle.places.specs.declared.kinds.Turn.TheVariants as turn
use Rattle.places.specs.Seek.{find_of, refusal_of}
use Rattle.places.specs.Engine.{Group, Place, stands_of}

-- by where it goes
abbrev pub turn_by : Found → Turn
turn_by (Take i k) = turn.At i k
turn_by Skips = turn.Refused (refusal_of Skips)
turn_by Full = turn.Refused (refusal_of Full)
turn_by Earlier = turn.Refused (refusal_of Earlier)
turn_by Unknown = turn.Refused (refusal_of Unknown)

-- the turn of a group that comes where k groups stand at place c; past the row it is refused, and a word that halts stops the reading
unfoldable pub turn_at : {R : Type 0} → List (Place R) → (Group → Bool) → ℕ → ℕ → Group → Turn
turn_at row halts c k g = cond (leb (length row) c) (turn.Refused refusal.Shape) (cond (halts g) turn.Halt (turn_by (find_of (stands_of row g) c k)))

-- ---- the same in the code's steps, where a word is asked for last

-- no place has the group's shape
abbrev pub is_unknown : Found → Bool
is_unknown (Take i k) = false
is_unknown Skips = false
is_unknown Full = false
is_unknown Earlier = false
is_unknown Unknown = true

-- then a word that halts stops the reading, and another group is refused
abbrev pub turn_unknown : Bool → Turn
turn_unknown halts = cond halts turn.Halt (turn_by Unknown)
