-- The walk over a report of a main row and then parts (places, Parts): a group is taken where its turn by the row is, and a word opens the next part.
-- Assumes nothing: these are definitions.
use Rattle.std.specs.Prelude.{ℕ, Bool, cond, ◌&&◌, List, eqb}
use Rattle.places.specs.declared.kinds.Turn.{Turn}
use Rattle.places.specs.declared.kinds.Turn.TheVariants as turn
use Rattle.places.specs.Engine.{Group, Place, onward}
use Rattle.places.specs.Turn.{turn_at}
use Rattle.sources.specs.Trail.{Mark, Move, Takes, Joins, Ends}

-- The rows of a report and the words between its parts, with no record: `M` and `P` are what the main part and the others say, `W` is what opens one.
pub record Route (M P W : Type 0) : Type 0 where
  pub main : List (Place M)
  pub main_halts : Group → Bool
  pub row : W → List (Place P)
  pub halts : Group → Bool
  -- the part that a word opens where reading halts; the unread rest begins at one that opens none
  pub opens : Group → Move W
  -- a group that belongs to the word, at once after it, and what the two open
  pub joins : W → Group → Bool
  pub joined : W → W

-- by the group's turn
abbrev pub move_by : {R W : Type 0} → (Group → Move W) → List (Place R) → Group → Turn → Move W
move_by opens row g (turn.At i n) = Takes i n (onward row i)
move_by opens row g turn.Halt = opens g
move_by opens row g (turn.Refused f) = Ends

module _ {M P W : Type 0} (r : Route M P W) where
  abbrev pub move_main : ℕ → ℕ → Group → Move W
  move_main c k g = move_by r.opens r.main g (turn_at r.main r.main_halts c k g)

  abbrev pub move_part : W → ℕ → ℕ → Group → Move W
  move_part w c k g =
      cond ((eqb c 0 && eqb k 0) && r.joins w g) (Joins (r.joined w)) (move_by r.opens (r.row w) g (turn_at (r.row w) r.halts c k g))

  unfoldable pub move_on : Mark W → Group → Move W
  move_on m g = cond (eqb m.part 0) (move_main m.place m.count g) (move_part m.word m.place m.count g)
