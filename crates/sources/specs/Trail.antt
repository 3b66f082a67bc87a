-- WHERE EACH GROUP OF A TEXT WAS TAKEN, and so from which part of the text an item of the record was read: "which part, which place, the how-manieth".
-- It goes by the groups' bytes alone, and by no record; of an accepted text it is what the reading did (the laws in proofs/).
-- Assumes nothing: these are definitions.
use Rattle.std.specs.Prelude.{ℕ, ◌+◌, Bool, true, false, cond, ◌&&◌, List, [], ◌∷◌, length, eqb, None, Option, Some}
use Rattle.text.specs.Groups.{Piece}
use Rattle.places.specs.Engine.{Group}
use Rattle.sources.specs.declared.kinds.Spot.{Spot}
use Rattle.sources.specs.declared.kinds.Spot.TheVariants as spot
use Rattle.sources.specs.declared.kinds.Source.{Source}

-- ---- a walk from group to group; `W` is what may open a part

-- Where a walk stands: in which part (0 the main one, then 1, 2, ..), what opened it, and at which place of its row, where so many groups stand.
pub record Mark (W : Type 0) : Type 0 where
  pub part : ℕ
  pub word : W
  pub place : ℕ
  pub count : ℕ

-- What a group is to the walk: it is taken at a place, where so many stand, and reading stands at another past it; it opens a part; it belongs to the
-- word before it, and both open another part than that word alone; or the walk ends before it.
pub data Move (W : Type 0) : Type 0 where
  Takes : ℕ → ℕ → ℕ → Move W
  Opens : W → Move W
  Joins : W → Move W
  Ends : Move W

-- A group with where it was taken.
pub record Taken : Type 0 where
  pub part : ℕ
  pub spot : Spot
  pub piece : Piece

module _ {W : Type 0} where
  -- at the beginning of a part
  abbrev pub front : ℕ → W → Mark W
  front part w = record { part = part; word = w; place = 0; count = 0 }

  abbrev pub after_move : Mark W → Piece → (Mark W → List Taken) → Move W → List Taken
  after_move m g go (Takes i n past) =
      record { part = m.part; spot = spot.At i n; piece = g } ∷ go (record { part = m.part; word = m.word; place = past; count = n + 1 })
  after_move m g go (Opens w) = record { part = m.part + 1; spot = spot.Opening; piece = g } ∷ go (front (m.part + 1) w)
  after_move m g go (Joins w) = record { part = m.part; spot = spot.Joined; piece = g } ∷ go (front m.part w)
  after_move m g go Ends = []

  -- THE TRAIL: each group up to the unread rest, in order, with where it was taken.
  unfoldable pub trail : (Mark W → Group → Move W) → Mark W → List Piece → List Taken
  trail move m [] = []
  trail move m (g ∷ gs) = after_move m g (λ m'. trail move m' gs) (move m g.bytes)

-- ---- the group that an item was read from

abbrev pub same_spot : Spot → Spot → Bool
same_spot spot.Opening spot.Opening = true
same_spot spot.Opening spot.Joined = false
same_spot spot.Opening (spot.At i k) = false
same_spot spot.Joined spot.Opening = false
same_spot spot.Joined spot.Joined = true
same_spot spot.Joined (spot.At i k) = false
same_spot (spot.At i k) spot.Opening = false
same_spot (spot.At i k) spot.Joined = false
same_spot (spot.At i k) (spot.At j n) = eqb i j && eqb k n

-- the first group of a trail that was taken at a spot of a part, if any
pub data Origin : Type 0 where
  nowhere : Origin
  group : Piece → Origin

unfoldable pub origin_in : ℕ → Spot → List Taken → Origin
origin_in part s [] = nowhere
origin_in part s (x ∷ xs) = cond (eqb part x.part && same_spot s x.spot) (group x.piece) (origin_in part s xs)

abbrev pub source_at : ℕ → ℕ → Source
source_at start end = record { start = start; end = end }

-- by where it stands in its text
abbrev pub source_of : Origin → Option Source
source_of nowhere = None
source_of (group g) = Some (source_at g.start (g.start + length g.bytes))

-- where a source begins and ends in a text of that length; both at its end where there is none
abbrev pub start_of : ℕ → Option Source → ℕ
start_of end None = end
start_of end (Some x) = x.start

abbrev pub end_of : ℕ → Option Source → ℕ
end_of end None = end
end_of end (Some x) = x.end
