-- The next group of a text, as the loop of a reader meets it: where it stands, where it goes in a row of places, and what it says there.
-- Assumes nothing: these are definitions.
use Rattle.std.specs.Prelude.{ℕ, ◌+◌, ◌≤◌, ◌<◌, ◌≡◌, Bool, List, [], ◌∷◌, length, Err, Ok, Result}
use Rattle.text.specs.declared.kinds.Refusal.{Refusal}
use Rattle.text.specs.Groups.{part_of, groups_from}
use Rattle.places.specs.Engine.{Group, Place, onward, Step, On, Halt, Stop}
use Rattle.places.specs.Parts.{step_by}
use Rattle.elements.specs.declared.kinds.Said.{Said}
use Rattle.body.specs.declared.kinds.Saying.{Saying}
use Rattle.body.specs.declared.kinds.Met.{Met}
use Rattle.body.specs.declared.kinds.Met.TheVariants as met

-- a group at its place, which is taken, or refused where it starts
abbrev pub met_as : ℕ → Result Saying Refusal → Met
met_as start (Ok x) = met.Says x
met_as start (Err f) = met.Refused f start

-- the next group at or after a position of the text stands from `start` up to `end`
pub record Lies (text : List ℕ) (at start end : ℕ) : Type 0 where
  pub groups : groups_from text at ≡ record { start = start; bytes = part_of text start end } ∷ groups_from text end
  pub ahead : at < end
  pub within : end ≤ length text

-- A row of places over a record, the groups that halt its reading, and the record with what a group says where so many stand; k groups stand at place c,
-- and of the record this much is seen, which is all that the reading of a group depends on.
module _ {R : Type 0} (row : List (Place R)) (halts : Group → Bool) (put : ℕ → Group → Said → R → R) (c k : ℕ) (seen : R → Type 0) where
  -- what a group is read as, in any such record
  abbrev pub Steps : Group → (R → Step R) → Type 0
  Steps g to = (r : R) → seen r → step_by row halts c k r g ≡ to r

  -- THE NEXT GROUP of the text, at or after a position. No place has room for more than four groups.
  abbrev pub Meets : List ℕ → ℕ → Met → Type 0
  Meets text at met.Over = groups_from text at ≡ []
  Meets text at (met.Halt s e) = Lies text at s e × Steps (part_of text s e) (λ r. Halt)
  Meets text at (met.Refused f s) = (e : ℕ) × Lies text at s e × Steps (part_of text s e) (λ r. Stop f)
  Meets text at (met.Says x) =
      Lies text at x.start x.end
      × (x.count < 4)
      × Steps (part_of text x.start x.end) (λ r. On (onward row x.place) (x.count + 1) (put x.count (part_of text x.start x.end) x.said r))
