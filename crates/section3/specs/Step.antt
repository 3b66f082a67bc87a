-- What the functions that read section 3 answer, in terms of its row.
-- Assumes nothing: these are definitions.
use Rattle.std.specs.Prelude.{ℕ, ◌≡◌, cond, List, length, ltb, eqb, Err, Ok, Result}
use Rattle.text.specs.declared.kinds.Refusal.{Refusal}
use Rattle.figures.specs.Quote.{bytes}
use Rattle.text.specs.declared.kinds.Refusal.TheVariants as refusal
use Rattle.text.specs.Groups.{groups_from}
use Rattle.text.specs.Text.{tail_of}
use Rattle.shapes.specs.Pattern.{has_pattern}
use Rattle.places.specs.declared.kinds.Turn.{Turn}
use Rattle.places.specs.declared.kinds.Turn.TheVariants as turn
use Rattle.places.specs.Engine.{Group, place_at}
use Rattle.places.specs.Answer.{outcome_of}
use Rattle.places.specs.Parts.{Further, part_from}
use Rattle.record.specs.declared.surface.CloudLayers.{CloudLayers}
use Rattle.record.specs.declared.surface.Section3.{Section3}
use Rattle.record.specs.declared.surface.Synop.{Synop}
use Rattle.record.specs.Blank.{blank_section3}
use Rattle.section3.specs.declared.kinds.Told.{Told}
use Rattle.section3.specs.declared.kinds.Section3Read.{Section3Read}
use Rattle.section3.specs.Row.{with_told, row, part_in}

-- the place that has the group's shape; 3 where none has
abbrev pub shape_of : Group → ℕ
shape_of g = cond (has_pattern g (bytes "1####")) 0 (cond (has_pattern g (bytes "2####")) 1 (cond (has_pattern g (bytes "8####")) 2 3))

-- the turn of a group that has the shape of place s, where k groups stand at place c
abbrev pub turn_of : ℕ → ℕ → ℕ → Turn
turn_of c k s =
    cond (ltb s c) (turn.Refused refusal.Order)
    (cond (ltb c s) (turn.At s 0)
    (cond (eqb c 2) (cond (ltb k 2048) (turn.At c k) (turn.Refused refusal.Limit)) (cond (eqb k 0) (turn.At c 0) (turn.Refused refusal.Order))))

-- what a group says at a place, as the place adds it to a section with these layers
abbrev pub Says : ℕ → Group → CloudLayers → Told → Type 0
Says i g ls x = (k : ℕ) (s : Section3) → s.layers ≡ ls → (place_at row i).read k g s ≡ with_told x s

-- the section with what a group says; a refusal leaves it as it was
abbrev pub or_else : Section3 → Result Section3 Refusal → Section3
or_else s (Ok x) = x
or_else s (Err f) = s

abbrev pub told_onto : Told → Section3 → Section3
told_onto x s = or_else s (with_told x s)

-- what opens section 3, 333, says nothing of it
abbrev pub Opened : Type 0
Opened = Unit {0}

-- SECTION 3, from behind 333 on: whatever report takes it in, the verdict with the section that is read.
abbrev pub Section3Done : List ℕ → ℕ → Section3Read → Type 0
Section3Done text at x = (takes : Section3 → Synop) (more : Further Synop Section3 Opened)
    → part_from (tail_of text) (length text) (part_in takes) more 0 0 blank_section3 (groups_from text at) ≡ outcome_of x.verdict (takes x.section3)
