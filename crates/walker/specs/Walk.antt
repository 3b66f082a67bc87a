-- What a walker does with what stands at its position: where that begins, where it goes on, and what a walk gives.
-- Assumes nothing: these are definitions.
use Rattle.std.specs.Prelude.{ℕ, List, [], ◌∷◌}
use Rattle.text.specs.Groups.{Piece, part_of}
use Rattle.text.specs.declared.kinds.Cut.{Cut}
use Rattle.text.specs.declared.kinds.Cut.TheVariants.{Group, End}

-- a group's place; where the groups ended, there
abbrev pub start_of : Cut → ℕ
start_of (Group s e) = s
start_of (End at) = at

-- after a group, its end; where the groups ended, there. What was given is the part from the one up to the other, which is empty where the groups ended
abbrev pub after_of : Cut → ℕ
after_of (Group s e) = e
after_of (End at) = at

-- the groups that a walk gives where `cut` stands first and `later` are those after it
abbrev pub given_from : List ℕ → Cut → List Piece → List Piece
given_from text (Group s e) later = record { start = s; bytes = part_of text s e } ∷ later
given_from text (End at) later = []
