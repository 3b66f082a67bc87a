-- What a walk has still to come by, and what a step of it gives.
-- Assumes nothing: these are definitions.
use Rattle.std.specs.Prelude.{ℕ, ◌≡◌, ◌<◌, ◌≤◌, List, [], ◌∷◌, length, None, Option, Some}
use Rattle.text.specs.Groups.{groups_from, part_of}
use Rattle.sources.specs.Trail.{Taken, trail, group, source_of}
use Rattle.synop_sources.specs.declared.kinds.Walk.{Walk}
use Rattle.synop_sources.specs.declared.kinds.Step.{Step}
use Rattle.synop_sources.specs.Trail.{mark_at, move}

-- the rest of the trail, from where the walk stands
abbrev pub left : List ℕ → Walk → List Taken
left text w = trail (move w.ship) (mark_at w.part w.place w.count) (groups_from text w.from)

-- the group of a step, as the trail has it
abbrev pub taken_of : List ℕ → Step → Taken
taken_of text s = record { part = s.part; spot = s.spot; piece = record { start = s.source.start; bytes = part_of text s.source.start s.source.end } }

-- the walk came by a group
pub record Came (text : List ℕ) (before after : Walk) (s : Step) : Type 0 where
  pub rest : left text before ≡ taken_of text s ∷ left text after
  pub source : Some s.source ≡ source_of (group (record { start = s.source.start; bytes = part_of text s.source.start s.source.end }))
  pub on : before.from < after.from
  pub within : after.from ≤ length text

-- ..or there was none
abbrev pub Stepped : List ℕ → Walk → Walk → Option Step → Type 0
Stepped text before after None = left text before ≡ []
Stepped text before after (Some s) = Came text before after s
