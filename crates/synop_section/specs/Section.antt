-- What the functions that read section 1 answer, in terms of its row.
-- Assumes nothing: these are definitions.
use Rattle.std.specs.Prelude.{ℕ, ◌≡◌, List, length, drop, Err, Ok, Result}
use Rattle.text.specs.declared.kinds.Refusal.{Refusal}
use Rattle.text.specs.Groups.{groups_from}
use Rattle.text.specs.Text.{tail_of}
use Rattle.places.specs.Seek.{owed}
use Rattle.places.specs.Engine.{Group, place_at, musts_of, Outcome}
use Rattle.places.specs.Answer.{outcome_of}
use Rattle.places.specs.Parts.{Further, turned, unless, part_from, further}
use Rattle.record.specs.declared.surface.Surface.{Surface}
use Rattle.record.specs.declared.surface.Section3.{Section3}
use Rattle.record.specs.declared.surface.Synop.{Synop}
use Rattle.record.specs.Blank.{blank_section3}
use Rattle.synop_groups.specs.declared.kinds.Said.{Said}
use Rattle.synop_row.specs.declared.kinds.Needs.{Needs}
use Rattle.synop_row.specs.Row.{with_said, row}
use Rattle.section3.specs.Step.{Opened}
use Rattle.synop_section.specs.declared.kinds.Next.{Next}
use Rattle.synop_section.specs.declared.kinds.Next.TheVariants as next
use Rattle.synop_section.specs.declared.kinds.SectionRead.{SectionRead}
use Rattle.synop_section.specs.Answer.{word_of, first_part, third_part, parts}

-- what a group says at a place, as the place adds it to the surface
abbrev pub Says : Needs → ℕ → Group → Said → Type 0
Says n i g x = (k : ℕ) (s : Surface) → (place_at (row n) i).read k g s ≡ with_said x s

-- what is read; a refusal leaves it as it was
abbrev pub or_else : {R : Type 0} → R → Result R Refusal → R
or_else s (Ok x) = x
or_else s (Err f) = s

-- the surface with what a group says
abbrev pub said_onto : Said → Surface → Surface
said_onto x s = or_else s (with_said x s)

-- ---- what follows section 1, once the report has taken its surface in

-- a part of the text, so many parts still to come
abbrev pub later : List ℕ → ℕ → Further Synop Section3 Opened
later text n = further (tail_of text) (length text) parts n

abbrev pub after_section : List ℕ → Synop → Next → Outcome Synop
after_section text r (next.End v) = outcome_of v r
after_section text r (next.Section3 at) = part_from (tail_of text) (length text) (third_part r) (later text 0) 0 0 blank_section3 (groups_from text at)

-- a stop word, from start up to end, where k groups stand at place c: an absence first, then what the word comes to
abbrev pub Leaves : Group → ℕ → ℕ → Needs → ℕ → ℕ → Next → Type 0
Leaves g start end n c k x = (text : List ℕ) (r : Synop)
    → unless (owed k (drop c (musts_of (row n)))) start (turned (later text 1) r (record { start = start; bytes = g }) (groups_from text end) (word_of g)) ≡ after_section text r x

-- SECTION 1 from a position on: whatever report takes its surface in, the text is read as what follows the section says.
abbrev pub SectionDone : List ℕ → ℕ → Needs → Surface → SectionRead → Type 0
SectionDone text from n earlier x = (takes : Surface → Synop)
    → part_from (tail_of text) (length text) (first_part n takes) (later text 1) 0 0 earlier (groups_from text from) ≡ after_section text (takes x.surface) x.next
