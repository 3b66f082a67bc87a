-- What section 1 of a report, with section 3, is read as, and the answer to a text: a verdict beside the record.
-- Assumes nothing: these are definitions.
use Rattle.std.specs.Prelude.{ℕ, Bool, false, cond, List, Ok, Option, Result}
use Rattle.text.specs.declared.kinds.Refusal.{Refusal}
use Rattle.text.specs.declared.kinds.Refused.{Refused}
use Rattle.text.specs.Groups.{Piece}
use Rattle.shapes.specs.Pattern.{has_pattern, has_any}
use Rattle.places.specs.Engine.{Group, Outcome}
use Rattle.places.specs.Parts.{Word, Ends, Opens, Part, Parts, report_of}
use Rattle.places.specs.Answer.{accepted_as, refused_as, answer_of}
use Rattle.record.specs.declared.surface.Surface.{Surface}
use Rattle.record.specs.declared.surface.Synop.{Synop}
use Rattle.record.specs.declared.surface.Section3.{Section3}
use Rattle.record.specs.Blank.{blank_section3, blank_synop}
use Rattle.record.specs.Set.{set_surface, set_section3}
use Rattle.synop_section.specs.declared.kinds.Reading.{Reading}
use Rattle.synop_row.specs.declared.kinds.Needs.{Needs}
use Rattle.synop_row.specs.Row.{needs_of, row, stop_words, section3_word}
use Rattle.section3.specs.Row.{part_in}
use Rattle.section3.specs.Step.{Opened}

-- a blank record of the kind
abbrev pub begun : Bool → Synop
begun ship = record { ship = ship; site = blank_synop.site; surface = blank_synop.surface; section3 = blank_section3 }

-- ---- section 1 after Nddff, and section 3: a report of parts (places, Parts)

-- 333 opens section 3; at any other stop word the unread rest begins
abbrev pub word_of : Group → Word Opened Section3
word_of g = cond (has_pattern g section3_word) (Opens (Ok (record { kind = tt; start = blank_section3 }))) Ends

-- section 1, held to its row by what was read before it; the report takes its surface in by `takes`
abbrev pub first_part : Needs → (Surface → Synop) → Part Synop Section3 Opened Surface
first_part n takes = record { row = row n; halts = has_any stop_words; lacks = λ s. false; takes = takes; word = λ t g. word_of g }

-- section 3
abbrev pub third_part : Synop → Part Synop Section3 Opened Section3
third_part r = part_in (λ s. set_section3 s r)

abbrev pub parts : Parts Synop Section3 Opened
parts = record { part = λ r w. third_part r; joins = λ w g. false; joined = λ w. w }

-- section 1 after Nddff, then section 3 at most once
unfoldable pub section : Synop → Option ℕ → ℕ → List Piece → Outcome Synop
section r tail end gs = report_of tail end parts 1 (first_part (needs_of r.surface) (λ s. set_surface s r)) r.surface gs

-- a verdict beside the record; a refused text leaves a blank one
abbrev pub reading : Result ℕ Refused → Synop → Reading
reading v r = record { verdict = v; report = r }

abbrev pub accepted : ℕ → Synop → Reading
accepted = accepted_as reading blank_synop

abbrev pub refused : Refusal → ℕ → Reading
refused = refused_as reading blank_synop

abbrev pub answer : Outcome Synop → Reading
answer = answer_of reading blank_synop
