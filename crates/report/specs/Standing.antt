-- Which text stands: "if the second is accepted, carries COR and has the same kind, CCCC and time as an accepted first, the answer is the second; else
-- the first if it is accepted and of these kinds; else an empty part of the first."
-- Assumes nothing: these are definitions.
use Rattle.std.specs.Prelude.{ℕ, List, length}
use Rattle.std.specs.Borrow.{Bor}
use Rattle.text.specs.Part.{PartAt}
use Rattle.text.specs.Text.{TrimmedPart}
use Rattle.report_record.specs.declared.kinds.Stands.{Stands}
use Rattle.report_record.specs.declared.kinds.Stands.TheVariants as stands
use Rattle.report_record.specs.Kinship.{judge_standing}
use Rattle.report.specs.Read.{read_of}

unfoldable pub stands_of : List ℕ → List ℕ → Stands
stands_of first second = judge_standing (read_of first).report (read_of second).report

-- "It runs from the first group's first byte through the first "=" or, without one, the last group, and is a part of whichever text it stands in."
-- Where neither stands it is the empty part at the first one's end. Two texts with the same bytes are told apart: r lies in the one that stands.
abbrev pub PartStanding : Stands → Bor (List ℕ) → Bor (List ℕ) → Bor (List ℕ) → Type 0
PartStanding stands.First first second r = TrimmedPart first r
PartStanding stands.Second first second r = TrimmedPart second r
PartStanding stands.Neither first second r = PartAt first r (length first.now) (length first.now)
