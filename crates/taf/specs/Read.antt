-- Reading a TAF: a report of parts (places, Parts), its main part, then its change groups, each with a part of its own.
-- Assumes nothing: these are definitions.
use Rattle.std.specs.Prelude.{ℕ, ◌+◌, Bool, cond, not, ◌&&◌, ◌||◌, List, set, ltb, eqb, None, Ok, Option, Result, Some}
use Rattle.figures.specs.Figures.{field_at}
use Rattle.text.specs.declared.kinds.Refusal.{Refusal}
use Rattle.text.specs.declared.kinds.Refused.{Refused}
use Rattle.text.specs.Groups.{Piece}
use Rattle.shapes.specs.Pattern.{has_any}
use Rattle.places.specs.Engine.{Group, Outcome}
use Rattle.places.specs.Parts.{Begun, Opens, Part as ReportPart, Parts, part_from, further, report_of}
use Rattle.places.specs.Answer.{accepted_as, refused_as, answer_of}
use Rattle.record.specs.declared.aerodrome.Opening.{Opening}
use Rattle.record.specs.declared.aerodrome.Opening.TheVariants as opening
use Rattle.record.specs.declared.aerodrome.Leg.{Leg}
use Rattle.record.specs.declared.aerodrome.Change.{Change}
use Rattle.record.specs.declared.aerodrome.Changes.{Changes}
use Rattle.record.specs.declared.aerodrome.Edition.{Edition}
use Rattle.record.specs.declared.aerodrome.Edition.TheVariants as edition
use Rattle.record.specs.declared.aerodrome.Taf.{Taf}
use Rattle.record.specs.Taf.{blank_instant, blank_leg, blank_taf, set_period}
use Rattle.elements.specs.Parts.{figured, provided}
use Rattle.aerodrome_groups.specs.Head.{is_day, is_hour, is_minute}
use Rattle.taf_row.specs.declared.kinds.Part.{Part}
use Rattle.taf_row.specs.declared.kinds.Part.TheVariants as part
use Rattle.taf.specs.declared.kinds.Reading.{Reading}
use Rattle.taf_row.specs.Row.{element_stands, word, row, change_words}
use Rattle.taf_row.specs.Tests.{joins}

-- ---- what a change word opens: "BECMG, TEMPO, PROB30, PROB40, .. or FMYYGGgg"

abbrev pub opened : Opening → Leg → Result (Begun Opening Leg) Refusal
opened o r = Ok (record { kind = o; start = r })

-- FMYYGGgg, FMGGgg: the part begins at that time
abbrev pub opened_from : Option ℕ → ℕ → ℕ → Result (Begun Opening Leg) Refusal
opened_from day h m =
    opened opening.From (set_period (record { from = record { day = day; hour = Some h; minute = Some m }; to = blank_instant }) blank_leg)

abbrev pub from_group : Edition → Group → Result (Begun Opening Leg) Refusal
from_group edition.Present g =
    figured (field_at g 2 2)
    (λ d. figured (field_at g 4 2)
    (λ h. figured (field_at g 6 2)
    (λ m. provided (is_day d && is_hour h && is_minute m) (opened_from (Some d) h m))))
from_group edition.Of2005 g =
    figured (field_at g 2 2) (λ h. figured (field_at g 4 2) (λ m. provided (is_hour h && is_minute m) (opened_from None h m)))

-- PROB30, PROB40
abbrev pub is_chance : ℕ → Bool
is_chance n = eqb n 30 || eqb n 40

abbrev pub probable_group : Group → Result (Begun Opening Leg) Refusal
probable_group g =
    figured (field_at g 4 2) (λ n. provided (is_chance n) (opened (opening.Probable n) blank_leg))

unfoldable pub opened_by : Edition → Group → Result (Begun Opening Leg) Refusal
opened_by e g =
    cond (word "BECMG" g) (opened opening.Becoming blank_leg)
    (cond (word "TEMPO" g) (opened opening.Temporary blank_leg) (cond (word "PROB##" g) (probable_group g) (from_group e g)))

-- "PROB TEMPO": TEMPO at once after PROB30 or PROB40 is part of what opens the change
abbrev pub after_probable : Opening → Opening
after_probable opening.None = opening.None
after_probable opening.Becoming = opening.Becoming
after_probable opening.Temporary = opening.Temporary
after_probable (opening.Probable n) = opening.ProbablyTemporary n
after_probable (opening.ProbablyTemporary n) = opening.ProbablyTemporary n
after_probable opening.From = opening.From

-- the row that a change is held to
abbrev pub part_of : Opening → Part
part_of opening.None = part.Changing
part_of opening.Becoming = part.Changing
part_of opening.Temporary = part.Changing
part_of (opening.Probable n) = part.Changing
part_of (opening.ProbablyTemporary n) = part.Changing
part_of opening.From = part.From

-- ---- the report with a part that is whole

abbrev pub change_of : Opening → Leg → Change
change_of o r = record { opening = o; period = r.period; body = r.body }

-- one more change; past the sixteenth there is no room
abbrev pub with_change : Changes → Change → Changes
with_change cs c = cond (ltb cs.count 16) (record { items = set cs.items cs.count c; count = cs.count + 1 }) cs

-- ---- the parts: "A change group opens a body and a body runs to the next change group"

-- a part held to its row; "A change body needs one element". The report takes it in by `takes`.
abbrev pub part_in : Edition → Part → (Leg → Taf) → ReportPart Taf Leg Opening Leg
part_in e w takes =
    record {
      row = row e w;
      halts = has_any (change_words e);
      lacks = λ r. not (element_stands w r.body);
      takes = takes;
      word = λ t g. Opens (opened_by e g);
    }

abbrev pub main_part : Edition → ReportPart Taf Leg Opening Leg
main_part e = part_in e part.Main (λ r. record { edition = e; leg = r; changes = blank_taf.changes })

abbrev pub change_part : Edition → Taf → Opening → ReportPart Taf Leg Opening Leg
change_part e t o = part_in e (part_of o) (λ r. record { edition = t.edition; leg = t.leg; changes = with_change t.changes (change_of o r) })

abbrev pub changes : Edition → Parts Taf Leg Opening
changes e = record { part = change_part e; joins = joins; joined = after_probable }

-- ---- the report

-- WHAT THE GROUPS OF A TAF COME TO in an edition, its name first, which stands at the first place of the main part's row: "up to .. 16 change groups". What follows the
-- "=", and the text's length.
unfoldable pub groups_read : Edition → Option ℕ → ℕ → List Piece → Outcome Taf
groups_read e tail end gs = report_of tail end (changes e) 16 (main_part e) blank_leg gs

-- the groups behind the name, where that has stood
unfoldable pub behind_name : Edition → Option ℕ → ℕ → List Piece → Outcome Taf
behind_name e tail end gs = part_from tail end (main_part e) (further tail end (changes e) 16) 0 1 blank_leg gs

-- a reading with its verdict; the record is blank where the text is refused
abbrev pub reading : Result ℕ Refused → Taf → Reading
reading v r = record { verdict = v; report = r }

abbrev pub accepted : ℕ → Taf → Reading
accepted rest r = accepted_as reading blank_taf rest r

abbrev pub refused : Refusal → ℕ → Reading
refused f at = refused_as reading blank_taf f at

abbrev pub answer : Outcome Taf → Reading
answer o = answer_of reading blank_taf o
