-- Reading a text of any kind: as the kind that its first group names.
-- Assumes nothing: these are definitions.
use Rattle.std.specs.Prelude.{ℕ, ◌+◌, Bool, true, false, cond, List, [], ◌∷◌, length, Err, Ok, Result}
use Prim.Native.String.{String}
use Rattle.figures.specs.Quote.{bytes}
use Rattle.text.specs.declared.kinds.Refusal.TheVariants as refusal
use Rattle.text.specs.declared.kinds.Bytes.{Bytes}
use Rattle.text.specs.declared.kinds.Bytes.TheVariants as judgement
use Rattle.text.specs.declared.kinds.Refused.{Refused}
use Rattle.text.specs.Groups.{Piece, groups_from, part_of}
use Rattle.text.specs.Text.{bytes_of, tail_of}
use Rattle.shapes.specs.Pattern.{has_pattern}
use Rattle.places.specs.Engine.{Group, Outcome, Done, Fault}
use Rattle.record.specs.declared.aerodrome.Edition.{Edition}
use Rattle.record.specs.declared.aerodrome.Edition.TheVariants as edition
use Rattle.report_record.specs.declared.kinds.Name.{Name}
use Rattle.report_record.specs.declared.kinds.Name.TheVariants as name
use Rattle.report_record.specs.declared.kinds.Report.{Report}
use Rattle.report_record.specs.declared.kinds.Reading.{Reading}
use Rattle.report_record.specs.Record.{accepted, refused, surface_report, observed_report, forecast_report}
use Rattle.synop.specs.Read as synop
use Rattle.metar.specs.Read as metar
use Rattle.taf.specs.Read as taf

-- ---- the kind: "1, 2 and 3 are judged over the whole text in that order."

abbrev pub word : String → Group → Bool
word w g = has_pattern g (bytes w)

-- what a first group names that stands from start up to end. 3: "the first group is not AAXX, BBXX, METAR, SPECI or TAF; its place"
abbrev pub name_by : Group → ℕ → ℕ → Name
name_by g start end =
    cond (word "AAXX" g) (name.Surface false end)
    (cond (word "BBXX" g) (name.Surface true end)
    (cond (word "METAR" g) (name.Observed false end)
    (cond (word "SPECI" g) (name.Observed true end) (cond (word "TAF" g) (name.Forecast end) (name.Refused refusal.Kind start)))))

-- "0 if no group stands before an "=" or the end"
abbrev pub first_name : List Piece → Name
first_name [] = name.Refused refusal.Kind 0
first_name (g ∷ gs) = name_by g.bytes g.start (g.start + length g.bytes)

-- 1: "the text is empty or over 2,048 bytes; place 0". 2: "a byte that is not A-Z, 0-9, / + - = space CR LF; place of the first"
abbrev pub after_bytes : Bytes → Name → Name
after_bytes judgement.Sound n = n
after_bytes judgement.Length n = name.Refused refusal.Length 0
after_bytes (judgement.Byte at) n = name.Refused refusal.Byte at

-- THE KIND THAT A TEXT'S FIRST GROUP NAMES, and where the groups behind it begin
unfoldable pub name_of : List ℕ → Name
name_of text = after_bytes (bytes_of text) (first_name (groups_from text 0))

-- ---- the groups: "Then groups go left to right and the first at fault answers"

-- what the groups of a kind come to: its record in a report of that kind, or the refusal with a blank report
abbrev pub answered : {R : Type 0} → (R → Report) → Outcome R → Reading
answered within (Done rest r) = accepted rest (within r)
answered within (Fault f at) = refused f at

-- by the edition of TAF that the caller chose; the other kinds have one
abbrev pub read_as : Edition → List ℕ → Name → Reading
read_as e text (name.Surface ship at) = answered surface_report (synop.groups_read ship (tail_of text) (length text) (groups_from text at))
read_as e text (name.Observed special at) = answered observed_report (metar.groups_read (tail_of text) (length text) (groups_from text 0))
read_as e text (name.Forecast at) = answered forecast_report (taf.groups_read e (tail_of text) (length text) (groups_from text 0))
read_as e text (name.Refused f at) = refused f at

-- WHAT A TEXT IS READ AS: the kind that its first group names. A TAF is read in the edition "chosen by the caller (the present one if none is named)".
unfoldable pub read_in : Edition → List ℕ → Reading
read_in e text = read_as e text (name_of text)

abbrev pub read_of : List ℕ → Reading
read_of text = read_in edition.Present text

-- ---- "The rest, from that group to the text's end, is .. handed back as a part of the caller's text; where there is none, or the text is refused, it
-- is the empty part at the end."

abbrev pub rest_at : ℕ → Result ℕ Refused → ℕ
rest_at end (Ok rest) = rest
rest_at end (Err x) = end

unfoldable pub rest_place_in : Edition → List ℕ → ℕ
rest_place_in e text = rest_at (length text) (read_in e text).verdict

unfoldable pub rest_in : Edition → List ℕ → List ℕ
rest_in e text = part_of text (rest_place_in e text) (length text)

abbrev pub rest_place : List ℕ → ℕ
rest_place text = rest_place_in edition.Present text

abbrev pub rest_of : List ℕ → List ℕ
rest_of text = rest_in edition.Present text
