-- "The refusal numbers": document 01's table, and those that document 02 adds, by the names that the code gives its lines.
-- Assumes nothing: these are definitions.
use Rattle.std.specs.Prelude.{ℕ}
use Rattle.text.specs.declared.kinds.Refusal.{Refusal}
use Rattle.text.specs.declared.kinds.Refusal.TheVariants as refusal
use Rattle.text.specs.declared.kinds.Refused.{Refused}

abbrev pub number_of : Refusal → ℕ
-- the text is empty or over 2,048 bytes
number_of refusal.Length = 1
-- a byte that is not A-Z, 0-9, / + - = space CR LF
number_of refusal.Byte = 2
-- the first group is not AAXX, BBXX, METAR, SPECI or TAF
number_of refusal.Kind = 3
-- a group with no shape known in this report, or one after NIL or CNL, a stop word too
number_of refusal.Shape = 4
-- right shape, figure not in the table or range
number_of refusal.Figure = 5
-- a group of an earlier place, or a second where one may stand
number_of refusal.Order = 6
-- groups each right that disagree
number_of refusal.Disagreement = 7
-- a required group is absent
number_of refusal.Absence = 8
-- more groups than the limit
number_of refusal.Limit = 9
-- writer: the buffer is shorter than the canonical text
number_of refusal.Room = 10
-- writer: a value outside its range, a bad name, a required one missing and the like
number_of refusal.Value = 11
-- document 02, No. 9: the times of a forecast that is moved to the other edition do not fit one another, or can't be written there
number_of refusal.Times = 15

-- what a reader answers of a text that it refuses: the refusal, and its place
abbrev pub refused_with : Refusal → ℕ → Refused
refused_with f at = record { refusal = f; place = at }
