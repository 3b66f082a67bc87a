-- Reading a METAR or SPECI: a report of parts (places, Parts), its observation, then the parts of its trend.
-- Assumes nothing: these are definitions.
use Rattle.std.specs.Prelude.{ℕ, Bool, true, false, List, Err, Ok, Option, Result}
use Rattle.text.specs.declared.kinds.Refused.{Refused}
use Rattle.text.specs.Groups.{Piece}
use Rattle.shapes.specs.Pattern.{has_any}
use Rattle.places.specs.Engine.{Outcome}
use Rattle.places.specs.Parts.{Part, part_from, further, report_of}
use Rattle.places.specs.Answer.{answer_of}
use Rattle.record.specs.declared.aerodrome.Observation.{Observation}
use Rattle.record.specs.declared.aerodrome.TrendChange.{TrendChange}
use Rattle.record.specs.declared.aerodrome.Metar.{Metar}
use Rattle.record.specs.Observation.{blank_observation, set_special}
use Rattle.record.specs.Trend.{blank_trend, blank_metar}
use Rattle.metar.specs.declared.kinds.Reading.{Reading}
use Rattle.metar_row.specs.Row.{row, words}
use Rattle.trend_row.specs.declared.kinds.Word.{Word}
use Rattle.trend.specs.Read.{comes_to, parts}

-- the observation: a trend may follow it
abbrev pub main_part : Part Metar TrendChange Word Observation
main_part =
    record {
      row = row;
      halts = has_any words;
      lacks = λ o. false;
      takes = λ o. record { observation = o; trend = blank_trend };
      word = λ r g. comes_to r.trend g;
    }

-- WHAT THE GROUPS OF A METAR OR SPECI COME TO, its name first, which stands at the first place of the row: "up to three of BECMG and TEMPO". What follows
-- the "=", and the text's length.
unfoldable pub groups_read : Option ℕ → ℕ → List Piece → Outcome Metar
groups_read tail end gs = report_of tail end parts 3 main_part blank_observation gs

-- the groups behind the name, where that has stood
unfoldable pub behind_name : Bool → Option ℕ → ℕ → List Piece → Outcome Metar
behind_name special tail end gs = part_from tail end main_part (further tail end parts 3) 0 1 (set_special special blank_observation) gs

-- a reading with its verdict; the record is blank where the text is refused
abbrev pub reading : Result ℕ Refused → Metar → Reading
reading v r = record { verdict = v; report = r }

abbrev pub is_refused : Result ℕ Refused → Bool
is_refused (Ok rest) = false
is_refused (Err x) = true

abbrev pub answer : Outcome Metar → Reading
answer o = answer_of reading blank_metar o
