-- Where each group of a METAR or SPECI was taken: its name and the observation's groups in part 0, then its trend, NOSIG or each change a part of its own.
-- Assumes nothing: these are definitions.
use Rattle.std.specs.Prelude.{ℕ, false, cond, List, eqb}
use Rattle.figures.specs.Quote.{bytes}
use Rattle.text.specs.declared.kinds.Cut.{Cut}
use Rattle.text.specs.declared.kinds.Cut.TheVariants as cut
use Rattle.text.specs.Groups.{groups_from, next_of, part_of}
use Rattle.shapes.specs.Pattern.{has_pattern, has_any}
use Rattle.places.specs.declared.kinds.Turn.{Turn}
use Rattle.places.specs.Engine.{Group, onward}
use Rattle.places.specs.Turn.{turn_at}
use Rattle.record.specs.declared.aerodrome.Observation.{Observation}
use Rattle.record.specs.declared.aerodrome.TrendChange.{TrendChange}
use Rattle.metar_row.specs.Row as observation
use Rattle.trend_row.specs.declared.kinds.Word.{Word}
use Rattle.trend_row.specs.declared.kinds.Word.TheVariants as word
use Rattle.trend_row.specs.Row as trend
use Rattle.sources.specs.Trail.{Mark, Move, Takes, Opens, Joins, Ends, front, Taken, trail}
use Rattle.sources.specs.Route.{Route, move_on}
use Rattle.metar_sources.specs.declared.kinds.Met.{Met}
use Rattle.metar_sources.specs.declared.kinds.Met.TheVariants as met

-- NOSIG, BECMG and TEMPO open a part; the unread rest begins at another word that halts
unfoldable pub word_move : Group → Move Word
word_move g =
    cond (has_any observation.stop_words g) Ends
    (cond (has_pattern g (bytes "NOSIG")) (Opens word.Nosig) (Opens (cond (has_pattern g (bytes "BECMG")) word.Becoming word.Temporary)))

abbrev pub route : Route Observation TrendChange Word
route =
    record {
      main = observation.row;
      main_halts = has_any observation.words;
      row = λ w. trend.row (trend.is_change w);
      halts = has_any observation.words;
      opens = word_move;
      joins = λ w g. false;
      joined = λ w. w;
    }

-- THE TRAIL OF A METAR OR SPECI, from its name on
unfoldable pub trail_of : List ℕ → List Taken
trail_of text = trail (move_on route) (front 0 word.Nosig) (groups_from text 0)

-- ---- one group, as the code goes on to it

abbrev pub mark_at : ℕ → Word → ℕ → ℕ → Mark Word
mark_at part w place count = record { part = part; word = w; place = place; count = count }

-- the group's turn, and where reading stands past its place
abbrev pub turn_in : ℕ → Word → ℕ → ℕ → Group → Turn
turn_in part w c k g =
    cond (eqb part 0) (turn_at observation.row (has_any observation.words) c k g) (turn_at (trend.row (trend.is_change w)) (has_any observation.words) c k g)

abbrev pub past_in : ℕ → Word → ℕ → ℕ
past_in part w i = cond (eqb part 0) (onward observation.row i) (onward (trend.row (trend.is_change w)) i)

abbrev pub met_move : ℕ → ℕ → Move Word → Met
met_move start end (Takes i n past) = met.Takes i n past start end
met_move start end (Opens w) = met.Opens w start end
met_move start end (Joins w) = met.Over
met_move start end Ends = met.Over

abbrev pub met_cut : List ℕ → Mark Word → Cut → Met
met_cut text m (cut.End at) = met.Over
met_cut text m (cut.Group s e) = met_move s e (move_on route m (part_of text s e))

-- the next group of the text from a position on
unfoldable pub met_of : List ℕ → ℕ → Mark Word → Met
met_of text from m = met_cut text m (next_of text from)
