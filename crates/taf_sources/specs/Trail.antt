-- Where each group of a TAF was taken: its name and the main part's groups in part 0, then each change group a part of its own. By the edition, which decides
-- how periods and FM are written.
-- Assumes nothing: these are definitions.
use Rattle.std.specs.Prelude.{ℕ, ◌+◌, Bool, cond, not, ◌&&◌, List, eqb, Err, Ok, Result, Option, Some, None}
use Rattle.text.specs.declared.kinds.Refusal.{Refusal}
use Rattle.text.specs.declared.kinds.Cut.{Cut}
use Rattle.text.specs.declared.kinds.Cut.TheVariants as cut
use Rattle.text.specs.Groups.{groups_from, next_of, part_of as bytes_of}
use Rattle.shapes.specs.Pattern.{has_any}
use Rattle.places.specs.Engine.{Group}
use Rattle.places.specs.Parts.{Begun}
use Rattle.record.specs.declared.aerodrome.Opening.{Opening}
use Rattle.record.specs.declared.aerodrome.Opening.TheVariants as opening
use Rattle.record.specs.declared.aerodrome.Leg.{Leg}
use Rattle.record.specs.declared.aerodrome.Edition.{Edition}
use Rattle.taf_row.specs.declared.kinds.Part.{Part}
use Rattle.taf_row.specs.declared.kinds.Part.TheVariants as part
use Rattle.taf_row.specs.Row.{row, change_words}
use Rattle.taf_row.specs.Tests.{joins}
use Rattle.taf.specs.Read.{opened_by, after_probable, part_of}
use Rattle.sources.specs.declared.kinds.Spot.TheVariants as spot
use Rattle.sources.specs.Trail.{Mark, Move, Takes, Opens, Joins, Ends, front, Taken, trail}
use Rattle.sources.specs.Route.{Route, move_on}
use Rattle.taf_sources.specs.declared.kinds.Step.{Step}

-- a change word opens a part; one with figures that are refused opens none
abbrev pub begun_move : Result (Begun Opening Leg) Refusal → Move Opening
begun_move (Ok b) = Opens b.kind
begun_move (Err f) = Ends

unfoldable pub word_move : Edition → Group → Move Opening
word_move e g = begun_move (opened_by e g)

-- "PROB TEMPO": TEMPO at once after PROB30 or PROB40 belongs to that word, and both open the part
abbrev pub route : Edition → Route Leg Leg Opening
route e =
    record {
      main = row e part.Main;
      main_halts = has_any (change_words e);
      row = λ o. row e (part_of o);
      halts = has_any (change_words e);
      opens = word_move e;
      joins = joins;
      joined = after_probable;
    }

-- THE TRAIL OF A TAF in an edition, from its name on
unfoldable pub trail_of : Edition → List ℕ → List Taken
trail_of e text = trail (move_on (route e)) (front 0 opening.None) (groups_from text 0)

-- ---- one group, as the code goes on to it

abbrev pub mark_at : ℕ → Opening → ℕ → ℕ → Mark Opening
mark_at q o place count = record { part = q; word = o; place = place; count = count }

-- the row that a group is held to
abbrev pub row_of : ℕ → Opening → Part
row_of q o = cond (eqb q 0) part.Main (part_of o)

-- whether the group belongs to the word before it
abbrev pub belongs : ℕ → Opening → ℕ → ℕ → Group → Bool
belongs q o c k g = not (eqb q 0) && ((eqb c 0 && eqb k 0) && joins o g)

-- a group from start up to end, in a part that `o` opened
abbrev pub met_move : Opening → ℕ → ℕ → Move Opening → Option Step
met_move o start end (Takes i n past) = Some (record { parts = 0; spot = spot.At i n; opener = o; place = past; count = n + 1; start = start; end = end })
met_move o start end (Opens w) = Some (record { parts = 1; spot = spot.Opening; opener = w; place = 0; count = 0; start = start; end = end })
met_move o start end (Joins w) = Some (record { parts = 0; spot = spot.Joined; opener = w; place = 0; count = 0; start = start; end = end })
met_move o start end Ends = None

abbrev pub met_cut : Edition → List ℕ → Mark Opening → Cut → Option Step
met_cut e text m (cut.End at) = None
met_cut e text m (cut.Group start end) = met_move m.word start end (move_on (route e) m (bytes_of text start end))

-- the next group of the text from a position on
unfoldable pub met_of : Edition → List ℕ → ℕ → Mark Opening → Option Step
met_of e text from m = met_cut e text m (next_of text from)
