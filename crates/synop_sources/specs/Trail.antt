-- Where each group of a SYNOP or SHIP was taken. Part 0 has its name, the groups that are known by their position, and section 1; part 1, which 333 opens, has
-- section 3. A place of section 1 or 3 has its number in the row of that section; the groups before section 1 stand in no row, and have the numbers from 10 on.
-- Assumes nothing: these are definitions.
use Rattle.std.specs.Prelude.{ℕ, Bool, false, cond, not, ◌&&◌, List, [], ◌∷◌, eqb, leb}
use Rattle.figures.specs.Quote.{bytes}
use Rattle.text.specs.declared.kinds.Refusal.TheVariants as refusal
use Rattle.text.specs.declared.kinds.Cut.{Cut}
use Rattle.text.specs.declared.kinds.Cut.TheVariants as cut
use Rattle.text.specs.Groups.{Piece, groups_from, next_of, part_of}
use Rattle.shapes.specs.Pattern.{has_pattern, has_any}
use Rattle.places.specs.declared.kinds.Turn.{Turn}
use Rattle.places.specs.declared.kinds.Turn.TheVariants as turn
use Rattle.places.specs.Engine.{Group}
use Rattle.places.specs.Turn.{turn_at}
use Rattle.synop_row.specs.declared.kinds.Needs.{Needs}
use Rattle.synop_row.specs.Row.{row, stop_words, section3_word}
use Rattle.section3.specs.Row as third
use Rattle.section3.specs.Step.{Opened}
use Rattle.synop.specs.Read.{is_nil}
use Rattle.sources.specs.Trail.{Mark, Move, Takes, Opens, Joins, Ends, Taken, trail}
use Rattle.synop_sources.specs.declared.kinds.Met.{Met}
use Rattle.synop_sources.specs.declared.kinds.Met.TheVariants as met

-- ---- the groups known by position: "AAXX YYGGiw IIiii, or BBXX, a call sign .., YYGGiw, 99LaLaLa, QcLoLoLoLo", then iRixhVV and Nddff; "NIL after IIiii
-- ends a land report."

abbrev pub name_place : ℕ
name_place = 10

abbrev pub sign_place : ℕ
sign_place = 11

abbrev pub time_place : ℕ
time_place = 12

abbrev pub station_place : ℕ
station_place = 13

abbrev pub latitude_place : ℕ
latitude_place = 14

abbrev pub longitude_place : ℕ
longitude_place = 15

abbrev pub nil_place : ℕ
nil_place = 16

abbrev pub indicators_place : ℕ
indicators_place = 17

abbrev pub wind_place : ℕ
wind_place = 18

abbrev pub head_at : ℕ → Turn
head_at i = turn.At i 0

-- the place of the group after that of place c, where k groups stand; the name comes first, and nothing comes after NIL
abbrev pub head_turn : Bool → ℕ → ℕ → Group → Turn
head_turn ship c k g =
    cond (eqb c name_place) (cond (eqb k 0) (head_at name_place) (cond ship (head_at sign_place) (head_at time_place)))
    (cond (eqb c sign_place) (head_at time_place)
    (cond (eqb c time_place) (cond ship (head_at latitude_place) (head_at station_place))
    (cond (eqb c station_place) (cond (is_nil g) (head_at nil_place) (head_at indicators_place))
    (cond (eqb c latitude_place) (head_at longitude_place)
    (cond (eqb c longitude_place) (head_at indicators_place)
    (cond (eqb c indicators_place) (head_at wind_place) (turn.Refused refusal.Shape)))))))

-- ---- section 1

-- What iR, ix and ff require of section 1 decides whether a text is accepted, and not where a group is taken.
abbrev pub free : Needs
free = record { rain = false; weather = false; speed = false }

-- section 1 begins behind Nddff
abbrev pub section_turn : ℕ → ℕ → Group → Turn
section_turn c k g = cond (eqb c wind_place) (turn_at (row free) (has_any stop_words) 0 0 g) (turn_at (row free) (has_any stop_words) c k g)

-- ---- the walk, of a ship's report or a land station's

abbrev pub mark_at : ℕ → ℕ → ℕ → Mark Opened
mark_at part c k = record { part = part; word = tt; place = c; count = k }

-- the name is still to come
abbrev pub start : Mark Opened
start = mark_at 0 name_place 0

-- reading stands before Nddff
abbrev pub in_head : ℕ → Bool
in_head c = leb name_place c && not (eqb c wind_place)

abbrev pub turn_in : Bool → ℕ → ℕ → ℕ → Group → Turn
turn_in ship part c k g =
    cond (eqb part 0) (cond (in_head c) (head_turn ship c k g) (section_turn c k g)) (turn_at third.row third.halts c k g)

-- 333 opens section 3, once; the unread rest begins at any other word
abbrev pub word_move : ℕ → Group → Move Opened
word_move part g = cond (eqb part 0 && has_pattern g section3_word) (Opens tt) Ends

abbrev pub move_by : ℕ → Group → Turn → Move Opened
move_by part g (turn.At i n) = Takes i n i
move_by part g turn.Halt = word_move part g
move_by part g (turn.Refused f) = Ends

unfoldable pub move : Bool → Mark Opened → Group → Move Opened
move ship m g = move_by m.part g (turn_in ship m.part m.place m.count g)

-- the first group is BBXX
abbrev pub ship_by : List Piece → Bool
ship_by [] = false
ship_by (g ∷ gs) = has_pattern g.bytes (bytes "BBXX")

unfoldable pub ship_in : List ℕ → Bool
ship_in text = ship_by (groups_from text 0)

-- THE TRAIL OF A SYNOP OR SHIP, from its name on
unfoldable pub trail_of : List ℕ → List Taken
trail_of text = trail (move (ship_in text)) start (groups_from text 0)

-- ---- one group, as the code goes on to it

abbrev pub met_move : ℕ → ℕ → Move Opened → Met
met_move start end (Takes i n past) = met.Takes i n start end
met_move start end (Opens w) = met.Opens start end
met_move start end (Joins w) = met.Over
met_move start end Ends = met.Over

abbrev pub met_cut : List ℕ → Bool → Mark Opened → Cut → Met
met_cut text ship m (cut.End at) = met.Over
met_cut text ship m (cut.Group s e) = met_move s e (move ship m (part_of text s e))

-- the next group of the text from a position on
unfoldable pub met_of : List ℕ → ℕ → Bool → Mark Opened → Met
met_of text from ship m = met_cut text ship m (next_of text from)
