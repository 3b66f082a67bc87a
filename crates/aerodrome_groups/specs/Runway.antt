-- Runway visual ranges, up to four.
-- Assumes nothing: these are definitions.
use Rattle.std.specs.Prelude.{⊤, ℕ, ◌+◌, Bool, true, false, cond, ◌&&◌, List, [], ◌∷◌, map, take, drop, set, leb, ltb, eqb, None, Ok, Option, Result, Some}
use Rattle.text.specs.declared.kinds.Refusal.{Refusal}
use Rattle.figures.specs.Quote.{bytes}
use Rattle.figures.specs.Figures.{every}
use Rattle.figures.specs.declared.kinds.Field.TheVariants as field
use Rattle.text.specs.Judge.{judge, and_then}
use Rattle.shapes.specs.declared.kinds.Value.{Value}
use Rattle.shapes.specs.Shape.{print_of}
use Rattle.places.specs.Engine.{Group}
use Rattle.scales.specs.declared.kinds.Range.{Range}
use Rattle.scales.specs.declared.kinds.Range.TheVariants as range
use Rattle.scales.specs.Scale.{figure_of}
use Rattle.scales.specs.Metres.{runway, range_reading}
use Rattle.record.specs.declared.aerodrome.Side.{Side}
use Rattle.record.specs.declared.aerodrome.Side.TheVariants as side
use Rattle.record.specs.declared.aerodrome.Course.{Course}
use Rattle.record.specs.declared.aerodrome.Course.TheVariants as course
use Rattle.record.specs.declared.aerodrome.Runway.{Runway}
use Rattle.record.specs.declared.aerodrome.Runways.{Runways}
use Rattle.record.specs.Classes.{class_on}
use Rattle.elements.specs.Judge.{metres_fit}
use Rattle.record.specs.Missing.{between, present}
use Rattle.record.specs.SilentAerodrome.{is_blank_runway}
use Rattle.elements.specs.Parts.{figured, may_miss, used, provided, then, value_at}
use Rattle.elements.specs.Wind.{chosen, numbered}
use Rattle.aerodrome_groups.specs.Head.{field_of}

-- ---- runway ranges: "R, runway 01-36 with or without L, C or R, a stroke, the range or ////, and U, D, N or nothing"

abbrev pub runway_shape : List ℕ
runway_shape = bytes "R## L|C|R| / M|P| #### U|D|N|"

abbrev pub side_of : ℕ → Side
side_of k = cond (eqb k 0) side.Left (cond (eqb k 1) side.Centre (cond (eqb k 2) side.Right side.None))

abbrev pub course_of : ℕ → Course
course_of k = cond (eqb k 0) course.Up (cond (eqb k 1) course.Down (cond (eqb k 2) course.NoChange course.None))

abbrev pub range_of : ℕ → ℕ → Range
range_of k n = cond (eqb k 0) (range.Below n) (cond (eqb k 1) (range.Above n) (range.Exact n))

-- the mark's alternatives are M, P and none
abbrev pub read_range : Value → Value → Result (Option ℕ) Refusal
read_range mark f =
    may_miss f.field (provided (eqb mark.which 2) (Ok None)) (λ n. used (range_reading (range_of mark.which n)) (λ m. Ok (Some m)))

abbrev pub runway_by : Value → Value → Value → Value → Value → Result Runway Refusal
runway_by n s mark f c =
    figured n.field
    (λ k. provided (leb 1 k && leb k 36)
    (then (read_range mark f) (λ x. Ok (record { number = Some k; side = side_of s.which; range = x; course = course_of c.which }))))

unfoldable pub read_runway : Group → Result Runway Refusal
read_runway g = runway_by (value_at runway_shape g 0) (value_at runway_shape g 1) (value_at runway_shape g 3) (value_at runway_shape g 4) (value_at runway_shape g 5)

-- one more where k stand; past the fourth there is no room
abbrev pub with_runway : ℕ → Runways → Runway → Runways
with_runway k rs x = cond (ltb k 4) (record { items = set rs.items k x; count = k + 1 }) rs

-- ---- writing

abbrev pub side_value : Side → Value
side_value side.None = chosen 3
side_value side.Left = chosen 0
side_value side.Centre = chosen 1
side_value side.Right = chosen 2

abbrev pub course_value : Course → Value
course_value course.None = chosen 3
course_value course.Up = chosen 0
course_value course.Down = chosen 1
course_value course.NoChange = chosen 2

-- the mark and the figures of a runway range
abbrev pub mark_of : Range → Value
mark_of (range.Below n) = chosen 0
mark_of (range.Exact n) = chosen 2
mark_of (range.Above n) = chosen 1

abbrev pub figures_of : Range → Value
figures_of (range.Below n) = numbered 0 (field.Number n)
figures_of (range.Exact n) = numbered 0 (field.Number n)
figures_of (range.Above n) = numbered 0 (field.Number n)

abbrev pub mark_value : Option ℕ → Value
mark_value None = chosen 2
mark_value (Some m) = mark_of (figure_of runway m)

abbrev pub range_value : Option ℕ → Value
range_value None = numbered 0 field.Missing
range_value (Some m) = figures_of (figure_of runway m)

unfoldable pub show_runway : Runway → Group
show_runway w =
    print_of runway_shape
    (numbered 0 (field_of w.number) ∷ side_value w.side ∷ chosen 0 ∷ mark_value w.range ∷ range_value w.range ∷ course_value w.course ∷ [])

unfoldable pub show_runways : Runways → List Group
show_runways rs = map show_runway (take rs.count rs.items)

-- ---- judging: "a count over its limit, a slot past its count .. that is not blank", then each in turn

abbrev pub is_runway : Option ℕ → Bool
is_runway = present (between 1 36)

abbrev pub judge_each_runway : List Runway → Result ⊤ Refusal
judge_each_runway [] = Ok tt
judge_each_runway (w ∷ ws) = and_then (judge (is_runway w.number && metres_fit false w.range) true) (judge_each_runway ws)

unfoldable pub judge_runways : Runways → Result ⊤ Refusal
judge_runways w =
    and_then (judge (leb w.count 4 && every is_blank_runway (drop w.count w.items)) true) (judge_each_runway (take w.count w.items))

-- ---- what is read back

abbrev pub class_range : Option ℕ → Option ℕ
class_range = class_on runway

abbrev pub class_runway : Runway → Runway
class_runway w = record { number = w.number; side = w.side; range = class_range w.range; course = w.course }

abbrev pub class_runways : Runways → Runways
class_runways w = record { items = map class_runway w.items; count = w.count }
