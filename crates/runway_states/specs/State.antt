-- Document 02, No. 13, "Runway state": "the eight-figure group of source document 003: runway RR .., deposit, extent, depth, braking, by tables 0919, 0519,
-- 1079, 0366. Also CLRD// after RR, and SNOCLO alone. Any of the four after RR may be missing, as slashes. Up to four groups, after RE and before the trend."
-- Assumes nothing: these are definitions.
use Rattle.std.specs.Prelude.{⊤, ℕ, ◌+◌, Bool, true, false, cond, not, ◌&&◌, List, [], ◌∷◌, ◌++◌, map, take, drop, set, leb, ltb, eqb, None, Ok, Option, Result, Some}
use Rattle.text.specs.declared.kinds.Refusal.{Refusal}
use Rattle.figures.specs.Quote.{bytes}
use Rattle.figures.specs.declared.kinds.Field.{Field}
use Rattle.figures.specs.declared.kinds.Field.TheVariants as field
use Rattle.figures.specs.Figures.{field_at, field_text, every}
use Rattle.text.specs.Judge.{judge, and_then}
use Rattle.shapes.specs.Pattern.{Pattern, has_pattern, has_any}
use Rattle.places.specs.Engine.{Group, Place}
use Rattle.scales.specs.Scale.{foot_of}
use Rattle.scales.specs.Metres.{metres_figure, metres_reading}
use Rattle.scales.specs.Fields.{field_by}
use Rattle.scales.specs.Depth.{depth}
use Rattle.record.specs.declared.aerodrome.Depth.{Depth}
use Rattle.record.specs.declared.aerodrome.Depth.TheVariants as deep
use Rattle.record.specs.declared.aerodrome.Condition.{Condition}
use Rattle.record.specs.declared.aerodrome.Condition.TheVariants as condition
use Rattle.record.specs.declared.aerodrome.RunwayState.{RunwayState}
use Rattle.record.specs.declared.aerodrome.RunwayStates.{RunwayStates}
use Rattle.record.specs.Missing.{present, optional}
use Rattle.record.specs.SilentAerodrome.{is_blank_state}
use Rattle.elements.specs.Parts.{may_miss, used, provided, agreeing, disagrees, then}
use Rattle.aerodrome_groups.specs.Head.{field_of}
use Rattle.runway_states.specs.declared.tables.Table.TheVariants as table
use Rattle.runway_states.specs.Tables.{has, runways, deposits, extents, brakings, holds}

-- ---- the shapes: eight figures or slashes; RR and CLRD//, whose strokes are fixed; SNOCLO

abbrev pub figures_shape : Pattern
figures_shape = bytes "########"

abbrev pub cleared_shape : Pattern
cleared_shape = bytes "##CLRD//"

abbrev pub state_shapes : List Pattern
state_shapes = figures_shape ∷ cleared_shape ∷ []

abbrev pub snoclo_shape : Pattern
snoclo_shape = bytes "SNOCLO"

-- ---- reading

-- a field that holds figures of its table or is missing, as a number
abbrev pub number_in : Field → Option ℕ
number_in (field.Number n) = Some n
number_in field.Missing = None
number_in field.Mixed = None
number_in field.Other = None

-- "Depth is read in mm ..; 99 closed"
abbrev pub depth_by : ℕ → Result Depth Refusal
depth_by n = cond (eqb n 99) (Ok deep.Closed) (used (metres_reading depth n) (λ m. Ok (deep.Millimetres m)))

abbrev pub read_depth : Field → Result Depth Refusal
read_depth f = may_miss f (Ok deep.Missing) depth_by

-- deposit, extent and braking are figures of their tables, or missing
abbrev pub are_listed : Field → Field → Field → Bool
are_listed d e b = holds table.Deposits true d && holds table.Extents true e && holds table.Brakings true b

abbrev pub read_covered : Field → Field → Field → Field → Result Condition Refusal
read_covered d e h b = provided (are_listed d e b) (then (read_depth h) (λ x. Ok (condition.Covered (number_in d) (number_in e) x (number_in b))))

abbrev pub read_condition : Group → Result Condition Refusal
read_condition g =
    cond (has_pattern g cleared_shape) (Ok condition.Cleared) (read_covered (field_at g 2 1) (field_at g 3 1) (field_at g 4 2) (field_at g 6 2))

unfoldable pub read_state : Group → Result RunwayState Refusal
read_state g =
    provided (holds table.Runways false (field_at g 0 2))
    (then (read_condition g) (λ c. Ok (record { runway = number_in (field_at g 0 2); condition = c })))

-- one more where k stand; past the fourth there is no room
abbrev pub with_state : ℕ → RunwayStates → RunwayState → RunwayStates
with_state k ss x = cond (ltb k 4) (record { items = set ss.items k x; count = k + 1; snoclo = ss.snoclo }) ss

abbrev pub with_snoclo : Bool → RunwayStates → RunwayStates
with_snoclo x ss = record { items = ss.items; count = ss.count; snoclo = x }

-- ---- writing

abbrev pub depth_field : Depth → Field
depth_field deep.Missing = field.Missing
depth_field deep.Closed = field.Number 99
depth_field (deep.Millimetres m) = field_by (metres_figure depth m)

abbrev pub show_condition : Condition → Group
show_condition condition.Cleared = bytes "CLRD//"
show_condition (condition.Covered d e h b) = field_text 1 (field_of d) ++ field_text 1 (field_of e) ++ field_text 2 (depth_field h) ++ field_text 2 (field_of b)

unfoldable pub show_state : RunwayState → Group
show_state s = field_text 2 (field_of s.runway) ++ show_condition s.condition

unfoldable pub show_states : RunwayStates → List Group
show_states ss = map show_state (take ss.count ss.items)

-- ---- judging: the count and the slots past it, then each state; "SNOCLO beside a group 7", which the first one completes, as SNOCLO is written first

-- "0 to 99,999 in a record"
abbrev pub depth_fits : Depth → Bool
depth_fits deep.Missing = true
depth_fits deep.Closed = true
depth_fits (deep.Millimetres m) = leb m 99999

abbrev pub condition_fits : Condition → Bool
condition_fits condition.Cleared = true
condition_fits (condition.Covered d e h b) = optional (has deposits) d && optional (has extents) e && depth_fits h && optional (has brakings) b

abbrev pub state_fits : RunwayState → Bool
state_fits s = present (has runways) s.runway && condition_fits s.condition

abbrev pub judge_each_state : Bool → List RunwayState → Result ⊤ Refusal
judge_each_state snoclo [] = Ok tt
judge_each_state snoclo (s ∷ ss) = and_then (judge (state_fits s) (not snoclo)) (judge_each_state snoclo ss)

unfoldable pub judge_states : RunwayStates → Result ⊤ Refusal
judge_states ss =
    and_then (judge (leb ss.count 4 && every is_blank_state (drop ss.count ss.items)) true) (judge_each_state ss.snoclo (take ss.count ss.items))

-- ---- what is read back

abbrev pub class_depth : Depth → Depth
class_depth deep.Missing = deep.Missing
class_depth deep.Closed = deep.Closed
class_depth (deep.Millimetres m) = deep.Millimetres (foot_of depth m)

abbrev pub class_condition : Condition → Condition
class_condition condition.Cleared = condition.Cleared
class_condition (condition.Covered d e h b) = condition.Covered d e (class_depth h) b

abbrev pub class_state : RunwayState → RunwayState
class_state s = record { runway = s.runway; condition = class_condition s.condition }

-- those that count; what stands past them is as it was
abbrev pub class_states : RunwayStates → RunwayStates
class_states ss = record { items = map class_state (take ss.count ss.items) ++ drop ss.count ss.items; count = ss.count; snoclo = ss.snoclo }

-- ---- the places: groups, or SNOCLO. "SNOCLO beside a group 7", at whichever comes second, so that each may stand after the other: a group after SNOCLO has a
-- place of its own, where its figures are judged first. A second SNOCLO has none, and is 6.

abbrev pub states_place : Place RunwayStates
states_place =
    record {
      has = has_any state_shapes;
      cover = state_shapes;
      spoken = state_shapes;
      most = 4;
      must = false;
      ends = false;
      read = λ k g ss. then (read_state g) (λ x. Ok (with_state k ss x));
      show = show_states;
      put = λ ss acc. with_snoclo acc.snoclo (class_states ss);
    }

abbrev pub snoclo_place : Place RunwayStates
snoclo_place =
    record {
      has = λ g. has_pattern g snoclo_shape;
      cover = snoclo_shape ∷ [];
      spoken = snoclo_shape ∷ [];
      most = 1;
      must = false;
      ends = false;
      read = λ k g ss. agreeing (eqb ss.count 0) (Ok (with_snoclo true ss));
      show = λ ss. cond ss.snoclo (snoclo_shape ∷ []) [];
      put = λ ss acc. with_snoclo ss.snoclo acc;
    }

abbrev pub beside_place : Place RunwayStates
beside_place =
    record {
      has = has_any state_shapes;
      cover = state_shapes;
      spoken = [];
      most = 1;
      must = false;
      ends = false;
      read = λ k g ss. then (read_state g) (λ x. disagrees);
      show = λ ss. [];
      put = λ ss acc. acc;
    }
