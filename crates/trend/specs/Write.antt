-- Writing a trend: what the writer judges of it, the groups that are written, and the trend that is read back.
-- Assumes nothing: these are definitions.
use Rattle.std.specs.Prelude.{⊤, Bool, true, cond, not, ◌&&◌, List, [], ◌∷◌, ◌++◌, map, take, drop, leb, Ok, Result}
use Rattle.text.specs.declared.kinds.Refusal.{Refusal}
use Rattle.figures.specs.Quote.{bytes}
use Rattle.figures.specs.Figures.{every}
use Rattle.text.specs.Judge.{judge, and_then}
use Rattle.places.specs.Engine.{Group, written, put_all}
use Rattle.record.specs.declared.aerodrome.Tendency.{Tendency}
use Rattle.record.specs.declared.aerodrome.Tendency.TheVariants as tendency
use Rattle.record.specs.declared.aerodrome.Body.{Body}
use Rattle.record.specs.declared.aerodrome.TrendChange.{TrendChange}
use Rattle.record.specs.declared.aerodrome.Trend.{Trend}
use Rattle.record.specs.Trend.{set_tendency, blank_trend_change}
use Rattle.record.specs.SilentAerodrome.{no_tendency, is_blank_trend_change}
use Rattle.elements.specs.Body.{changing, judge_body, has_element}
use Rattle.trend_row.specs.Times.{hours_fit}
use Rattle.trend_row.specs.Row.{row}

-- ---- judging: the count and the slots past it, then change by change its word, its times, its body, and that it has an element

abbrev pub judge_change_body : Body → Result ⊤ Refusal
judge_change_body b = and_then (judge_body changing b) (judge (has_element b) true)

-- "NOSIG beside one 7": at the word, before its times and its body
unfoldable pub judge_change : Bool → TrendChange → Result ⊤ Refusal
judge_change nosig c = and_then (judge (not (no_tendency c.tendency)) (not nosig)) (and_then (judge (hours_fit c.times.is) true) (judge_change_body c.body))

abbrev pub judge_each : Bool → List TrendChange → Result ⊤ Refusal
judge_each nosig [] = Ok tt
judge_each nosig (c ∷ cs) = and_then (judge_change nosig c) (judge_each nosig cs)

unfoldable pub judge_trend : Trend → Result ⊤ Refusal
judge_trend t = and_then (judge (leb t.count 3 && every is_blank_trend_change (drop t.count t.items)) true) (judge_each t.nosig (take t.count t.items))

-- ---- the groups

abbrev pub show_word : Tendency → List Group
show_word tendency.None = []
show_word tendency.Becoming = bytes "BECMG" ∷ []
show_word tendency.Temporary = bytes "TEMPO" ∷ []

unfoldable pub show_change : TrendChange → List Group
show_change c = show_word c.tendency ++ written (row true) c

abbrev pub show_each : List TrendChange → List Group
show_each [] = []
show_each (c ∷ cs) = show_change c ++ show_each cs

abbrev pub show_nosig : Bool → List Group
show_nosig nosig = cond nosig (bytes "NOSIG" ∷ []) []

unfoldable pub show_trend : Trend → List Group
show_trend t = show_nosig t.nosig ++ show_each (take t.count t.items)

-- ---- what is read back: each rounded number the reading of its class, all else as it is

unfoldable pub class_change : TrendChange → TrendChange
class_change c = put_all (row true) c (set_tendency c.tendency blank_trend_change)

unfoldable pub class_trend : Trend → Trend
class_trend t =
    record { items = map class_change (take t.count t.items) ++ drop t.count t.items; count = t.count; nosig = t.nosig }
