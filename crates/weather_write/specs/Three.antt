-- Weathers in the words of the code: a weather as a recent or as a present or forecast one, and three judgements of which the first count.
-- Assumes nothing: these are definitions.
use Rattle.std.specs.Prelude.{⊤, Bool, true, cond, ltb, Ok, Result}
use Rattle.text.specs.declared.kinds.Refusal.{Refusal}
use Rattle.text.specs.Judge.{judge, and_then}
use Rattle.places.specs.Engine.{Group}
use Rattle.record.specs.declared.aerodrome.Weather.{Weather}
use Rattle.record.specs.declared.aerodrome.Weathers.{Weathers}
use Rattle.elements.specs.Weather.{show_weather, show_recent, three_fit}

-- a weather as a recent or as a present or forecast one
abbrev pub shown_as : Bool → Weather → Group
shown_as recent w = cond recent (show_recent w) (show_weather w)

-- three judgements, the first `count` of them, after the judgement of the count
abbrev pub judge_three : Weathers → Result ⊤ Refusal → Result ⊤ Refusal → Result ⊤ Refusal → Result ⊤ Refusal
judge_three ws a b c =
    and_then (judge (three_fit ws) true)
    (and_then (cond (ltb 0 ws.count) a (Ok tt)) (and_then (cond (ltb 1 ws.count) b (Ok tt)) (cond (ltb 2 ws.count) c (Ok tt))))
