-- Reading a trend: the parts of a METAR or SPECI after its observation (places, Parts), each opened by NOSIG, BECMG or TEMPO.
-- Assumes nothing: these are definitions.
use Rattle.std.specs.Prelude.{◌+◌, true, false, cond, set, ltb, Ok}
use Rattle.figures.specs.Quote.{bytes}
use Rattle.text.specs.declared.kinds.Refusal.TheVariants as refusal
use Rattle.shapes.specs.Pattern.{has_pattern, has_any}
use Rattle.places.specs.Engine.{Group}
use Rattle.places.specs.Parts.{Word as Coming, Ends, Opens, Bars, Part, Parts}
use Rattle.record.specs.declared.aerodrome.Tendency.{Tendency}
use Rattle.record.specs.declared.aerodrome.Tendency.TheVariants as tendency
use Rattle.record.specs.declared.aerodrome.TrendChange.{TrendChange}
use Rattle.record.specs.declared.aerodrome.Trend.{Trend}
use Rattle.record.specs.declared.aerodrome.Metar.{Metar}
use Rattle.record.specs.Trend.{set_tendency, blank_trend_change}
use Rattle.metar_row.specs.Row.{stop_words, words}
use Rattle.trend_row.specs.declared.kinds.Word.{Word}
use Rattle.trend_row.specs.declared.kinds.Word.TheVariants as word
use Rattle.trend_row.specs.Row.{is_change, row}
use Rattle.trend_row.specs.Tests.{lacks_in}

-- ---- what a word opens

abbrev pub tendency_of : Word → Tendency
tendency_of word.Nosig = tendency.None
tendency_of word.Becoming = tendency.Becoming
tendency_of word.Temporary = tendency.Temporary

abbrev pub start_of : Word → TrendChange
start_of w = set_tendency (tendency_of w) blank_trend_change

abbrev pub opens : Word → Coming Word TrendChange
opens w = Opens (Ok (record { kind = w; start = start_of w }))

-- ---- what a word comes to, after what was read of the trend

-- "NOSIG alone": "a second where one may stand" is 6, and "NOSIG beside one 7"
abbrev pub nosig_after : Trend → Coming Word TrendChange
nosig_after t = cond t.nosig (Bars refusal.Order) (cond (ltb 0 t.count) (Bars refusal.Disagreement) (opens word.Nosig))

-- a BECMG or TEMPO after NOSIG is 7
abbrev pub change_after : Trend → Group → Coming Word TrendChange
change_after t g = cond t.nosig (Bars refusal.Disagreement) (opens (cond (has_pattern g (bytes "BECMG")) word.Becoming word.Temporary))

-- "NOSIG, BECMG and TEMPO no longer stop the reading; WS and RMK still do."
unfoldable pub comes_to : Trend → Group → Coming Word TrendChange
comes_to t g = cond (has_any stop_words g) Ends (cond (has_pattern g (bytes "NOSIG")) (nosig_after t) (change_after t g))

-- ---- the trend with a part that is whole

-- one more change; past the third there is no room
abbrev pub with_change : Trend → TrendChange → Trend
with_change t c = cond (ltb t.count 3) (record { items = set t.items t.count c; count = t.count + 1; nosig = t.nosig }) t

abbrev pub taking : Word → Trend → TrendChange → Trend
taking word.Nosig t c = record { items = t.items; count = t.count; nosig = true }
taking word.Becoming t c = with_change t c
taking word.Temporary t c = with_change t c

-- ---- the parts

-- a part held to its row, which the report takes in by `takes`
abbrev pub part_in : Word → (TrendChange → Metar) → Part Metar TrendChange Word TrendChange
part_in w takes =
    record { row = row (is_change w); halts = has_any words; lacks = λ c. lacks_in w c.body; takes = takes; word = λ r g. comes_to r.trend g }

abbrev pub part_after : Metar → Word → Part Metar TrendChange Word TrendChange
part_after r w = part_in w (λ c. record { observation = r.observation; trend = taking w r.trend c })

abbrev pub parts : Parts Metar TrendChange Word
parts = record { part = part_after; joins = λ w g. false; joined = λ w. w }
