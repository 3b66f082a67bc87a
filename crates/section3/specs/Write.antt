-- Writing section 3: what the writer judges of it, the groups that are written, and the section that is read back.
-- Assumes nothing: these are definitions.
use Rattle.std.specs.Prelude.{⊤, Bool, true, cond, not, ◌&&◌, List, [], ◌∷◌, ◌++◌, take, drop, leb, eqb, Ok, Result}
use Rattle.text.specs.declared.kinds.Refusal.{Refusal}
use Rattle.figures.specs.Figures.{every}
use Rattle.text.specs.Judge.{judge, and_then}
use Rattle.places.specs.Engine.{Group, written}
use Rattle.record.specs.declared.surface.CloudLayer.{CloudLayer}
use Rattle.record.specs.declared.surface.CloudLayers.{CloudLayers}
use Rattle.record.specs.declared.surface.Section3.{Section3}
use Rattle.record.specs.Missing.{is_missing}
use Rattle.record.specs.SilentSurface.{is_blank_layer}
use Rattle.synop_groups.specs.Judge.{judge_air, layer_fits}
use Rattle.synop_row.specs.Row.{section3_word}
use Rattle.section3.specs.Row.{rises, class_layers, row}

-- ---- judging: the count and the slots past it, then each layer, 11 before 7; `before` are the layers that were judged

abbrev pub judge_each : List CloudLayer → List CloudLayer → Result ⊤ Refusal
judge_each before [] = Ok tt
judge_each before (l ∷ ls) = and_then (judge (layer_fits l) (rises before l)) (judge_each (before ++ (l ∷ [])) ls)

unfoldable pub judge_layers : CloudLayers → Result ⊤ Refusal
judge_layers ls =
    and_then (judge (leb ls.count 4 && every is_blank_layer (drop ls.count ls.items)) true) (judge_each [] (take ls.count ls.items))

unfoldable pub judge_section3 : Section3 → Result ⊤ Refusal
judge_section3 s = and_then (judge_air s.maximum) (and_then (judge_air s.minimum) (judge_layers s.layers))

-- ---- the groups: "a 333 with no group reads as absent", and none is written

abbrev pub is_silent : Section3 → Bool
is_silent s = is_missing s.maximum.temperature && is_missing s.minimum.temperature && eqb s.layers.count 0

abbrev pub show_word : Section3 → List Group
show_word s = cond (not (is_silent s)) (section3_word ∷ []) []

unfoldable pub show_section3 : Section3 → List Group
show_section3 s = show_word s ++ written row s

-- ---- what is read back: each height the reading of its class, all else as it is

abbrev pub class_section3 : Section3 → Section3
class_section3 s = record { maximum = s.maximum; minimum = s.minimum; layers = class_layers s.layers }
