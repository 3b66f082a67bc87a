-- Sections 3 of records that no text is read as: the rulings' examples of what the writer judges and writes.
-- Assumes nothing.
use Rattle.std.specs.Prelude.{Err, None, Ok, Option, Some}
use Prim.Native.Nat.{ℕ, ◌-◌}
use mathlib.Core.Path.{◌≡◌, refl}
use mathlib.Core.List.{List, [], ◌∷◌, ◌++◌, map}
use lib.ListN.{length, replicate}
use Rattle.figures.specs.Quote.{bytes}
use Rattle.figures.specs.Figures.{figures, number_text, slashes, field_text}
use Rattle.text.specs.declared.kinds.Refusal.TheVariants as refusal
use Rattle.scales.specs.Scale.{run, class_in}
use Rattle.scales.specs.Metres.{base, metres_figure}
use Rattle.scales.specs.Layers.{layer_steps, layer_bands}
use Rattle.record.specs.declared.surface.BaseHeight.{BaseHeight}
use Rattle.record.specs.declared.surface.BaseHeight.TheVariants as height
use Rattle.record.specs.declared.surface.CloudLayer.{CloudLayer}
use Rattle.record.specs.declared.surface.Section3.{Section3}
use Rattle.record.specs.Blank.{blank_layer}
use Rattle.synop_groups.specs.Shows.{show_air, show_minimum, show_layer}
use Rattle.synop_groups.specs.Judge.{judge_air, layer_fits}
use Rattle.section3.specs.Row.{row, show_layers}
use Rattle.section3.specs.Write.{judge_layers, judge_section3, show_section3}

-- a layer of which N and the height are told
abbrev pub at : Option ℕ → BaseHeight → CloudLayer
at n h = record { amount = n; cloud = None; height = h }

-- a section of these layers alone
abbrev pub layers_of : List CloudLayer → Section3
layers_of ls =
    record {
      maximum = record { temperature = None };
      minimum = record { temperature = None };
      layers = record { items = ls ++ replicate (4 - length ls) blank_layer; count = length ls };
    }

-- 21,000 m are written 88 and 21,001 m 89, 9 m by bands 90; 1,790 m and then 1,501 m do not fall: both are written 50
pub heights-written : map show_section3
    (layers_of (at None (height.Steps 21000) ∷ at None (height.Steps 21001) ∷ at None (height.Bands 9) ∷ [])
    ∷ layers_of (at (Some 1) (height.Steps 1790) ∷ at (Some 2) (height.Steps 1501) ∷ []) ∷ [])
    ≡ (bytes "333" ∷ bytes "8//88" ∷ bytes "8//89" ∷ bytes "8//90" ∷ []) ∷ (bytes "333" ∷ bytes "81/50" ∷ bytes "82/50" ∷ []) ∷ []
unfolding show_section3 row show_air show_minimum show_layers show_layer field_text number_text slashes figures metres_figure layer_steps layer_bands base run class_in
heights-written = refl

-- a layer all missing; the second layer's 7 before the third one's 11; heights that do not fall as they are written; five layers
pub layers-judged : map judge_section3
    (layers_of (blank_layer ∷ [])
    ∷ layers_of (at None (height.Steps 900) ∷ at None (height.Steps 300) ∷ at (Some 10) height.Missing ∷ [])
    ∷ layers_of (at (Some 1) (height.Steps 1790) ∷ at (Some 2) (height.Steps 1501) ∷ [])
    ∷ record { maximum = record { temperature = None }; minimum = record { temperature = None }; layers = record { items = replicate 4 (at (Some 1) height.Missing); count = 5 } } ∷ [])
    ≡ Err refusal.Value ∷ Err refusal.Disagreement ∷ Ok tt ∷ Err refusal.Value ∷ []
unfolding judge_section3 judge_layers judge_air layer_fits layer_steps layer_bands base run class_in
layers-judged = refl
