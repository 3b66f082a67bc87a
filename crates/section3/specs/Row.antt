-- Document 02, No. 10, section 3 of SYNOP and SHIP as a row of places: "1sTTT maximum, 2sTTT minimum, and up to four 8NChh groups, of which N, C and hh may
-- each be missing". "222 before or inside it, 444, 555, a second 333 and any group inside 333 with none of these three shapes [stop reading]; the three keep
-- to refusal 6."
-- Assumes nothing: these are definitions.
use Rattle.std.specs.Prelude.{ℕ, ◌+◌, Bool, true, false, cond, not, ◌||◌, List, [], ◌∷◌, ◌++◌, map, take, drop, set, leb, ltb, Err, Ok, Result}
use Rattle.text.specs.declared.kinds.Refusal.{Refusal}
use Prim.Native.String.{String}
use Rattle.figures.specs.Quote.{bytes}
use Rattle.figures.specs.Figures.{every}
use Rattle.text.specs.declared.kinds.Refusal.TheVariants as refusal
use Rattle.shapes.specs.Pattern.{Pattern, has_pattern, has_any}
use Rattle.places.specs.Engine.{Group, Place}
use Rattle.places.specs.Parts.{Ends, Part}
use Rattle.record.specs.declared.surface.Air.{Air}
use Rattle.record.specs.declared.surface.BaseHeight.{BaseHeight}
use Rattle.record.specs.declared.surface.BaseHeight.TheVariants as height
use Rattle.record.specs.declared.surface.CloudLayer.{CloudLayer}
use Rattle.record.specs.declared.surface.CloudLayers.{CloudLayers}
use Rattle.record.specs.declared.surface.Section3.{Section3}
use Rattle.record.specs.Set.{set_maximum, set_minimum, set_layers}
use Rattle.synop_groups.specs.declared.kinds.Said.{Said}
use Rattle.synop_groups.specs.declared.kinds.Said.TheVariants as said
use Rattle.synop_groups.specs.Reads.{said_air, said_layer}
use Rattle.synop_groups.specs.Shows.{show_air, show_minimum, minimum_spoken, show_layer}
use Rattle.synop_groups.specs.Classes.{class_height, class_layer}
use Rattle.synop_row.specs.Row.{stop_words}
use Rattle.section3.specs.declared.kinds.Told.{Told}
use Rattle.section3.specs.declared.kinds.Told.TheVariants as told

-- ---- heights: "heights within one scale that fall are 7"; a layer is held against all before it, those without hh or of the other scale passed over

abbrev pub not_above : BaseHeight → BaseHeight → Bool
not_above height.Missing h = true
not_above (height.Steps a) height.Missing = true
not_above (height.Steps a) (height.Steps b) = leb a b
not_above (height.Steps a) (height.Bands b) = true
not_above (height.Bands a) height.Missing = true
not_above (height.Bands a) (height.Steps b) = true
not_above (height.Bands a) (height.Bands b) = leb a b

-- a layer may follow another, by their heights as they are written
abbrev pub follows : CloudLayer → CloudLayer → Bool
follows a l = not_above (class_height a.height) (class_height l.height)

abbrev pub rises : List CloudLayer → CloudLayer → Bool
rises before l = every (λ (a : CloudLayer). follows a l) before

-- ---- what a group says

-- a temperature: the minimum, or the maximum
abbrev pub air_by : Bool → Air → Told
air_by true a = told.Minimum a
air_by false a = told.Maximum a

abbrev pub told_by : (Air → Told) → Said → Told
told_by air (said.Refused f) = told.Refused f
told_by air (said.Time t) = told.Nothing
told_by air (said.Station n) = told.Nothing
told_by air (said.Position p) = told.Nothing
told_by air (said.Indicators i) = told.Nothing
told_by air (said.Wind w) = told.Nothing
told_by air (said.Speed n) = told.Nothing
told_by air (said.Air a) = air a
told_by air (said.Moisture m) = told.Nothing
told_by air (said.Pressure p) = told.Nothing
told_by air (said.Level l) = told.Nothing
told_by air (said.Tendency t) = told.Nothing
told_by air (said.Rainfall r) = told.Nothing
told_by air (said.Weather w) = told.Nothing
told_by air (said.Clouds c) = told.Nothing
told_by air (said.Clock c) = told.Nothing
told_by air (said.Layer l) = told.Layer l

-- a layer after those before it
abbrev pub risen : CloudLayers → Told → Told
risen ls told.Nothing = told.Nothing
risen ls (told.Refused f) = told.Refused f
risen ls (told.Maximum a) = told.Maximum a
risen ls (told.Minimum a) = told.Minimum a
risen ls (told.Layer l) = cond (rises (take ls.count ls.items) l) (told.Layer l) (told.Refused refusal.Disagreement)

-- "8//// is no layer"; "a fifth layer is 9", before its figures are judged
unfoldable pub layer_at : CloudLayers → Group → Told
layer_at ls g =
    cond (has_pattern g (bytes "8////")) told.Nothing
    (cond (leb 4 ls.count) (told.Refused refusal.Limit) (risen ls (told_by (air_by false) (said_layer g))))

-- one layer more; past the fourth there is no room
abbrev pub add_layer : CloudLayer → CloudLayers → CloudLayers
add_layer l ls = cond (ltb ls.count 4) (record { items = set ls.items ls.count l; count = ls.count + 1 }) ls

-- the section with what a group says, or the group's refusal
abbrev pub with_told : Told → Section3 → Result Section3 Refusal
with_told told.Nothing s = Ok s
with_told (told.Refused f) s = Err f
with_told (told.Maximum a) s = Ok (set_maximum a s)
with_told (told.Minimum a) s = Ok (set_minimum a s)
with_told (told.Layer l) s = Ok (set_layers (add_layer l s.layers) s)

-- ---- what is written of the layers, and what they are read back as

unfoldable pub show_layers : CloudLayers → List Group
show_layers ls = map show_layer (take ls.count ls.items)

abbrev pub class_layers : CloudLayers → CloudLayers
class_layers ls = record { items = map class_layer (take ls.count ls.items) ++ drop ls.count ls.items; count = ls.count }

-- ---- the row. 8NChh may stand as often as a text has bytes, which is no limit: its reading counts the layers.

abbrev pub place_for : String → List Pattern → ℕ → (Group → Section3 → Told) → (Section3 → List Group) → (Section3 → Section3 → Section3) → Place Section3
place_for shape spoken most says show put =
    record {
      has = λ g. has_pattern g (bytes shape);
      cover = bytes shape ∷ [];
      spoken = spoken;
      most = most;
      must = false;
      ends = false;
      read = λ k g s. with_told (says g s) s;
      show = show;
      put = put;
    }

unfoldable pub row : List (Place Section3)
row =
    place_for "1####" (bytes "1####" ∷ []) 1 (λ g s. told_by (air_by false) (said_air g)) (λ s. show_air s.maximum) (λ s acc. set_maximum s.maximum acc)
    ∷ place_for "2####" minimum_spoken 1 (λ g s. told_by (air_by true) (said_air g)) (λ s. show_minimum s.minimum) (λ s acc. set_minimum s.minimum acc)
    ∷ place_for "8####" (bytes "8####" ∷ []) 2048 (λ g s. layer_at s.layers g) (λ s. show_layers s.layers) (λ s acc. set_layers (class_layers s.layers) acc)
    ∷ []

-- the three shapes
unfoldable pub own_shapes : List Pattern
own_shapes = bytes "1####" ∷ bytes "2####" ∷ bytes "8####" ∷ []

unfoldable pub halts : Group → Bool
halts g = has_any stop_words g || not (has_any own_shapes g)

-- Section 3 as a part of a report that takes it in by `takes`: nothing in it is required, and whatever halts it ends the reading.
abbrev pub part_in : {T W : Type 0} → (Section3 → T) → Part T Section3 W Section3
part_in takes = record { row = row; halts = halts; lacks = λ s. false; takes = takes; word = λ t g. Ends }
