-- Sky: "Four sky layers stand in the record with a count, heights equal or rising, missing ones passed over (else 7). A layer is FEW, SCT, BKN or OVC
-- with hhh and may close with CB or TCU. SKC, NSC, NCD or VVhhh stands alone (else 7)."
-- Assumes nothing: these are definitions.
use Rattle.std.specs.Prelude.{⊤, ℕ, ◌+◌, Bool, true, cond, not, ◌&&◌, ◌||◌, List, [], ◌∷◌, ◌++◌, map, take, drop, set, leb, ltb, eqb, None, Ok, Option, Result, Some}
use Rattle.text.specs.declared.kinds.Refusal.{Refusal}
use Rattle.figures.specs.Quote.{bytes}
use Rattle.figures.specs.declared.kinds.Field.{Field}
use Rattle.figures.specs.Figures.{field_at, field_text, every}
use Rattle.figures.specs.declared.kinds.Field.TheVariants as field
use Rattle.shapes.specs.declared.kinds.Value.{Value}
use Rattle.shapes.specs.Pattern.{Pattern, has_pattern, has_any}
use Rattle.shapes.specs.Shape.{has_shape, print_of}
use Rattle.places.specs.Engine.{Group}
use Rattle.scales.specs.Scale.{figure_of}
use Rattle.scales.specs.Metres.{cloud, metres_reading}
use Rattle.record.specs.declared.aerodrome.Amount.{Amount}
use Rattle.record.specs.declared.aerodrome.Amount.TheVariants as amount
use Rattle.record.specs.declared.aerodrome.Convective.{Convective}
use Rattle.record.specs.declared.aerodrome.Convective.TheVariants as convective
use Rattle.record.specs.declared.aerodrome.Layer.{Layer}
use Rattle.record.specs.declared.aerodrome.Cover.{Cover}
use Rattle.record.specs.declared.aerodrome.Cover.TheVariants as cover
use Rattle.record.specs.declared.aerodrome.Sky.{Sky}
use Rattle.record.specs.SilentAerodrome.{no_amount, is_blank_layer, is_layers}
use Rattle.record.specs.Classes.{class_on}
use Rattle.text.specs.Judge.{judge, and_then}
use Rattle.elements.specs.Judge.{metres_fit}
use Rattle.elements.specs.Wind.{chosen, numbered}
use Rattle.elements.specs.Parts.{may_miss, used, provided, agreeing, then, value_at}

-- ---- shapes

abbrev pub layer_shape : List ℕ
layer_shape = bytes "FEW|SCT|BKN|OVC ### CB|TCU|"

abbrev pub alone_shapes : List Pattern
alone_shapes = bytes "SKC" ∷ bytes "NSC" ∷ bytes "NCD" ∷ bytes "VV###" ∷ []

abbrev pub has_sky : Group → Bool
has_sky g = has_shape layer_shape g || has_any alone_shapes g

-- ---- a height, FEW/// and VV/// being missing, in a TAF 5

abbrev pub height_of : Bool → Field → Result (Option ℕ) Refusal
height_of forecast f =
    may_miss f (provided (not forecast) (Ok None)) (λ n. used (metres_reading cloud n) (λ m. Ok (Some m)))

abbrev pub amount_of : ℕ → Amount
amount_of k = cond (eqb k 0) amount.Few (cond (eqb k 1) amount.Scattered (cond (eqb k 2) amount.Broken amount.Overcast))

abbrev pub convective_of : ℕ → Convective
convective_of k = cond (eqb k 0) convective.Cumulonimbus (cond (eqb k 1) convective.ToweringCumulus convective.None)

abbrev pub layer_by : Bool → Value → Value → Value → Result Layer Refusal
layer_by forecast a h c =
    then (height_of forecast h.field) (λ x. Ok (record { amount = amount_of a.which; height = x; convective = convective_of c.which }))

unfoldable pub read_layer : Bool → Group → Result Layer Refusal
read_layer forecast g = layer_by forecast (value_at layer_shape g 0) (value_at layer_shape g 1) (value_at layer_shape g 2)

-- what stands alone
unfoldable pub read_alone : Bool → Group → Result Cover Refusal
read_alone forecast g =
    cond (has_pattern g (bytes "SKC")) (Ok cover.Clear)
    (cond (has_pattern g (bytes "NSC")) (Ok cover.NoneSignificant)
    (cond (has_pattern g (bytes "NCD")) (Ok cover.NoneDetected) (then (height_of forecast (field_at g 2 3)) (λ h. Ok (cover.Vertical h)))))

-- ---- how it agrees with what stands already

-- no layer's height is above the next one's: the greatest height so far, missing ones passed over
abbrev pub not_above : Option ℕ → Option ℕ → Bool
not_above None h = true
not_above (Some a) None = true
not_above (Some a) (Some b) = leb a b

abbrev pub rises : List Layer → Option ℕ → Bool
rises [] h = true
rises (l ∷ ls) h = not_above l.height h && rises ls h

-- one more layer where k stand; past the fourth there is no room
abbrev pub add_layer : ℕ → Sky → Layer → Sky
add_layer k s l = cond (ltb k 4) (record { cover = cover.Layers; layers = set s.layers k l; count = k + 1 }) s

-- `cavok` stands for the clouds: beside it no layer, none beside what stands alone, and none below one before it
abbrev pub layer_agrees : Bool → ℕ → Sky → Layer → Bool
layer_agrees cavok k s l = not cavok && is_layers s.cover && rises (take k s.layers) l.height

abbrev pub with_layer : Bool → ℕ → Sky → Layer → Result Sky Refusal
with_layer cavok k s l = agreeing (layer_agrees cavok k s l) (Ok (add_layer k s l))

-- "SKC, NSC, NCD or VVhhh stands alone"
abbrev pub alone_agrees : Bool → ℕ → Bool
alone_agrees cavok k = not cavok && eqb k 0

abbrev pub with_alone : Bool → ℕ → Sky → Cover → Result Sky Refusal
with_alone cavok k s c = agreeing (alone_agrees cavok k) (Ok (record { cover = c; layers = s.layers; count = 0 }))

unfoldable pub read_sky : Bool → Bool → ℕ → Group → Sky → Result Sky Refusal
read_sky forecast cavok k g s =
    cond (has_shape layer_shape g) (then (read_layer forecast g) (with_layer cavok k s)) (then (read_alone forecast g) (with_alone cavok k s))

-- ---- writing

abbrev pub height_field : Option ℕ → Field
height_field None = field.Missing
height_field (Some m) = field.Number (figure_of cloud m)

abbrev pub amount_value : Amount → Value
amount_value amount.None = chosen 4
amount_value amount.Few = chosen 0
amount_value amount.Scattered = chosen 1
amount_value amount.Broken = chosen 2
amount_value amount.Overcast = chosen 3

abbrev pub convective_value : Convective → Value
convective_value convective.None = chosen 2
convective_value convective.Cumulonimbus = chosen 0
convective_value convective.ToweringCumulus = chosen 1

unfoldable pub show_layer : Layer → Group
show_layer l = print_of layer_shape (amount_value l.amount ∷ numbered 0 (height_field l.height) ∷ convective_value l.convective ∷ [])

abbrev pub cover_groups : Cover → List Group
cover_groups cover.Layers = []
cover_groups cover.Clear = bytes "SKC" ∷ []
cover_groups cover.NoneSignificant = bytes "NSC" ∷ []
cover_groups cover.NoneDetected = bytes "NCD" ∷ []
cover_groups (cover.Vertical h) = (bytes "VV" ++ field_text 3 (height_field h)) ∷ []

unfoldable pub show_sky : Sky → List Group
show_sky s = cover_groups s.cover ++ map show_layer (take s.count s.layers)

-- ---- judging, in the order count and slots past it, cover, layers: each one's 11, then 7 for standing beside one before it

abbrev pub cover_fits : Bool → Cover → Bool
cover_fits forecast cover.Layers = true
cover_fits forecast cover.Clear = true
cover_fits forecast cover.NoneSignificant = true
cover_fits forecast cover.NoneDetected = true
cover_fits forecast (cover.Vertical h) = metres_fit forecast h

abbrev pub judge_cover : Bool → Bool → Cover → Result ⊤ Refusal
judge_cover forecast cavok c = judge (cover_fits forecast c) (not cavok || is_layers c)

abbrev pub has_amount : Amount → Bool
has_amount a = not (no_amount a)

-- heights as they would be written
abbrev pub written_height : Option ℕ → Option ℕ
written_height = class_on cloud

abbrev pub class_layer : Layer → Layer
class_layer l = record { amount = l.amount; height = written_height l.height; convective = l.convective }

-- the layers after those that were judged, `before`, as they would be written
abbrev pub judge_layers : Bool → Bool → List Layer → List Layer → Result ⊤ Refusal
judge_layers forecast beside before [] = Ok tt
judge_layers forecast beside before (l ∷ ls) =
    and_then (judge (has_amount l.amount && metres_fit forecast l.height) (not beside && rises before (written_height l.height)))
    (judge_layers forecast beside (before ++ (class_layer l ∷ [])) ls)

unfoldable pub judge_sky : Bool → Bool → Sky → Result ⊤ Refusal
judge_sky forecast cavok s =
    and_then (judge (leb s.count 4 && every is_blank_layer (drop s.count s.layers)) true)
    (and_then (judge_cover forecast cavok s.cover)
    (judge_layers forecast (cavok || not (is_layers s.cover)) [] (take s.count s.layers)))

-- ---- what is read back

abbrev pub class_cover : Cover → Cover
class_cover cover.Layers = cover.Layers
class_cover cover.Clear = cover.Clear
class_cover cover.NoneSignificant = cover.NoneSignificant
class_cover cover.NoneDetected = cover.NoneDetected
class_cover (cover.Vertical h) = cover.Vertical (written_height h)

abbrev pub class_sky : Sky → Sky
class_sky s = record { cover = class_cover s.cover; layers = map class_layer s.layers; count = s.count }
