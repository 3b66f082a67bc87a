-- One sky group: what is printed of a layer has the shape of a layer and is read as the layer; what stands alone has one of its own patterns, not the
-- shape of a layer, and is read as it was.
-- Assumes nothing.
use Rattle.std.specs.Prelude.{ℕ, Ok, Option}
use native.Mathlib.Omega.{arith}
use mathlib.Core.Path.{◌≡◌, refl, sym, ap, ◌∙◌}
use mathlib.Core.Bool.{Bool, true, false, ◌||◌, or-true, or_assoc, false≢true}
use mathlib.Core.List.{List, [], ◌∷◌, ◌++◌, append-nil}
use lib.ListN.{length, get_or}
use lib.Dec.{ltb}
use Rattle.figures.specs.Quote.{bytes}
use Rattle.figures.specs.Figures.{field_at, field_text}
use Rattle.figures.proofs.Figures.{field_back}
use Rattle.shapes.specs.declared.kinds.Value.{Value}
use Rattle.shapes.specs.declared.kinds.Scan.{Scan}
use Rattle.shapes.specs.Pattern.{Pattern, low, high, fits, has_pattern, has_any, clash, clash_each, all_apart}
use Rattle.shapes.specs.Shape.{Part, leading, split, parts_of, field_width, FieldOf, Sayable, padded, unled, unled_each, clear, printable, sound, spellings, scan_of, has_shape}
use Rattle.shapes.proofs.Patterns.{or_cases, or_right, pattern-append, field-pattern, excluded, all-excluded}
use Rattle.shapes.proofs.Shapes.{scan-back, covered, not-spelled}
use Rattle.places.specs.Engine.{Group}
use Rattle.record.specs.declared.aerodrome.Amount.{Amount}
use Rattle.record.specs.declared.aerodrome.Amount.TheVariants as amount
use Rattle.record.specs.declared.aerodrome.Convective.{Convective}
use Rattle.record.specs.declared.aerodrome.Convective.TheVariants as convective
use Rattle.record.specs.declared.aerodrome.Layer.{Layer}
use Rattle.record.specs.declared.aerodrome.Cover.TheVariants as cover
use Rattle.elements.specs.Wind.{numbered}
use Rattle.elements.specs.Judge.{metres_fit}
use Rattle.elements.specs.Sky.{layer_shape, alone_shapes, has_sky, amount_of, convective_of, read_layer, read_alone, height_field, amount_value, convective_value, show_layer, has_amount, written_height, class_layer}
use Rattle.sky.proofs.Heights.{height-fits, height-back, height-again}
use Rattle.sky.proofs.Writings.{three-parts}

-- ---- the shapes

pub any_append : (ps qs : List Pattern) (g : Group) → has_any (ps ++ qs) g ≡ (has_any ps g || has_any qs g)
unfolding has_any
any_append [] qs g = refl
any_append (p ∷ ps) qs g = rw (any_append ps qs g) (sym (or_assoc (has_pattern g p) (has_any ps g) (has_any qs g)))

pub sky-covered : (g : Group) → has_sky g ≡ true → has_any (spellings (parts_of layer_shape) ++ alone_shapes) g ≡ true
sky-covered g h =
    rw (any_append (spellings (parts_of layer_shape)) alone_shapes g)
    (or_cases (has_shape layer_shape g) (has_any alone_shapes g) h
    (λ s. rw (covered layer_shape g s))
    (λ a. or_right (has_any (spellings (parts_of layer_shape)) g) (has_any alone_shapes g) a))

-- what stands alone is no layer
shapes-apart : all_apart alone_shapes (spellings (parts_of layer_shape)) ≡ true
unfolding low high clash clash_each all_apart leading split parts_of spellings
shapes-apart = refl

pub no-layer : (g : Group) → has_any alone_shapes g ≡ true → has_shape layer_shape g ≡ false
no-layer g h = not-spelled layer_shape g (all-excluded g alone_shapes (spellings (parts_of layer_shape)) shapes-apart h)

-- ---- a layer

layer-sound : sound layer_shape ≡ true
unfolding low high leading split parts_of spellings unled unled_each clear printable sound
layer-sound = refl

abbrev values_of : Layer → List Value
values_of l = amount_value l.amount ∷ numbered 0 (height_field l.height) ∷ convective_value l.convective ∷ []

abbrev Said : Part → Value → Type 0
Said p v = (ltb v.which (length p) ≡ true) × FieldOf (field_width (get_or p v.which [])) v.field

abbrev amounts : Part
amounts = bytes "FEW" ∷ bytes "SCT" ∷ bytes "BKN" ∷ bytes "OVC" ∷ []

abbrev clouds : Part
clouds = bytes "CB" ∷ bytes "TCU" ∷ [] ∷ []

amount-said : (a : Amount) → has_amount a ≡ true → Said amounts (amount_value a)
unfolding leading
amount-said amount.None e = absurd (false≢true e)
amount-said amount.Few e = (refl, refl)
amount-said amount.Scattered e = (refl, refl)
amount-said amount.Broken e = (refl, refl)
amount-said amount.Overcast e = (refl, refl)

convective-said : (c : Convective) → Said clouds (convective_value c)
unfolding leading
convective-said convective.None = (refl, refl)
convective-said convective.Cumulonimbus = (refl, refl)
convective-said convective.ToweringCumulus = (refl, refl)

layer-parts : parts_of layer_shape ≡ amounts ∷ (bytes "###" ∷ []) ∷ clouds ∷ []
unfolding parts_of split
layer-parts = refl

height-said : (h : Option ℕ) → Said (bytes "###" ∷ []) (numbered 0 (height_field h))
unfolding leading
height-said h = (refl, height-fits h)

layer-sayable : (l : Layer) → has_amount l.amount ≡ true → Sayable (parts_of layer_shape) (values_of l)
layer-sayable l e = rw layer-parts (amount-said l.amount e, (height-said l.height, (convective-said l.convective, tt)))

layer-scanned : (l : Layer) → has_amount l.amount ≡ true → scan_of layer_shape (show_layer l) ≡ record { fits = true; values = padded (values_of l) }
unfolding show_layer
layer-scanned l e =
    ap (scan_of layer_shape) (sym (three-parts _ _ _ _)) ∙ scan-back layer_shape (values_of l) layer-sound (layer-sayable l e)

pub layer-shaped : (l : Layer) → has_amount l.amount ≡ true → has_shape layer_shape (show_layer l) ≡ true
unfolding has_shape
layer-shaped l e = ap (λ (r : Scan). r.fits) (layer-scanned l e)

amount-back : (a : Amount) → has_amount a ≡ true → amount_of (amount_value a).which ≡ a
amount-back amount.None e = absurd (false≢true e)
amount-back amount.Few e = refl
amount-back amount.Scattered e = refl
amount-back amount.Broken e = refl
amount-back amount.Overcast e = refl

convective-back : (c : Convective) → convective_of (convective_value c).which ≡ c
convective-back convective.None = refl
convective-back convective.Cumulonimbus = refl
convective-back convective.ToweringCumulus = refl

pub layer-back : (forecast : Bool) (l : Layer) → has_amount l.amount ≡ true → metres_fit forecast l.height ≡ true
    → read_layer forecast (show_layer l) ≡ Ok (class_layer l)
unfolding read_layer
layer-back forecast l e f =
    rw (layer-scanned l e, height-back forecast l.height f, amount-back l.amount e, convective-back l.convective)

pub layer-again : (l : Layer) → show_layer (class_layer l) ≡ show_layer l
unfolding show_layer
layer-again l = rw (height-again l.height)

-- ---- VVhhh

abbrev pub vertical : Option ℕ → Group
vertical h = bytes "VV" ++ field_text 3 (height_field h)

two-letters : has_pattern (bytes "VV") (bytes "VV") ≡ true
unfolding low high fits has_pattern
two-letters = refl

vertical-shaped : (h : Option ℕ) → has_pattern (vertical h) (bytes "VV###") ≡ true
vertical-shaped h =
    pattern-append (bytes "VV") (field_text 3 (height_field h)) (bytes "VV") (bytes "###") refl refl
    ∙ rw (two-letters, field-pattern 3 (height_field h) (omega arith) (height-fits h))

pub vertical-alone : (h : Option ℕ) → has_any alone_shapes (vertical h) ≡ true
unfolding has_any
vertical-alone h = rw (vertical-shaped h, or-true, or-true, or-true)

pub vertical-back : (forecast : Bool) (h : Option ℕ) → metres_fit forecast h ≡ true
    → read_alone forecast (vertical h) ≡ Ok (cover.Vertical (written_height h))
unfolding read_alone low high clash
vertical-back forecast h e =
    let at : field_at (vertical h) 2 3 ≡ height_field h = rw (append-nil (vertical h)) at (field_back (bytes "VV") [] 3 (height_field h) (omega arith) (omega arith) (height-fits h)) in
    rw (
      excluded (vertical h) (bytes "VV###") (bytes "SKC") refl (vertical-shaped h),
      excluded (vertical h) (bytes "VV###") (bytes "NSC") refl (vertical-shaped h),
      excluded (vertical h) (bytes "VV###") (bytes "NCD") refl (vertical-shaped h),
      at,
      height-back forecast h e,
    )
