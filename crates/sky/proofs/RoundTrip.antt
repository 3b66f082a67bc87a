-- A whole sky: what is written of a sky that the writer accepts has the shapes of sky groups, at most four, and is read back as the sky's class; the
-- class is accepted and written as the same groups.
-- Assumes nothing.
use Rattle.std.specs.Prelude.{None, Ok, Option, Result, Some}
use Rattle.text.specs.declared.kinds.Refusal.{Refusal}
use Prim.Native.Nat.{ℕ, zero, suc, ◌+◌, ◌-◌, ◌≤◌, ◌<◌}
use native.Mathlib.Omega.{arith}
use mathlib.Core.Path.{◌≡◌, refl, sym, ap, ◌∙◌}
use mathlib.Core.Bool.{Bool, true, false, not, ◌&&◌, ◌||◌, or-false, or-true, false≢true}
use mathlib.Core.List.{List, [], ◌∷◌, ◌++◌, map, append-nil, map-append}
use lib.ListN.{length, take, drop, replicate, length-append, length-take, length-drop, length-map, take-append-drop}
use lib.Seq.{length-take-le, append_snoc, take-append_seam, set-append_seam}
use lib.Dec.{leb}
use borrow.Author.Tests.{leb-true, le-leb, lt-ltb}
use Rattle.figures.specs.Quote.{bytes}
use Rattle.text.specs.Judge.{judge}
use Rattle.text.proofs.Judging.{fine, and-then}
use Rattle.shapes.specs.Pattern.{low, high, fits, has_pattern, has_any}
use Rattle.shapes.specs.Shape.{parts_of, spellings, has_shape}
use Rattle.shapes.proofs.Patterns.{both, or_right}
use Rattle.places.specs.Engine.{Group}
use Rattle.places.proofs.ReadBack.{All}
use Rattle.record.specs.declared.aerodrome.Layer.{Layer}
use Rattle.record.specs.declared.aerodrome.Cover.{Cover}
use Rattle.record.specs.declared.aerodrome.Cover.TheVariants as cover
use Rattle.record.specs.declared.aerodrome.Sky.{Sky}
use Rattle.record.specs.Body.{blank_layer, blank_sky}
use Rattle.elements.specs.Parts.{then}
use Rattle.elements.specs.Judge.{metres_fit}
use Rattle.elements.proofs.Classed.{cover-classed}
use Rattle.elements.specs.Sky.{layer_shape, alone_shapes, has_sky, read_alone, rises, add_layer, read_sky, show_layer, cover_groups, show_sky, cover_fits, judge_cover, has_amount, written_height, class_layer, judge_layers, judge_sky, class_cover, class_sky}
use Rattle.record.specs.SilentAerodrome.{is_layers, is_blank_layer}
use Rattle.record.proofs.AerodromeBlanks.{layer-blank, cover-layers}
use Rattle.record.specs.Missing.{is_missing}
use Rattle.figures.specs.Figures.{every}
use Rattle.figures.proofs.Every.{every-is}
use Rattle.sky.proofs.Heights.{height-again, height-twice, height-classed}
use Rattle.sky.proofs.Groups.{sky-covered, no-layer, layer-shaped, layer-back, layer-again, vertical, vertical-alone, vertical-back}

-- ---- lists

take-map : {A B : Type 0} (f : A → B) (k : ℕ) (l : List A) → take k (map f l) ≡ map f (take k l)
take-map f zero l = refl
take-map f (suc k) [] = refl
take-map f (suc k) (x ∷ l) = rw (take-map f k l)

drop-map : {A B : Type 0} (f : A → B) (k : ℕ) (l : List A) → drop k (map f l) ≡ map f (drop k l)
drop-map f zero l = refl
drop-map f (suc k) [] = refl
drop-map f (suc k) (x ∷ l) = drop-map f k l

All-append : (P : Group → Type 0) (gs hs : List Group) → All P gs → All P hs → All P (gs ++ hs)
All-append P [] hs a b = b
All-append P (g ∷ gs) hs a b = (a.0, All-append P gs hs a.1 b)

-- ---- layers, or what stands alone

one-cover : (c : Cover) → length (cover_groups c) ≤ 1
one-cover cover.Layers = omega arith
one-cover cover.Clear = omega arith
one-cover cover.NoneSignificant = omega arith
one-cover cover.NoneDetected = omega arith
one-cover (cover.Vertical h) = omega arith

-- ---- written again

cover_again : (c : Cover) → cover_groups (class_cover c) ≡ cover_groups c
cover_again cover.Layers = refl
cover_again cover.Clear = refl
cover_again cover.NoneSignificant = refl
cover_again cover.NoneDetected = refl
cover_again (cover.Vertical h) = rw (height-again h)

layers-again : (ls : List Layer) → map show_layer (map class_layer ls) ≡ map show_layer ls
layers-again [] = refl
layers-again (l ∷ ls) = rw (layer-again l, layers-again ls)

missing-classed : (h : Option ℕ) → is_missing (written_height h) ≡ is_missing h
missing-classed None = refl
missing-classed (Some m) = refl

blanks-classed : (ls : List Layer) → every is_blank_layer (map class_layer ls) ≡ every is_blank_layer ls
blanks-classed [] = refl
blanks-classed (l ∷ ls) = rw (missing-classed l.height, blanks-classed ls)

-- whether it is accepted or not
pub sky-again : (s : Sky) → show_sky (class_sky s) ≡ show_sky s
unfolding show_sky
sky-again s = rw (cover_again s.cover, take-map class_layer s.count s.layers, layers-again (take s.count s.layers))

-- ---- groups read one after the other, where k stand already

abbrev pub add_each : Bool → Bool → ℕ → List Group → Sky → Result Sky Refusal
add_each forecast cavok k [] s = Ok s
add_each forecast cavok k (g ∷ gs) s = then (read_sky forecast cavok k g s) (add_each forecast cavok (k + 1) gs)

-- the sky that so many layers were read into
abbrev sky_of : List Layer → Sky
sky_of before = record { cover = cover.Layers; layers = before ++ replicate (4 - length before) blank_layer; count = length before }

layer-added : (before : List Layer) (l : Layer) → length before < 4 → add_layer (length before) (sky_of before) l ≡ sky_of (before ++ (l ∷ []))
layer-added before l h =
    let n : 4 - length before ≡ suc (4 - (length before + 1)) = omega arith in
    rw (
      lt-ltb (length before) 4 h,
      n,
      set-append_seam before blank_layer (replicate (4 - (length before + 1)) blank_layer) l,
      length-append before (l ∷ []),
      append_snoc before l (replicate (4 - (length before + 1)) blank_layer),
    )

blank-classed : (n : ℕ) → map class_layer (replicate n blank_layer) ≡ replicate n blank_layer
blank-classed zero = refl
blank-classed (suc n) = rw (blank-classed n)

-- a sky whose layers past the count are blank, as it was read
all-layers : (s : Sky) → length s.layers ≡ 4 → s.count ≤ 4 → every is_blank_layer (drop s.count s.layers) ≡ true → s.cover ≡ cover.Layers
    → sky_of (map class_layer (take s.count s.layers)) ≡ class_sky s
all-layers s four few e is =
    let first = take s.count s.layers in
    let rest = drop s.count s.layers in
    let n : length (map class_layer first) ≡ s.count = length-map first class_layer ∙ length-take-le s.count s.layers (omega arith) in
    let m : length rest ≡ 4 - s.count = rw (length-drop s.count s.layers, four) in
    let whole : map class_layer s.layers ≡ map class_layer first ++ replicate (4 - s.count) blank_layer =
    ap (map class_layer) (sym (take-append-drop s.count s.layers))
    ∙ map-append class_layer first rest
    ∙ ap (λ (ls : List Layer). map class_layer first ++ map class_layer ls) (rw m at (every-is is_blank_layer blank_layer layer-blank rest e))
    ∙ rw (blank-classed (4 - s.count)) in
    rw (n, is, whole)

-- ---- what a sky is that is judged fine

module _ (forecast : Bool) where
  -- a layer that stands after `before`
  pub record LayerFits (beside : Bool) (before : List Layer) (l : Layer) (ls : List Layer) : Type 0 where
    pub amount : has_amount l.amount ≡ true
    pub height : metres_fit forecast l.height ≡ true
    pub alone : not beside ≡ true
    pub rising : rises before (written_height l.height) ≡ true
    pub rest : judge_layers forecast beside (before ++ (class_layer l ∷ [])) ls ≡ Ok tt

  layer_fits : (beside : Bool) (before : List Layer) (l : Layer) (ls : List Layer) → judge_layers forecast beside before (l ∷ ls) ≡ Ok tt
      → LayerFits beside before l ls
  layer_fits beside before l ls e =
      let w = has_amount l.amount && metres_fit forecast l.height in
      let a = not beside && rises before (written_height l.height) in
      let t = and-then (judge w a) (judge_layers forecast beside (before ++ (class_layer l ∷ [])) ls) e in
      let f = fine w a t.0 in
      let u = both (has_amount l.amount) (metres_fit forecast l.height) f.0 in
      let v = both (not beside) (rises before (written_height l.height)) f.1 in
      record { amount = u.0; height = u.1; alone = v.0; rising = v.1; rest = t.1 }

  cover-fits : (c : Cover) → cover_fits forecast c ≡ true → cover_fits forecast (class_cover c) ≡ true
  cover-fits cover.Layers e = e
  cover-fits cover.Clear e = e
  cover-fits cover.NoneSignificant e = e
  cover-fits cover.NoneDetected e = e
  cover-fits (cover.Vertical h) e = height-classed forecast h e

  -- beside what stands alone there is no layer
  none_beside : (before ls : List Layer) → judge_layers forecast true before ls ≡ Ok tt → ls ≡ []
  none_beside before [] e = refl
  none_beside before (l ∷ ls) e = absurd (false≢true (layer_fits true before l ls e).alone)

  module _ (cavok : Bool) where
    pub record SkyFits (s : Sky) : Type 0 where
      pub cover : cover_fits forecast s.cover ≡ true
      pub seen : (not cavok || is_layers s.cover) ≡ true
      pub count : s.count ≤ 4
      pub blank : every is_blank_layer (drop s.count s.layers) ≡ true
      pub layers : judge_layers forecast (cavok || not (is_layers s.cover)) [] (take s.count s.layers) ≡ Ok tt

    pub sky-fits : (s : Sky) → judge_sky forecast cavok s ≡ Ok tt → SkyFits s
    unfolding judge_sky
    sky-fits s e =
        let counted = leb s.count 4 && every is_blank_layer (drop s.count s.layers) in
        let t = and-then (judge counted true) _ e in
        let u = and-then (judge_cover forecast cavok s.cover) _ t.1 in
        let c = fine (cover_fits forecast s.cover) (not cavok || is_layers s.cover) u.0 in
        let n = both (leb s.count 4) (every is_blank_layer (drop s.count s.layers)) (fine counted true t.0).0 in
        record { cover = c.0; seen = c.1; count = leb-true s.count 4 n.0; blank = n.1; layers = u.1 }

    -- ---- the shapes of the groups

    abbrev Shaped : Group → Type 0
    Shaped g = (has_sky g ≡ true) × (has_any (spellings (parts_of layer_shape) ++ alone_shapes) g ≡ true)

    sky-group : (g : Group) → has_sky g ≡ true → Shaped g
    sky-group g h = (h, sky-covered g h)

    alone-group : (g : Group) → has_any alone_shapes g ≡ true → Shaped g
    alone-group g h = sky-group g (or_right (has_shape layer_shape g) (has_any alone_shapes g) h)

    cover-shaped : (c : Cover) → All Shaped (cover_groups c)
    unfolding low high fits has_pattern has_any
    cover-shaped cover.Layers = tt
    cover-shaped cover.Clear = (alone-group (bytes "SKC") refl, tt)
    cover-shaped cover.NoneSignificant = (alone-group (bytes "NSC") refl, tt)
    cover-shaped cover.NoneDetected = (alone-group (bytes "NCD") refl, tt)
    cover-shaped (cover.Vertical h) = (alone-group _ (vertical-alone h), tt)

    layers-shaped : (beside : Bool) (before ls : List Layer) → judge_layers forecast beside before ls ≡ Ok tt → All Shaped (map show_layer ls)
    layers-shaped beside before [] e = tt
    layers-shaped beside before (l ∷ ls) e =
        let t = layer_fits beside before l ls e in
        (sky-group (show_layer l) (rw (layer-shaped l t.amount)), layers-shaped beside (before ++ (class_layer l ∷ [])) ls t.rest)

    pub sky-shaped : (s : Sky) → judge_sky forecast cavok s ≡ Ok tt
        → All (λ g. (has_sky g ≡ true) × (has_any (spellings (parts_of layer_shape) ++ alone_shapes) g ≡ true)) (show_sky s)
    unfolding show_sky
    sky-shaped s e =
        All-append Shaped (cover_groups s.cover) (map show_layer (take s.count s.layers)) (cover-shaped s.cover)
        (layers-shaped (cavok || not (is_layers s.cover)) [] (take s.count s.layers) (sky-fits s e).layers)

    -- ---- at most four groups

    -- beside what stands alone nothing stands
    no-layers : (s : Sky) → SkyFits s → is_layers s.cover ≡ false → take s.count s.layers ≡ []
    no-layers s f i = none_beside [] (take s.count s.layers) (rw (i, or-true cavok) at f.layers)

    pub sky-few : (s : Sky) → judge_sky forecast cavok s ≡ Ok tt → length (show_sky s) ≤ 4
    unfolding show_sky
    sky-few s e = rw (length-append (cover_groups s.cover)) (go (is_layers s.cover) refl)
      where
        go : (b : Bool) → is_layers s.cover ≡ b → length (cover_groups s.cover) + length (map show_layer (take s.count s.layers)) ≤ 4
        go true i =
            rw (cover-layers s.cover i, length-map (take s.count s.layers) show_layer, length-take s.count s.layers)
            (omega (arith, (sky-fits s e).count))
        go false i = rw (no-layers s (sky-fits s e) i) (omega (arith, one-cover s.cover))

    -- ---- read back

    layer-step : (before : List Layer) (l : Layer) (ls : List Layer) → length before < 4 → LayerFits (cavok || false) before l ls
        → read_sky forecast cavok (length before) (show_layer l) (sky_of before) ≡ Ok (sky_of (before ++ (class_layer l ∷ [])))
    unfolding read_sky
    layer-step before l ls h t =
        let clear : not cavok ≡ true = rw (or-false cavok) at t.alone in
        rw (
          layer-shaped l t.amount,
          layer-back forecast l t.amount t.height,
          clear,
          take-append_seam before (replicate (4 - length before) blank_layer),
          t.rising,
          layer-added before (class_layer l) h,
        )

    layers-back : (ls before : List Layer) → length before + length ls ≤ 4 → judge_layers forecast (cavok || false) before ls ≡ Ok tt
        → add_each forecast cavok (length before) (map show_layer ls) (sky_of before) ≡ Ok (sky_of (before ++ map class_layer ls))
    layers-back [] before h e = rw (append-nil before)
    layers-back (l ∷ ls) before h e =
        let t = layer_fits (cavok || false) before l ls e in
        let n = length-append before (class_layer l ∷ []) in
        rw (layer-step before l ls (omega arith) t, ← n, ← append_snoc before (class_layer l) (map class_layer ls))
        (layers-back ls (before ++ (class_layer l ∷ [])) (omega arith) t.rest)

    alone-read : (g : Group) (c : Cover) → not cavok ≡ true → has_any alone_shapes g ≡ true → read_alone forecast g ≡ Ok c
        → add_each forecast cavok 0 (g ∷ []) blank_sky ≡ Ok (record { cover = c; layers = replicate 4 blank_layer; count = 0 })
    unfolding read_sky
    alone-read g c n h r = rw (no-layer g h, r, n)

    alone-back : (c : Cover) → not cavok ≡ true → is_layers c ≡ false → cover_fits forecast c ≡ true
        → add_each forecast cavok 0 (cover_groups c) blank_sky ≡ Ok (record { cover = class_cover c; layers = replicate 4 blank_layer; count = 0 })
    unfolding low high fits has_pattern has_any read_alone
    alone-back cover.Layers n i f = absurd (false≢true (sym i))
    alone-back cover.Clear n i f = alone-read (bytes "SKC") cover.Clear n refl refl
    alone-back cover.NoneSignificant n i f = alone-read (bytes "NSC") cover.NoneSignificant n refl refl
    alone-back cover.NoneDetected n i f = alone-read (bytes "NCD") cover.NoneDetected n refl refl
    alone-back (cover.Vertical h) n i f = alone-read (vertical h) (cover.Vertical (written_height h)) n (vertical-alone h) (vertical-back forecast h f)

    pub sky-back : (s : Sky) → length s.layers ≡ 4 → judge_sky forecast cavok s ≡ Ok tt
        → add_each forecast cavok 0 (show_sky s) blank_sky ≡ Ok (class_sky s)
    unfolding show_sky
    sky-back s four e = go (is_layers s.cover) refl
      where
        f : SkyFits s
        f = sky-fits s e

        go : (b : Bool) → is_layers s.cover ≡ b
            → add_each forecast cavok 0 (cover_groups s.cover ++ map show_layer (take s.count s.layers)) blank_sky ≡ Ok (class_sky s)
        go true i =
            let c = cover-layers s.cover i in
            ap (λ (x : Cover). add_each forecast cavok 0 (cover_groups x ++ map show_layer (take s.count s.layers)) blank_sky) c
            ∙ layers-back (take s.count s.layers) [] (rw (length-take s.count s.layers) (omega (arith, f.count))) (rw i at f.layers)
            ∙ ap Ok (all-layers s four f.count f.blank c)
        go false i =
            let none = no-layers s f i in
            let zero : s.count ≡ 0 = omega (arith, length-take s.count s.layers, ap length none) in
            let blank : s.layers ≡ replicate 4 blank_layer = rw four at (every-is is_blank_layer blank_layer layer-blank s.layers (rw zero at f.blank)) in
            rw (none, append-nil (cover_groups s.cover), blank, zero)
            (alone-back s.cover (rw (i, or-false (not cavok)) at f.seen) i f.cover)

    -- ---- the class

    layers-classed : (beside : Bool) (before ls : List Layer) → judge_layers forecast beside before ls ≡ Ok tt
        → judge_layers forecast beside before (map class_layer ls) ≡ Ok tt
    layers-classed beside before [] e = refl
    layers-classed beside before (l ∷ ls) e =
        let t = layer_fits beside before l ls e in
        rw (height-twice l.height, t.amount, height-classed forecast l.height t.height, t.alone, t.rising)
        (layers-classed beside (before ++ (class_layer l ∷ [])) ls t.rest)

    pub sky-classed : (s : Sky) → judge_sky forecast cavok s ≡ Ok tt → judge_sky forecast cavok (class_sky s) ≡ Ok tt
    unfolding judge_sky
    sky-classed s e =
        let f = sky-fits s e in
        rw (
          le-leb s.count 4 f.count,
          drop-map class_layer s.count s.layers,
          blanks-classed (drop s.count s.layers),
          f.blank,
          cover-classed s.cover,
          cover-fits s.cover f.cover,
          f.seen,
          take-map class_layer s.count s.layers,
        )
        (layers-classed (cavok || not (is_layers s.cover)) [] (take s.count s.layers) f.layers)
