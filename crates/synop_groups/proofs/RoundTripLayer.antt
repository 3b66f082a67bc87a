-- The round trip of a layer of section 3, 8NChh: what the writer judges fine and writes has its shape, is not 8////, is read back as its class, and the
-- class is written alike and judged fine.
-- Assumes nothing.
use mathlib.Core.Path.{◌≡◌, refl, sym, ap, ◌∙◌}
use mathlib.Core.Bool.{Bool, true, false, not, ◌&&◌, false≢true}
use mathlib.Core.List.{List, [], ◌∷◌}
use Prim.Native.Nat.{ℕ, ◌≤◌}
use native.Mathlib.Omega.{arith}
use lib.Dec.{eqb}
use borrow.Author.Tests.{le-leb, lt-leb, eqb-true, not-true}
use Rattle.figures.specs.declared.kinds.Field.{Field}
use Rattle.figures.specs.Quote.{bytes}
use Rattle.figures.specs.Figures.{scan, field_at, Fits}
use Rattle.shapes.specs.Pattern.{Pattern, low, high, fits, more, has_pattern}
use Rattle.shapes.proofs.Patterns.{both, within}
use Rattle.scales.specs.Scale.{Scale, run, figure_of, foot_of}
use Rattle.scales.specs.Metres.{base}
use Rattle.scales.specs.Layers.{layer_steps, layer_bands}
use Rattle.scales.proofs.Laws.{Lawful, figure-such}
use Rattle.scales.proofs.Answers.{foot-low, metres-read, metres-again, metres-written}
use Rattle.scales.proofs.LayersLaws.{steps-laws, bands-laws}
use Rattle.record.specs.declared.surface.BaseHeight.{BaseHeight}
use Rattle.record.specs.declared.surface.BaseHeight.TheVariants as height
use Rattle.record.specs.declared.surface.CloudLayer.{CloudLayer}
use Rattle.record.specs.Missing.{between}
use Rattle.record.specs.SilentSurface.{no_height, is_blank_layer}
use Rattle.record.specs.Blank.{blank_layer}
use Rattle.synop_groups.specs.declared.kinds.Said.{Said}
use Rattle.synop_groups.specs.declared.kinds.Said.TheVariants as said
use Rattle.synop_groups.specs.Reads.{Group, part, height_of, said_layer}
use Rattle.synop_groups.specs.Shows.{field_of, height_field, show_layer}
use Rattle.synop_groups.specs.Judge.{height_fits, layer_fits}
use Rattle.synop_groups.specs.Classes.{class_height, class_layer}
use Rattle.synop_groups.proofs.RoundTripParts.{at, Laid, parts}
use Rattle.synop_groups.proofs.RoundTripFields.{in-range, one_figure, one-fits, part-is}

-- ---- hh

steps-figure : (m : ℕ) → figure_of layer_steps m ≤ 89
steps-figure m = (in-range 0 89 (figure_of layer_steps m) (figure-such (between 0 89) layer_steps m (unfold layer_steps run in refl))).1

bands-figure : (m : ℕ) → (90 ≤ figure_of layer_bands m) × (figure_of layer_bands m ≤ 99)
bands-figure m = in-range 90 99 (figure_of layer_bands m) (figure-such (between 90 99) layer_bands m (unfold layer_bands base in refl))

height-fits : (h : BaseHeight) → height_fits h ≡ true → Fits 2 (height_field h)
height-fits height.Missing e = tt
height-fits (height.Steps m) e = rw (metres-written layer_steps m e) (omega (arith, steps-figure m))
height-fits (height.Bands m) e = rw (metres-written layer_bands m e) (omega (arith, bands-figure m))

height-is : (f : Field) (h : BaseHeight) (k : BaseHeight → Said) → height_fits h ≡ true → f ≡ height_field h → height_of f k ≡ k (class_height h)
height-is f height.Missing k h e = rw e
height-is f (height.Steps m) k h e =
    rw (e, metres-written layer_steps m h, lt-leb 90 (figure_of layer_steps m) (omega (arith, steps-figure m)), metres-read steps-laws m)
height-is f (height.Bands m) k h e =
    rw (e, metres-written layer_bands m h, le-leb 90 (figure_of layer_bands m) (bands-figure m).0, metres-read bands-laws m)

height-again : (h : BaseHeight) → height_fits h ≡ true → height_field (class_height h) ≡ height_field h
height-again height.Missing e = refl
height-again (height.Steps m) e = rw (metres-again steps-laws m e)
height-again (height.Bands m) e = rw (metres-again bands-laws m e)

height-classed : (h : BaseHeight) → height_fits h ≡ true → height_fits (class_height h) ≡ true
height-classed height.Missing e = refl
height-classed (height.Steps m) e = foot-low steps-laws m e
height-classed (height.Bands m) e = foot-low bands-laws m e

-- the class says as much as the layer
height-silent : (h : BaseHeight) → no_height (class_height h) ≡ no_height h
height-silent height.Missing = refl
height-silent (height.Steps m) = refl
height-silent (height.Bands m) = refl

-- the foot of a class is in the class
foot-twice : {s : Scale ℕ} → Lawful eqb s → (m : ℕ) → foot_of s (foot_of s m) ≡ foot_of s m
foot-twice {s} laws m =
    let e = laws.reads-back (foot_of s m) in
    let f = laws.reads-back m in
    let g = laws.again m in
    cc

pub height-twice : (h : BaseHeight) → class_height (class_height h) ≡ class_height h
height-twice height.Missing = refl
height-twice (height.Steps m) = ap height.Steps (foot-twice steps-laws m)
height-twice (height.Bands m) = ap height.Bands (foot-twice bands-laws m)

-- ---- the group

record Fit (l : CloudLayer) : Type 0 where
  told : is_blank_layer l ≡ false
  amount : one_figure l.amount ≡ true
  cloud : one_figure l.cloud ≡ true
  height : height_fits l.height ≡ true

fit : (l : CloudLayer) → layer_fits l ≡ true → Fit l
unfolding layer_fits
fit l e =
    let h = both (not (is_blank_layer l) && one_figure l.amount && one_figure l.cloud) (height_fits l.height) e in
    let c = both (not (is_blank_layer l) && one_figure l.amount) (one_figure l.cloud) h.0 in
    let a = both (not (is_blank_layer l)) (one_figure l.amount) c.0 in
    record { told = not-true (is_blank_layer l) a.0; amount = a.1; cloud = c.1; height = h.1 }

-- a pattern of characters that stand for themselves is fitted by itself alone
abbrev plain : Pattern → Bool
plain [] = true
plain (p ∷ ps) = (not (more p) && (eqb (low p) p && eqb (high p) p)) && plain ps

literal : (g p : List ℕ) → plain p ≡ true → has_pattern g p ≡ true → g ≡ p
unfolding has_pattern
literal [] [] e h = refl
literal [] (p ∷ ps) e h =
    let t = both (not (more p) && (eqb (low p) p && eqb (high p) p)) (plain ps) e in
    absurd (false≢true (sym (not-true (more p) (both (not (more p)) (eqb (low p) p && eqb (high p) p) t.0).0) ∙ h))
literal (b ∷ g) [] e h = absurd (false≢true h)
literal (b ∷ g) (p ∷ ps) e h =
    let t = both (not (more p) && (eqb (low p) p && eqb (high p) p)) (plain ps) e in
    let o = both (not (more p)) (eqb (low p) p && eqb (high p) p) t.0 in
    let r = both (eqb (low p) p) (eqb (high p) p) o.1 in
    let s = both (fits p b) (has_pattern g ps) (rw (not-true (more p) o.0) at h) in
    let same : b ≡ p = omega (arith, within p b s.0, eqb-true (low p) p r.0, eqb-true (high p) p r.1) in
    rw (same, literal g ps t.1 s.1)

slashes-only : (g : Group) → has_pattern g (bytes "8////") ≡ true → said_layer g ≡ said.Layer blank_layer
unfolding low high said_layer field_at scan
slashes-only g h = rw (literal g (bytes "8////") refl h)

module _ (l : CloudLayer) (fits : layer_fits l ≡ true) where
  f : Fit l
  f = fit l fits

  laid : Laid (bytes "8####") 1 (at 1 (field_of l.amount) ∷ at 1 (field_of l.cloud) ∷ at 2 (height_field l.height) ∷ []) (show_layer l)
  unfolding show_layer
  laid =
      parts (bytes "8") (at 1 (field_of l.amount) ∷ at 1 (field_of l.cloud) ∷ at 2 (height_field l.height) ∷ []) refl refl
      (one-fits l.amount f.amount, (one-fits l.cloud f.cloud, (height-fits l.height f.height, tt)))

  pub layer-shaped : has_pattern (show_layer l) (bytes "8####") ≡ true
  layer-shaped = laid.shaped

  pub layer-back : said_layer (show_layer l) ≡ said.Layer (class_layer l)
  unfolding said_layer
  layer-back =
      let g = show_layer l in
      part-is (field_at g 1 1) l.amount (λ n. part (field_at g 2 1) (λ c. height_of (field_at g 3 2) (λ h. said.Layer (record { amount = n; cloud = c; height = h })))) laid.holds.0
      ∙ part-is (field_at g 2 1) l.cloud (λ c. height_of (field_at g 3 2) (λ h. said.Layer (record { amount = l.amount; cloud = c; height = h }))) laid.holds.1.0
      ∙ height-is (field_at g 3 2) l.height (λ h. said.Layer (record { amount = l.amount; cloud = l.cloud; height = h })) f.height laid.holds.1.1.0

  class-told : is_blank_layer (class_layer l) ≡ false
  class-told = rw (height-silent l.height) f.told

  -- it says something, so it is not 8////
  pub layer-told : has_pattern (show_layer l) (bytes "8////") ≡ false
  layer-told = go (has_pattern (show_layer l) (bytes "8////")) refl
    where
      go : (b : Bool) → has_pattern (show_layer l) (bytes "8////") ≡ b → has_pattern (show_layer l) (bytes "8////") ≡ false
      go false h = h
      go true h =
          let e = slashes-only (show_layer l) h in
          let b = layer-back in
          let c = class-told in
          let same : class_layer l ≡ blank_layer = cc in
          absurd (false≢true (sym c ∙ ap is_blank_layer same))

  pub layer-again : show_layer (class_layer l) ≡ show_layer l
  unfolding show_layer
  layer-again = rw (height-again l.height f.height)

  pub layer-classed : layer_fits (class_layer l) ≡ true
  unfolding layer_fits
  layer-classed = rw (class-told, f.amount, f.cloud, height-classed l.height f.height)
