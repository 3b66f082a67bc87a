-- The round trip of section 3 as a whole: what is written of a section that is judged fine has its shapes, takes a known room, and is read back as its class;
-- where it has nothing to say it is blank, and nothing is written.
-- Assumes nothing.
use Rattle.std.specs.Prelude.{Ok}
use Prim.Native.String.{String}
use native.Mathlib.Omega.{arith}
use mathlib.Core.Path.{◌≡◌, refl}
use mathlib.Core.Bool.{Bool, true, false, ◌&&◌}
use mathlib.Core.List.{List, [], ◌∷◌, map}
use lib.ListN.{length, take}
use lib.Dec.{eqb}
use borrow.Author.Tests.{eqb-true}
use Rattle.figures.specs.Quote.{bytes}
use Rattle.figures.specs.Figures.{every}
use Rattle.text.proofs.Judging.{and-then}
use Rattle.shapes.specs.Pattern.{Pattern, low, high, has_pattern, has_any}
use Rattle.shapes.proofs.Patterns.{both, or_right}
use Rattle.places.specs.Engine.{Group, Place, written, put_all}
use Rattle.places.proofs.ReadBack.{All, All-map, All-join, one-pattern, plain}
use Rattle.places.proofs.Sizes.{measured, sized-any, sized-sign, Sizes, sizes-none, sizes-cons, sizes-append, sizes-more, sizes-all}
use Rattle.places.proofs.Kept.{Kept, KeptRow, done, more, keep_one, keep-none, kept-spoken}
use Rattle.places.proofs.Parts.{KeptPart}
use Rattle.record.specs.declared.surface.Air.{Air}
use Rattle.record.specs.declared.surface.Section3.{Section3}
use Rattle.record.specs.Blank.{blank_surface, blank_section3}
use Rattle.record.specs.Missing.{is_missing}
use Rattle.record.specs.SilentSurface.{is_blank_layer}
use Rattle.record.specs.Set.{set_maximum, set_minimum}
use Rattle.record.proofs.SurfaceBlanks.{section3-blank}
use Rattle.record.proofs.Counted.{taken}
use Rattle.synop_groups.specs.Classes.{class_layer}
use Rattle.synop_groups.specs.declared.kinds.Said.TheVariants as said
use Rattle.synop_groups.specs.Reads.{said_air}
use Rattle.synop_groups.specs.Shows.{show_air, show_minimum, minimum_spoken}
use Rattle.synop_groups.specs.Judge.{judge_air}
use Rattle.synop_groups.proofs.RoundTrip.{Back, none, one, Each, back-shaped, air-back, minimum-back, minimum-covered}
use Rattle.synop_row.specs.Row.{stop_words}
use Rattle.section3.specs.Row.{air_by, told_by, with_told, show_layers, place_for, row, own_shapes, halts, part_in}
use Rattle.section3.specs.Write.{judge_section3, is_silent, show_word, show_section3, class_section3}
use Rattle.section3.proofs.Turns.{row-length, row-sound, row-covered}
use Rattle.section3.proofs.LayersBack.{Counted, layers-fit, layers-sizes, kept-layers, layers-again, layers-classed}

-- ---- what is judged fine

record Fair (s : Section3) : Type 0 where
  maximum : judge_air s.maximum ≡ Ok tt
  minimum : judge_air s.minimum ≡ Ok tt
  layers : Counted s.layers

fair : (s : Section3) → length s.layers.items ≡ 4 → judge_section3 s ≡ Ok tt → Fair s
unfolding judge_section3
fair s four e =
    let a = and-then (judge_air s.maximum) _ e in
    let b = and-then (judge_air s.minimum) _ a.1 in
    record { maximum = a.0; minimum = b.0; layers = layers-fit s.layers four b.1 }

-- ---- the places of the temperatures

-- a place for one of them keeps what is written there
keep : (b : Bool) (shape : String) (spoken : List Pattern) (show : Section3 → List Group) (put : Section3 → Section3 → Section3) (s acc : Section3) (a : Air)
    → measured 5 spoken ≡ true → Back (bytes shape) false said_air said.Air blank_surface.air a (show s) → Each (λ g. has_any spoken g ≡ true) (show s)
    → with_told (air_by b a) acc ≡ Ok (put s acc) → (a ≡ blank_surface.air → put s acc ≡ acc)
    → Kept (place_for shape spoken 1 (λ g t. told_by (air_by b) (said_air g)) show put) 5 s acc
keep b shape spoken show put s acc a five back spoke full empty = go (show s) refl back spoke
  where
    go : (gs : List Group) → show s ≡ gs → Back (bytes shape) false said_air said.Air blank_surface.air a gs → Each (λ g. has_any spoken g ≡ true) gs
        → Kept (place_for shape spoken 1 (λ g t. told_by (air_by b) (said_air g)) show put) 5 s acc
    go [] is (none m e) sp = keep-none is refl (empty e)
    go (g ∷ []) is (one h r) sp = keep_one g is h sp.0 (sized-any 5 spoken g five sp.0) (omega arith) (rw r full)
    go (g ∷ (_ ∷ _)) is x7 sp = elim x7 [ ]

-- what has one of the three shapes and is no stop word does not stop the reading
all_go : (gs : List Group) → All (λ g. has_any stop_words g ≡ false) gs → All (λ g. has_any own_shapes g ≡ true) gs → All (λ g. halts g ≡ false) gs
unfolding halts
all_go [] w o = tt
all_go (g ∷ gs) w o = (rw (w.0, o.0), all_go gs w.1 o.1)

own-shape : (shape : String) (gs : List Group) → Each (λ g. has_pattern g (bytes shape) ≡ true) gs → Each (λ g. has_any (bytes shape ∷ []) g ≡ true) gs
own-shape shape [] e = tt
own-shape shape (g ∷ gs) e = (one-pattern (bytes shape) g e.0, own-shape shape gs e.1)

module _ (s : Section3) (f : Fair s) where
  -- the section as the maximum leaves it, and the minimum
  abbrev with_maximum : Section3
  with_maximum = set_maximum s.maximum blank_section3

  kept-maximum : Kept (place_for "1####" (bytes "1####" ∷ []) 1 (λ g t. told_by (air_by false) (said_air g)) (λ t. show_air t.maximum) (λ t acc. set_maximum t.maximum acc)) 5 s blank_section3
  unfolding low high
  kept-maximum =
      let back = air-back s.maximum f.maximum in
      keep false "1####" (bytes "1####" ∷ []) (λ t. show_air t.maximum) (λ t acc. set_maximum t.maximum acc) s blank_section3 s.maximum refl back
      (own-shape "1####" (show_air s.maximum) (back-shaped back)) refl (λ e. rw e)

  kept-minimum : Kept (place_for "2####" minimum_spoken 1 (λ g t. told_by (air_by true) (said_air g)) (λ t. show_minimum t.minimum) (λ t acc. set_minimum t.minimum acc)) 5 s with_maximum
  unfolding low high
  kept-minimum =
      keep true "2####" minimum_spoken (λ t. show_minimum t.minimum) (λ t acc. set_minimum t.minimum acc) s with_maximum s.minimum refl
      (minimum-back s.minimum f.minimum) (minimum-covered s.minimum f.minimum) refl (λ e. rw e)

  kept_row : KeptRow (5 ∷ 5 ∷ 5 ∷ []) row s blank_section3
  unfolding row
  kept_row = more kept-maximum refl (more kept-minimum refl (more (kept-layers s (set_minimum s.minimum with_maximum) f.layers) refl done))

  -- ---- nothing that is written stops the reading

  own_first : (g : Group) → has_pattern g (bytes "1####") ≡ true → has_any own_shapes g ≡ true
  unfolding has_any own_shapes
  own_first g h = rw h

  own-second : (g : Group) → has_pattern g (bytes "2####") ≡ true → has_any own_shapes g ≡ true
  unfolding has_any own_shapes
  own-second g h = or_right (has_pattern g (bytes "1####")) _ (rw h)

  own-third : (g : Group) → has_pattern g (bytes "8####") ≡ true → has_any own_shapes g ≡ true
  unfolding has_any own_shapes
  own-third g h = or_right (has_pattern g (bytes "1####")) _ (or_right (has_pattern g (bytes "2####")) _ (rw h))

  owned : All (λ g. has_any own_shapes g ≡ true) (written row s)
  unfolding row
  owned =
      let k = kept-maximum.shaped in
      let m = kept-minimum.shaped in
      let l = (kept-layers s (set_minimum s.minimum with_maximum) f.layers).shaped in
      All-join (λ g. has_any own_shapes g ≡ true) (show_air s.maximum) _ (All-map (λ g h. own_first g h.0) (show_air s.maximum) k)
      (All-join (λ g. has_any own_shapes g ≡ true) (show_minimum s.minimum) _ (All-map (λ g h. own-second g h.0) (show_minimum s.minimum) m)
      (All-join (λ g. has_any own_shapes g ≡ true) (show_layers s.layers) [] (All-map (λ g h. own-third g h.0) (show_layers s.layers) l) tt))

  goes : All (λ g. halts g ≡ false) (written row s)
  goes = all_go (written row s) (plain stop_words row s row-sound (kept-spoken kept_row)) owned

  kept-part : {T W : Type 0} (takes : Section3 → T) → KeptPart (part_in {T = T} {W = W} takes) s blank_section3
  kept-part takes =
      record {
        words = stop_words;
        sizes = 5 ∷ 5 ∷ 5 ∷ [];
        some = rw row-length (omega arith);
        told = row-sound;
        covered = row-covered;
        kept = kept_row;
        plain = goes;
        whole = refl;
      }

-- what it is read back as
pub put-section3 : (s : Section3) → put_all row s blank_section3 ≡ class_section3 s
unfolding row
put-section3 s = refl

-- ---- how much room it takes: 333, two groups and four, of five bytes each

temperature-sizes : {p : Place Section3} {s acc : Section3} → Kept p 5 s acc → p.most ≡ 1 → Sizes 6 (p.show s)
temperature-sizes {p} {s} k m = sizes-more (omega (arith, k.served.few, m)) (sizes-all 5 (p.show s) k.sized)

module _ (s : Section3) (four : length s.layers.items ≡ 4) (e : judge_section3 s ≡ Ok tt) where
  fair-section3 : Fair s
  fair-section3 = fair s four e

  -- THE SECTION IS KEPT, in whatever report takes it in.
  pub kept-section3 : {T W : Type 0} (takes : Section3 → T) → KeptPart (part_in {T = T} {W = W} takes) s blank_section3
  kept-section3 takes = kept-part s fair-section3 takes

  word-sizes : Sizes 4 (show_word s)
  word-sizes = go (is_silent s) refl
    where
      go : (b : Bool) → is_silent s ≡ b → Sizes 4 (show_word s)
      go true h = rw h (sizes-more (omega arith) sizes-none)
      go false h = rw h (sizes-more (omega arith) (sizes-cons (sized-sign 3 (bytes "333") refl) sizes-none))

  pub section3-sizes : Sizes 40 (show_section3 s)
  unfolding show_section3 row
  section3-sizes =
      let f = fair-section3 in
      sizes-append (show_word s) _ word-sizes
      (sizes-append (show_air s.maximum) _ (temperature-sizes (kept-maximum s f) refl)
      (sizes-append (show_minimum s.minimum) _ (temperature-sizes (kept-minimum s f) refl)
      (sizes-append (show_layers s.layers) [] (layers-sizes s.layers f.layers) sizes-none)))

  -- ---- the section that is read back is written alike, and judged fine

  pub section3-again : show_section3 (class_section3 s) ≡ show_section3 s
  unfolding show_section3 row
  section3-again = rw (layers-again s.layers fair-section3.layers)

  pub section3-classed : judge_section3 (class_section3 s) ≡ Ok tt
  unfolding judge_section3
  section3-classed = let f = fair-section3 in rw (f.maximum, f.minimum, layers-classed s.layers f.layers)

  -- those that count are read back as their classes
  pub layers-taken : take s.layers.count (class_section3 s).layers.items ≡ map class_layer (take s.layers.count s.layers.items)
  layers-taken = taken class_layer s.layers.count s.layers.items fair-section3.layers.listed.many

  -- ---- one that has nothing to say

  pub silent-blank : is_silent s ≡ true → s ≡ blank_section3
  silent-blank h =
      let c = both (is_missing s.maximum.temperature && is_missing s.minimum.temperature) (eqb s.layers.count 0) h in
      let z = eqb-true s.layers.count 0 c.1 in
      section3-blank s four (rw (c.0, c.1, past z))
    where
      past : s.layers.count ≡ 0 → every is_blank_layer s.layers.items ≡ true
      past z = rw z at fair-section3.layers.listed.past
