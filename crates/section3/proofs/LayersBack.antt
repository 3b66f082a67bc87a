-- The round trip of up to four layers: what is written of those that are judged fine has its shape, takes a known room, and is read back as their classes,
-- blank past them; the classes are written alike and judged fine.
-- Assumes nothing.
use Rattle.std.specs.Prelude.{Ok}
use Prim.Native.Nat.{ℕ, zero, suc, ◌+◌, ◌-◌, ◌≤◌, ◌<◌}
use native.Mathlib.Nat.{add-zero, zero-add, suc-add}
use native.Mathlib.Omega.{arith}
use mathlib.Core.Path.{◌≡◌, refl, sym, ap, ◌∙◌}
use mathlib.Core.Bool.{true, ◌&&◌}
use mathlib.Core.List.{List, [], ◌∷◌, ◌++◌, map, append_assoc}
use lib.ListN.{length, take, drop, replicate, length-map, length-append}
use lib.Seq.{set_at, take_at}
use lib.Dec.{leb}
use borrow.Author.Tests.{leb-true, le-leb, lt-leb, lt-ltb}
use Rattle.figures.specs.Quote.{bytes}
use Rattle.figures.specs.Figures.{every}
use Rattle.text.specs.Judge.{judge}
use Rattle.text.proofs.Judging.{fine, and-then}
use Rattle.shapes.specs.Pattern.{low, high, has_pattern, has_any}
use Rattle.shapes.proofs.Patterns.{both}
use Rattle.places.specs.Engine.{Group, Place}
use Rattle.places.proofs.ReadBack.{All, one-pattern, fill}
use Rattle.places.proofs.Sizes.{Sized, sized-each, Sizes, sizes-all, sizes-more}
use Rattle.places.proofs.Kept.{Kept, keep-each}
use Rattle.record.specs.declared.surface.CloudLayer.{CloudLayer}
use Rattle.record.specs.declared.surface.CloudLayers.{CloudLayers}
use Rattle.record.specs.declared.surface.Section3.{Section3}
use Rattle.record.specs.Blank.{blank_layer, blank_layers}
use Rattle.record.specs.SilentSurface.{is_blank_layer}
use Rattle.record.specs.Arrays.{Each}
use Rattle.record.specs.Set.{set_layers}
use Rattle.record.proofs.SurfaceBlanks.{layer-blank}
use Rattle.record.proofs.Counted.{Listed, listed_of, taken, dropped}
use Rattle.synop_groups.specs.Shows.{show_layer}
use Rattle.synop_groups.specs.Judge.{layer_fits}
use Rattle.synop_groups.specs.Classes.{class_layer}
use Rattle.synop_groups.proofs.RoundTripLayer.{layer-shaped, layer-back, layer-told, layer-again, layer-classed}
use Rattle.section3.specs.Row.{rises, layer_at, show_layers, class_layers, place_for}
use Rattle.section3.specs.Write.{judge_each, judge_layers}
use Rattle.section3.proofs.Feet.{rises-classed}

-- ---- what is judged fine

abbrev Fits : CloudLayer → Type 0
Fits l = layer_fits l ≡ true

-- each of them is in range
each_fits : (before ls : List CloudLayer) → judge_each before ls ≡ Ok tt → Each Fits ls
each_fits before [] e = tt
each_fits before (l ∷ ls) e =
    let j = and-then (judge (layer_fits l) (rises before l)) _ e in
    ((fine (layer_fits l) (rises before l) j.0).0, each_fits (before ++ (l ∷ [])) ls j.1)

abbrev Any : CloudLayer → Type 0
Any l = Unit {0}

any : (ls : List CloudLayer) → Each Any ls
any [] = tt
any (l ∷ ls) = (tt, any ls)

-- At most four count, judged one after the other, and past them all are blank.
pub record Counted (ls : CloudLayers) : Type 0 where
  pub listed : Listed Fits is_blank_layer blank_layer 4 ls.count ls.items
  pub each : judge_each [] (take ls.count ls.items) ≡ Ok tt

pub layers-fit : (ls : CloudLayers) → length ls.items ≡ 4 → judge_layers ls ≡ Ok tt → Counted ls
unfolding judge_layers
layers-fit ls four e =
    let j = and-then (judge (leb ls.count 4 && every is_blank_layer (drop ls.count ls.items)) true) _ e in
    let s = both (leb ls.count 4) (every is_blank_layer (drop ls.count ls.items)) (fine _ true j.0).0 in
    record {
      listed = listed_of (λ l a h. layer-blank l h) four (any ls.items) (leb-true ls.count 4 s.0) (each_fits [] (take ls.count ls.items) j.1) s.1;
      each = j.1;
    }

-- ---- what is written

abbrev Right : Group → Type 0
Right g = (has_pattern g (bytes "8####") ≡ true) × (has_any (bytes "8####" ∷ []) g ≡ true)

shown-each : (ls : List CloudLayer) → Each Fits ls → All Right (map show_layer ls)
shown-each [] a = tt
shown-each (l ∷ ls) a = let h = layer-shaped l a.0 in ((h, one-pattern (bytes "8####") (show_layer l) h), shown-each ls a.1)

module _ (ls : CloudLayers) (c : Counted ls) where
  pub layers-shaped : All Right (show_layers ls)
  unfolding show_layers
  layers-shaped = shown-each (take ls.count ls.items) c.listed.each

  many : length (show_layers ls) ≡ ls.count
  unfolding show_layers
  many = length-map (take ls.count ls.items) show_layer ∙ c.listed.many

  pub layers-sized : All (Sized 5) (show_layers ls)
  unfolding low high
  layers-sized = sized-each (λ g. has_pattern g (bytes "8####") ≡ true) 5 (bytes "8####" ∷ []) (show_layers ls) refl layers-shaped

  -- at most four groups of five bytes
  pub layers-sizes : Sizes 24 (show_layers ls)
  layers-sizes = sizes-more (omega (arith, many, c.listed.few)) (sizes-all 5 (show_layers ls) layers-sized)

-- ---- read back one after the other

map_snoc : (ls : List CloudLayer) (l : CloudLayer) → map class_layer (ls ++ (l ∷ [])) ≡ map class_layer ls ++ (class_layer l ∷ [])
map_snoc [] l = refl
map_snoc (k ∷ ls) l = ap (λ (xs : List CloudLayer). class_layer k ∷ xs) (map_snoc ls l)

blanks : (n : ℕ) → n ≤ 4 → drop n (replicate 4 blank_layer) ≡ replicate (4 - n) blank_layer
blanks zero h = refl
blanks (suc zero) h = refl
blanks (suc (suc zero)) h = refl
blanks (suc (suc (suc zero))) h = refl
blanks (suc (suc (suc (suc zero)))) h = refl
blanks (suc (suc (suc (suc (suc n))))) h = absurd (omega arith)

abbrev layers_place : Place Section3
layers_place = place_for "8####" (bytes "8####" ∷ []) 2048 (λ g s. layer_at s.layers g) (λ s. show_layers s.layers) (λ s acc. set_layers (class_layers s.layers) acc)

module _ (s : Section3) where
  abbrev holding : List CloudLayer → ℕ → Section3
  holding items count = set_layers (record { items = items; count = count }) s

  -- the layers before are read as their classes, and so is the next
  read_one : (before : List CloudLayer) (l x : CloudLayer) (rest : List CloudLayer) (k : ℕ) → length before < 4 → layer_fits l ≡ true → rises before l ≡ true
      → layers_place.read k (show_layer l) (holding (map class_layer before ++ (x ∷ rest)) (length before))
      ≡ Ok (holding (map class_layer before ++ (class_layer l ∷ rest)) (length before + 1))
  unfolding layer_at
  read_one before l x rest k room fits up =
      let n : length (map class_layer before) ≡ length before = length-map before class_layer in
      let stood : take (length before) (map class_layer before ++ (x ∷ rest)) ≡ map class_layer before = take_at (map class_layer before) (x ∷ rest) (length before) n in
      rw (layer-told l fits, lt-leb 4 (length before) room, layer-back l fits, stood, rises-classed before l, up, lt-ltb (length before) 4 room, set_at (map class_layer before) x rest (class_layer l) (length before) n)

  fill-each : (ws before : List CloudLayer) (k rest : ℕ) → judge_each before ws ≡ Ok tt → length before + (length ws + rest) ≡ 4
      → fill layers_place k (map show_layer ws) (holding (map class_layer before ++ replicate (length ws + rest) blank_layer) (length before))
      ≡ Ok (holding (map class_layer before ++ (map class_layer ws ++ replicate rest blank_layer)) (length before + length ws))
  fill-each [] before k rest e sum = rw (add-zero (length before), zero-add rest)
  fill-each (w ∷ ws) before k rest e sum =
      let j = and-then (judge (layer_fits w) (rises before w)) (judge_each (before ++ (w ∷ [])) ws) e in
      let f = fine (layer_fits w) (rises before w) j.0 in
      let next : length (before ++ (w ∷ [])) ≡ length before + 1 = simp length-append (omega arith) in
      let all : map class_layer (before ++ (w ∷ [])) ≡ map class_layer before ++ (class_layer w ∷ []) = map_snoc before w in
      let count : length before + 1 + length ws ≡ length before + suc (length ws) = omega arith in
      rw (suc-add (length ws) rest, read_one before w blank_layer (replicate (length ws + rest) blank_layer) k (omega arith) f.0 f.1)
      (rw count at (simp append_assoc at (rw (all, next) at (fill-each ws (before ++ (w ∷ [])) (k + 1) rest j.1 (omega (arith, next))))))

  -- THE LAYERS ARE READ BACK AS THEIR CLASSES, into blank slots.
  module _ (ls : CloudLayers) (c : Counted ls) where
    filled : fill layers_place 0 (show_layers ls) (holding (replicate 4 blank_layer) 0) ≡ Ok (set_layers (class_layers ls) s)
    unfolding show_layers
    filled =
        let n = ls.count in
        let l = c.listed in
        let past : replicate (4 - n) blank_layer ≡ drop n ls.items = sym (blanks n l.few) ∙ l.rest in
        let sum : n + (4 - n) ≡ 4 = omega (arith, l.few) in
        rw (← past) (rw (l.many, sum, zero-add n) at (fill-each (take n ls.items) [] 0 (4 - n) c.each (omega (arith, l.many, l.few))))

pub kept-layers : (s acc : Section3) → Counted s.layers → Kept layers_place 5 s (set_layers blank_layers acc)
kept-layers s acc c =
    keep-each refl (layers-shaped s.layers c) (layers-sized s.layers c) (omega (arith, many s.layers c, c.listed.few)) (filled acc s.layers c)

-- ---- the classes are written alike, and judged fine

again-each : (ls : List CloudLayer) → Each Fits ls → map show_layer (map class_layer ls) ≡ map show_layer ls
again-each [] a = refl
again-each (l ∷ ls) a = rw (layer-again l a.0, again-each ls a.1)

classed-each : (before ls : List CloudLayer) → judge_each before ls ≡ Ok tt → judge_each (map class_layer before) (map class_layer ls) ≡ Ok tt
classed-each before [] e = refl
classed-each before (l ∷ ls) e =
    let j = and-then (judge (layer_fits l) (rises before l)) (judge_each (before ++ (l ∷ [])) ls) e in
    let f = fine (layer_fits l) (rises before l) j.0 in
    rw (layer-classed l f.0, rises-classed before l, f.1) (rw (map_snoc before l) at (classed-each (before ++ (l ∷ [])) ls j.1))

module _ (ls : CloudLayers) (c : Counted ls) where
  pub layers-again : show_layers (class_layers ls) ≡ show_layers ls
  unfolding show_layers
  layers-again = rw (taken class_layer ls.count ls.items c.listed.many) (again-each (take ls.count ls.items) c.listed.each)

  pub layers-classed : judge_layers (class_layers ls) ≡ Ok tt
  unfolding judge_layers
  layers-classed =
      rw (taken class_layer ls.count ls.items c.listed.many, dropped class_layer ls.count ls.items c.listed.many, le-leb ls.count 4 c.listed.few, c.listed.past)
      (classed-each [] (take ls.count ls.items) c.each)
