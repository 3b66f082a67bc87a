-- THE LAYERS OF SECTION 3: each is what its group says, 8//// passed over.
-- Assumes nothing.
use Rattle.std.specs.Prelude.{Ok}
use Prim.Native.Nat.{ℕ, zero, suc, ◌+◌, ◌-◌, ◌≤◌, ◌<◌}
use native.Mathlib.Omega.{arith}
use mathlib.Core.Path.{◌≡◌, refl, sym, ap, subst, ◌∙◌}
use mathlib.Core.Bool.{Bool, true, false, cond, not, ◌&&◌}
use mathlib.Core.List.{List, [], ◌∷◌, ◌++◌, map}
use lib.ListN.{length, get_or, set, length-set}
use lib.Seq.{get_or-set_same, get_or-set_other}
use lib.Dec.{eqb}
use borrow.Author.Tests.{eqb-true, eqb-false, ne_eqb, leb-false, lt-ltb}
use Rattle.figures.specs.Quote.{bytes}
use Rattle.figures.proofs.Impossible.{impossible}
use Rattle.text.specs.Groups.{Piece}
use Rattle.shapes.specs.Pattern.{has_pattern}
use Rattle.places.specs.Engine.{Group, place_at}
use Rattle.record.specs.declared.surface.CloudLayer.{CloudLayer}
use Rattle.record.specs.declared.surface.CloudLayers.{CloudLayers}
use Rattle.record.specs.declared.surface.Section3.{Section3}
use Rattle.record.specs.Blank.{blank_layer, blank_section3}
use Rattle.synop_groups.specs.declared.kinds.Said.TheVariants as said
use Rattle.synop_groups.specs.Reads.{said_layer}
use Rattle.section3.specs.Row as third
use Rattle.sources.specs.Trail.{Taken, Origin, group}
use Rattle.sources.proofs.Rows.{Entry, Went, done, on}
use Rattle.sources.proofs.Parts.{as_taken}
use Rattle.sources.proofs.Items.{Stems, from, absent}
use Rattle.sources.proofs.Texts.{Lies, AllLie}
use Rattle.synop_sources.specs.Items.{layers_place, is_layer, kth, layer_in, LayerSaid}
use Rattle.synop_sources.proofs.Sections.{Third, over, stop, opened}
use Rattle.synop_sources.proofs.Items.{LayerDone, no-layer, layer, layer-done, third-only}

-- ---- one group

abbrev speaks : ℕ → Group → Bool
speaks j g = eqb j layers_place && not (has_pattern g (bytes "8////"))

-- a group that says a layer adds it behind those before it; any other leaves the layers as they are
data LayerStep (j : ℕ) (g : Group) (a a' : Section3) : Type 0 where
  leaves : speaks j g ≡ false → a'.layers ≡ a.layers → LayerStep j g a a'
  adds : {l : CloudLayer} → speaks j g ≡ true → a.layers.count < 4 → said_layer g ≡ said.Layer l
      → a'.layers ≡ record { items = set a.layers.items a.layers.count l; count = a.layers.count + 1 } → LayerStep j g a a'

layer-step : (j m : ℕ) (g : Group) (a a' : Section3) → (place_at third.row j).read m g a ≡ Ok a' → LayerStep j g a a'
unfolding third.row
layer-step j m g a a' e = go (eqb j layers_place) refl
  where
    step : (a' : Section3) → j ≡ layers_place → eqb j layers_place ≡ true → LayerDone g a a' → LayerStep j g a a'
    step _ same is (no-layer p) = leaves (rw (is, p)) refl
    step _ same is (layer {l} p q r) = let few = leb-false 4 a.layers.count q in adds (rw (is, p)) few r (rw (lt-ltb a.layers.count 4 few))

    go : (b : Bool) → eqb j layers_place ≡ b → LayerStep j g a a'
    go true is = let same = eqb-true j layers_place is in step a' same is (layer-done g a a' (rw same at e))
    go false is = leaves (rw is) (third-only j m g a a' e layers_place (ne_eqb layers_place j (λ q. eqb-false j layers_place is (sym q))))

-- ---- the layers that are read

abbrev at : ℕ → CloudLayers → CloudLayer
at j ls = get_or ls.items j blank_layer

abbrev Told : Section3 → ℕ → CloudLayers → Origin → Type 0
Told s₁ j ls o = Stems (λ g. LayerSaid g.bytes (at j s₁.layers)) (at j s₁.layers ≡ at j ls) o

otherwise : {says : Piece → Type 0} {A B : Type 0} {o : Origin} → (A → B) → Stems says A o → Stems says B o
otherwise f (from g x) = from g x
otherwise f (absent x) = absent (f x)

module _ {c₁ k₁ : ℕ} {s₁ : Section3} {left : List Piece} where
  -- one that stands stays
  layers-kept : (j : ℕ) {c k : ℕ} {s : Section3} {gs : List Piece} {es : List Entry} → Went third.row third.halts c₁ k₁ s₁ left c k s gs es → j < s.layers.count → at j s₁.layers ≡ at j s.layers
  layers-kept j done h = refl
  layers-kept j {s = s} (on {i = i} {n = m} {r' = s'} {g = g} t e w) h = go (layer-step i m g.bytes s s' e) (λ x. layers-kept j w x)
    where
      go : LayerStep i g.bytes s s' → (j < s'.layers.count → at j s₁.layers ≡ at j s'.layers) → at j s₁.layers ≡ at j s.layers
      go (leaves n same) later = later (rw same h) ∙ ap (at j) same
      go (adds {l} n few is same) later =
          later (rw same (omega arith)) ∙ ap (at j) same ∙ get_or-set_other s.layers.items s.layers.count j l blank_layer (omega arith)

  -- THE J-TH LAYER IS WHAT ITS GROUP SAYS, or it is as it was.
  layers-told : (j : ℕ) {c k : ℕ} {s : Section3} {gs : List Piece} {es : List Entry} → Went third.row third.halts c₁ k₁ s₁ left c k s gs es → length s.layers.items ≡ 4 → s.layers.count ≤ j → j < 4
      → Told s₁ j s.layers (layer_in (j - s.layers.count) (map (as_taken 1) es ++ []))
  unfolding layer_in
  layers-told j done fair h few = absent refl
  layers-told j {s = s} (on {i = i} {n = m} {r' = s'} {g = g} {es = es} t e w) fair h few =
      go (map (as_taken 1) es ++ []) (layer-step i m g.bytes s s' e) (layers-kept j w) (λ a b. layers-told j w a b few)
    where
      go : (xs : List Taken) → LayerStep i g.bytes s s' → (j < s'.layers.count → at j s₁.layers ≡ at j s'.layers)
          → (length s'.layers.items ≡ 4 → s'.layers.count ≤ j → Told s₁ j s'.layers (layer_in (j - s'.layers.count) xs))
          → Told s₁ j s.layers (cond (speaks i g.bytes) (kth (j - s.layers.count) g (λ k. layer_in k xs)) (layer_in (j - s.layers.count) xs))
      go xs (leaves n same) kept later = rw n (subst (λ (ls : CloudLayers). Told s₁ j ls (layer_in (j - ls.count) xs)) same (later (rw same fair) (rw same h)))
      go xs (adds {l} n room is same) kept later = rw n (by (eqb j s.layers.count) refl)
        where
          by : (b : Bool) → eqb j s.layers.count ≡ b → Told s₁ j s.layers (kth (j - s.layers.count) g (λ k. layer_in k xs))
          by true q =
              let here : j ≡ s.layers.count = eqb-true j s.layers.count q in
              let first : j - s.layers.count ≡ 0 = omega arith in
              let stands : at j (record { items = set s.layers.items s.layers.count l; count = s.layers.count + 1 }) ≡ l = rw here (get_or-set_same s.layers.items s.layers.count l blank_layer (rw fair room)) in
              rw first (from g (is ∙ ap said.Layer (sym (kept (rw same (omega arith)) ∙ ap (at j) same ∙ stands))))
          by false q =
              let past : j - s.layers.count ≡ suc (j - (s.layers.count + 1)) = omega (arith, eqb-false j s.layers.count q) in
              rw past
              (otherwise (λ z. z ∙ get_or-set_other s.layers.items s.layers.count j l blank_layer (eqb-false j s.layers.count q))
              (subst (λ (ls : CloudLayers). Told s₁ j ls (layer_in (j - ls.count) xs)) same
              (later (rw same (length-set s.layers.items s.layers.count l ∙ fair)) (rw same (omega (arith, eqb-false j s.layers.count q))))))

-- ---- in the trail

first-layers : (k : ℕ) (es : List Entry) (xs : List Taken) → layer_in k (map (as_taken 0) es ++ xs) ≡ layer_in k xs
unfolding layer_in
first-layers k [] xs = refl
first-layers k (e ∷ es) xs = first-layers k es xs

pub layers-stem : (j : ℕ) → j < 4 → (es : List Entry) {end rest : ℕ} {s : Section3} {left : List Piece} {xs : List Taken} → Third end rest s left xs
    → Stems (λ g. LayerSaid g.bytes (at j s.layers)) (at j s.layers ≡ at j blank_section3.layers) (layer_in j (map (as_taken 0) es ++ xs))
unfolding layer_in
layers-stem j few es {s = s} {xs = xs} x = subst (Stems (λ g. LayerSaid g.bytes (at j s.layers)) (at j s.layers ≡ at j blank_section3.layers)) (sym (first-layers j es xs)) (go x)
  where
    none : j - 0 ≡ j
    none = omega arith

    go : {end rest : ℕ} {s : Section3} {left : List Piece} {xs : List Taken} → Third end rest s left xs
        → Stems (λ g. LayerSaid g.bytes (at j s.layers)) (at j s.layers ≡ at j blank_section3.layers) (layer_in j xs)
    go (over a) = absent refl
    go (stop is a) = absent refl
    go (opened is went halted begins) = rw none at (layers-told j went refl (omega arith) few)

-- its group lies in the text
pub layer-lies : (t : List ℕ) (xs : List Taken) (left : List Piece) → AllLie t (map (λ (x : Taken). x.piece) xs ++ left) → (k : ℕ) (g : Piece) → layer_in k xs ≡ group g → Lies t g
unfolding layer_in
layer-lies t [] left l k g e = impossible (cc)
layer-lies t (x ∷ xs) left (l, ls) k g e = go (is_layer x) k (layer-lies t xs left ls) e
  where
    go : (b : Bool) (k : ℕ) → ((j : ℕ) (g : Piece) → layer_in j xs ≡ group g → Lies t g) → cond b (kth k x.piece (λ j. layer_in j xs)) (layer_in k xs) ≡ group g → Lies t g
    go true zero later e = let same : x.piece ≡ g = cc in subst (Lies t) same l
    go true (suc k) later e = later k g e
    go false k later e = later k g e
