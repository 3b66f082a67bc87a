-- Clouds that are read are judged fine and are their own class: layers that rise, or what stands alone.
-- Assumes nothing.
use Rattle.std.specs.Prelude.{⊤, Ok, Option, Result, Some}
use Rattle.text.specs.declared.kinds.Refusal.{Refusal}
use Prim.Native.Nat.{ℕ, ◌+◌, ◌-◌, ◌≤◌, ◌<◌}
use native.Mathlib.Omega.{arith}
use mathlib.Core.Path.{◌≡◌, refl, sym, ap, subst, ◌∙◌}
use mathlib.Core.Bool.{Bool, true, false, cond, not, ◌&&◌, ◌||◌, or-true, false≢true}
use mathlib.Core.List.{List, [], ◌∷◌, ◌++◌, map}
use lib.ListN.{length, take, replicate}
use lib.Dec.{eqb}
use borrow.Author.Tests.{lt-ltb, eqb-true, not-true}
use Rattle.figures.specs.Quote.{bytes}
use Rattle.figures.specs.declared.kinds.Field.{Field}
use Rattle.figures.specs.Figures.{field_at}
use Rattle.text.specs.Judge.{judge}
use Rattle.shapes.specs.Pattern.{has_pattern}
use Rattle.shapes.specs.Shape.{has_shape}
use Rattle.shapes.proofs.Patterns.{both}
use Rattle.places.specs.Engine.{Group}
use Rattle.scales.specs.Metres.{cloud, metres_reading}
use Rattle.scales.proofs.MetresRounds.{cloud-rounds}
use Rattle.record.specs.declared.aerodrome.Amount.TheVariants as amount
use Rattle.record.specs.declared.aerodrome.Layer.{Layer}
use Rattle.record.specs.declared.aerodrome.Cover.{Cover}
use Rattle.record.specs.declared.aerodrome.Cover.TheVariants as cover
use Rattle.record.specs.declared.aerodrome.Sky.{Sky}
use Rattle.record.specs.Body.{blank_layer, blank_sky}
use Rattle.record.specs.SilentAerodrome.{is_blank_layer, is_layers}
use Rattle.elements.specs.Judge.{metres_fit}
use Rattle.elements.specs.Parts.{value_at}
use Rattle.elements.specs.Sky.{layer_shape, height_of, amount_of, read_layer, read_alone, rises, add_layer, layer_agrees, alone_agrees, read_sky, cover_fits, has_amount, written_height, class_layer, judge_layers, judge_sky, class_cover, class_sky}
use Rattle.accepted_laws.proofs.Gives.{Gives, good, gives-cond, gives-provided, gives-agreeing, gives-may-miss, gives-used, gives_then}
use Rattle.accepted_laws.proofs.Values.{metres-own, metres-low}
use Rattle.accepted_laws.proofs.Filled.{Filled, filled_none, filled_more, filled-take, filled-slots, filled-own, filled-length, map_same, judged-snoc}

-- ---- a height, a layer, what stands alone

abbrev HeightRead : Bool → Option ℕ → Type 0
HeightRead forecast h = (metres_fit forecast h ≡ true) × (written_height h ≡ h)

height-read : (forecast : Bool) (f : Field) → Gives (HeightRead forecast) (height_of forecast f)
height-read forecast f =
    gives-may-miss f (λ m. gives-provided (not forecast) (λ e. good (e, refl)))
    (λ n q. gives-used (metres_reading cloud n) (λ m e. good (metres-low cloud cloud-rounds n m e, ap Some (metres-own cloud cloud-rounds n m e))))

pub record LayerRead (forecast : Bool) (l : Layer) : Type 0 where
  pub fits : (has_amount l.amount && metres_fit forecast l.height) ≡ true
  pub own : written_height l.height ≡ l.height

amount-there : (k : ℕ) → has_amount (amount_of k) ≡ true
amount-there k = go (eqb k 0) (eqb k 1) (eqb k 2)
  where
    go : (a b c : Bool) → has_amount (cond a amount.Few (cond b amount.Scattered (cond c amount.Broken amount.Overcast))) ≡ true
    go true b c = refl
    go false true c = refl
    go false false true = refl
    go false false false = refl

layer-read : (forecast : Bool) (g : Group) → Gives (LayerRead forecast) (read_layer forecast g)
unfolding read_layer
layer-read forecast g =
    gives_then (height-read forecast (value_at layer_shape g 1).field) (λ h r. good (record { fits = rw (amount-there (value_at layer_shape g 0).which) r.0; own = r.1 }))

pub record AloneRead (forecast : Bool) (c : Cover) : Type 0 where
  pub alone : is_layers c ≡ false
  pub fits : cover_fits forecast c ≡ true
  pub own : class_cover c ≡ c

alone-read : (forecast : Bool) (g : Group) → Gives (AloneRead forecast) (read_alone forecast g)
unfolding read_alone
alone-read forecast g =
    gives-cond (has_pattern g (bytes "SKC")) (λ a. good (record { alone = refl; fits = refl; own = refl }))
    (λ a. gives-cond (has_pattern g (bytes "NSC")) (λ b. good (record { alone = refl; fits = refl; own = refl }))
    (λ b. gives-cond (has_pattern g (bytes "NCD")) (λ c. good (record { alone = refl; fits = refl; own = refl }))
    (λ c. gives_then (height-read forecast (field_at g 2 3)) (λ h r. good (record { alone = refl; fits = r.0; own = ap cover.Vertical r.1 })))))

-- a layer after those before it
abbrev judge_layer : Bool → List Layer → Layer → Result ⊤ Refusal
judge_layer forecast before l = judge (has_amount l.amount && metres_fit forecast l.height) (rises before (written_height l.height))

-- ---- THE CLOUDS, where k groups stand

pub data SkyHeld (forecast cavok : Bool) (k : ℕ) (s : Sky) : Type 0 where
  by-layers : s.cover ≡ cover.Layers → s.count ≡ k → (f : Filled (LayerRead forecast) blank_layer 4 k s.layers) → judge_layers forecast false [] f.done ≡ Ok tt
      → (1 ≤ k → cavok ≡ false) → SkyHeld forecast cavok k s
  by-cover : AloneRead forecast s.cover → s.count ≡ 0 → s.layers ≡ replicate 4 blank_layer → 1 ≤ k → cavok ≡ false → SkyHeld forecast cavok k s

pub sky-none : (forecast cavok : Bool) → SkyHeld forecast cavok 0 blank_sky
unfolding filled_none
sky-none forecast cavok = by-layers refl refl (filled_none (LayerRead forecast) blank_layer 4) refl (λ h. absurd (omega arith))

own-layers : (forecast : Bool) (l : Layer) → LayerRead forecast l → class_layer l ≡ l
own-layers forecast l r = rw r.own

module _ (forecast cavok : Bool) (k : ℕ) (s : Sky) (room : k < 4) where
  layer-added : SkyHeld forecast cavok k s → (l : Layer) → LayerRead forecast l → layer_agrees cavok k s l ≡ true → SkyHeld forecast cavok (k + 1) (add_layer k s l)
  unfolding filled_more
  layer-added (by-cover a n b h c) l r e =
      let t = (both (not cavok && is_layers s.cover) (rises (take k s.layers) l.height) e).0 in
      absurd (false≢true (sym a.alone ∙ (both (not cavok) (is_layers s.cover) t).1))
  layer-added (by-layers is n f j b) l r e =
      let t = both (not cavok && is_layers s.cover) (rises (take k s.layers) l.height) e in
      let same : map class_layer f.done ≡ f.done = map_same (LayerRead forecast) class_layer (own-layers forecast) f.done f.each in
      let up : rises (map class_layer f.done) (written_height l.height) ≡ true = rw (same, r.own, ← (filled-take f)) t.1 in
      rw (lt-ltb k 4 room)
      (by-layers refl refl (filled_more f l room r) (judged-snoc (judge_layer forecast) class_layer (judge_layers forecast false) (λ b. refl) (λ b y ys. refl) [] f.done l j (rw (r.fits, up))) (λ h. not-true cavok (both (not cavok) (is_layers s.cover) t.0).0))

  cover-set : SkyHeld forecast cavok k s → (c : Cover) → AloneRead forecast c → alone_agrees cavok k ≡ true → SkyHeld forecast cavok (k + 1) (record { cover = c; layers = s.layers; count = 0 })
  cover-set h c r e =
      let t = both (not cavok) (eqb k 0) e in
      let zero : k ≡ 0 = eqb-true k 0 t.1 in
      by-cover r refl (blank-still h zero) (omega arith) (not-true cavok t.0)
    where
      blank-still : SkyHeld forecast cavok k s → k ≡ 0 → s.layers ≡ replicate 4 blank_layer
      blank-still (by-layers is n f j b) z = f.are ∙ empty f.done (f.many ∙ z) ∙ rw z
        where
          empty : (xs : List Layer) → length xs ≡ 0 → xs ++ replicate (4 - k) blank_layer ≡ replicate (4 - k) blank_layer
          empty [] e = refl
          empty (x ∷ xs) e = absurd (omega (arith, e))
      blank-still (by-cover a n b h c) z = b

  pub sky-read : (g : Group) → SkyHeld forecast cavok k s → Gives (SkyHeld forecast cavok (k + 1)) (read_sky forecast cavok k g s)
  unfolding read_sky
  sky-read g h =
      gives-cond (has_shape layer_shape g)
      (λ l. gives_then (layer-read forecast g) (λ x r. gives-agreeing (layer_agrees cavok k s x) (λ e. good (layer-added h x r e))))
      (λ l. gives_then (alone-read forecast g) (λ c r. gives-agreeing (alone_agrees cavok k) (λ e. good (cover-set h c r e))))

pub record SkyRead (forecast cavok : Bool) (s : Sky) : Type 0 where
  pub fine : judge_sky forecast cavok s ≡ Ok tt
  pub own : class_sky s ≡ s
  pub slots : length s.layers ≡ 4

pub sky-left : (forecast cavok : Bool) (k : ℕ) (s : Sky) → SkyHeld forecast cavok k s → SkyRead forecast cavok s
unfolding judge_sky
sky-left forecast cavok k s (by-layers is n f j b) =
    record {
      fine = rw (n, filled-slots f is_blank_layer refl, is, or-true (not cavok), filled-take f) (each k b f j);
      own = rw (is, filled-own f class_layer (own-layers forecast) refl);
      slots = filled-length f;
    }
  where
    each : (k : ℕ) → (1 ≤ k → cavok ≡ false) → (f : Filled (LayerRead forecast) blank_layer 4 k s.layers) → judge_layers forecast false [] f.done ≡ Ok tt
        → judge_layers forecast (cavok || false) [] f.done ≡ Ok tt
    each k b f j = go f.done f.many j
      where
        go : (xs : List Layer) → length xs ≡ k → judge_layers forecast false [] xs ≡ Ok tt → judge_layers forecast (cavok || false) [] xs ≡ Ok tt
        go [] m j = refl
        go (x ∷ xs) m j = subst (λ (z : Bool). judge_layers forecast (z || false) [] (x ∷ xs) ≡ Ok tt) (sym (b (omega (arith, m)))) j
sky-left forecast cavok k s (by-cover a n b h c) =
    record { fine = rw (n, b, a.fits, c); own = rw (a.own, b); slots = ap length b }
