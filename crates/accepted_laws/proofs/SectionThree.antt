-- Section 3 that is read is judged fine and is its own class: the maximum, the minimum, and layers that are counted and do not fall within a scale. 8//// is
-- read as no layer, and 333 with no group as a section that is blank.
-- Assumes nothing.
use Rattle.std.specs.Prelude.{⊤, Ok, Result}
use Rattle.text.specs.declared.kinds.Refusal.{Refusal}
use Prim.Native.Nat.{◌+◌}
use mathlib.Core.Path.{◌≡◌, refl}
use mathlib.Core.Bool.{Bool, true, false, cond}
use mathlib.Core.List.{List, [], ◌∷◌, map}
use lib.ListN.{length, take, set}
use lib.Dec.{leb, ltb}
use borrow.Author.Tests.{ltb-true}
use Rattle.figures.specs.Quote.{bytes}
use Rattle.text.specs.declared.kinds.Refusal.TheVariants as refusal
use Rattle.text.specs.Judge.{judge}
use Rattle.shapes.specs.Pattern.{has_pattern}
use Rattle.places.specs.Engine.{Group}
use Rattle.record.specs.declared.surface.CloudLayer.{CloudLayer}
use Rattle.record.specs.declared.surface.CloudLayers.{CloudLayers}
use Rattle.record.specs.declared.surface.Section3.{Section3}
use Rattle.record.specs.Blank.{blank_layer, blank_layers, blank_section3}
use Rattle.record.specs.Set.{set_maximum, set_minimum, set_layers}
use Rattle.record.specs.SilentSurface.{is_blank_layer}
use Rattle.synop_groups.specs.declared.kinds.Said.{Said}
use Rattle.synop_groups.specs.declared.kinds.Said.TheVariants as said
use Rattle.synop_groups.specs.Reads.{said_layer}
use Rattle.synop_groups.specs.Judge.{judge_air, layer_fits}
use Rattle.synop_groups.specs.Classes.{class_layer}
use Rattle.section3.specs.declared.kinds.Told.TheVariants as says
use Rattle.section3.specs.Row.{rises, air_by, told_by, risen, layer_at, add_layer, with_told, class_layers, row}
use Rattle.section3.specs.Write.{judge_each, judge_layers, judge_section3, class_section3}
use Rattle.accepted_laws.proofs.Gives.{Gives, good, bad}
use Rattle.accepted_laws.proofs.Stages.{Stage, Left, ServesRow, StandsAt}
use Rattle.accepted_laws.proofs.Common.{◌&◌, kept, serves-kept}
use Rattle.accepted_laws.proofs.Filled.{Filled, filled_none, filled_more, filled-take, filled-slots, filled-read, filled-own, filled-length, map_same, judged-snoc}
use Rattle.accepted_laws.proofs.Tells.{Tells, told, refused, gives-told}
use Rattle.accepted_laws.proofs.Surfaces.{air-told, LayerRead, layer-told}

-- ---- the layers

pub record LayersHeld (ls : CloudLayers) : Type 0 where
  pub filled : Filled LayerRead blank_layer 4 ls.count ls.items
  pub each : judge_each [] filled.done ≡ Ok tt

layers-none : LayersHeld blank_layers
unfolding filled_none
layers-none = record { filled = filled_none LayerRead blank_layer 4; each = refl }

-- a layer after those before it
abbrev judge_layer : List CloudLayer → CloudLayer → Result ⊤ Refusal
judge_layer before l = judge (layer_fits l) (rises before l)

layer-added : (ls : CloudLayers) (l : CloudLayer) → LayersHeld ls → LayerRead l → rises (take ls.count ls.items) l ≡ true → LayersHeld (add_layer l ls)
unfolding filled_more
layer-added ls l h r up = go (ltb ls.count 4) refl
  where
    same : map (λ (x : CloudLayer). x) h.filled.done ≡ h.filled.done
    same = map_same LayerRead (λ x. x) (λ x y. refl) h.filled.done h.filled.each

    after : judge_layer (map (λ (x : CloudLayer). x) h.filled.done) l ≡ Ok tt
    after = rw (same, r.fits, rw (filled-take h.filled) at up)

    go : (b : Bool) → ltb ls.count 4 ≡ b → LayersHeld (cond b (record { items = set ls.items ls.count l; count = ls.count + 1 }) ls)
    go true e =
        record {
          filled = filled_more h.filled l (ltb-true ls.count 4 e) r;
          each = judged-snoc judge_layer (λ x. x) judge_each (λ b. refl) (λ b y ys. refl) [] h.filled.done l h.each after;
        }
    go false e = h

-- 8//// says nothing, a fifth layer is refused, and so is one that falls
layer-gives : (J : Section3 → Type 0) (g : Group) (s : Section3) → has_pattern g (bytes "8####") ≡ true → LayersHeld s.layers → J s
    → ((ls : CloudLayers) → LayersHeld ls → J (set_layers ls s)) → Gives J (with_told (layer_at s.layers g) s)
unfolding layer_at
layer-gives J g s has h same sets = some (has_pattern g (bytes "8////")) refl
  where
    up : (l : CloudLayer) → LayerRead l → (b : Bool) → rises (take s.layers.count s.layers.items) l ≡ b
        → Gives J (with_told (cond b (says.Layer l) (says.Refused refusal.Disagreement)) s)
    up l r true e = good (sets _ (layer-added s.layers l h r e))
    up l r false e = bad

    judges : {x : Said} → Tells said.Layer LayerRead x → Gives J (with_told (risen s.layers (told_by (air_by false) x)) s)
    judges (told {a = l} r) = up l r (rises (take s.layers.count s.layers.items) l) refl
    judges refused = bad

    counts : (b : Bool) → has_pattern g (bytes "8////") ≡ false
        → Gives J (with_told (cond b (says.Refused refusal.Limit) (risen s.layers (told_by (air_by false) (said_layer g)))) s)
    counts true filled = bad
    counts false filled = judges (layer-told g has filled)

    some : (b : Bool) → has_pattern g (bytes "8////") ≡ b
        → Gives J (with_told (cond b says.Nothing (cond (leb 4 s.layers.count) (says.Refused refusal.Limit) (risen s.layers (told_by (air_by false) (said_layer g))))) s)
    some true e = good same
    some false e = counts (leb 4 s.layers.count) e

layers-fine : (ls : CloudLayers) → LayersHeld ls → judge_layers ls ≡ Ok tt
unfolding judge_layers
layers-fine ls h = rw (filled-slots h.filled is_blank_layer refl, filled-take h.filled, h.each)

layers-own : (ls : CloudLayers) → LayersHeld ls → class_layers ls ≡ ls
layers-own ls h = rw (filled-read h.filled class_layer class_layer (λ x r. refl) refl, filled-own h.filled class_layer (λ x r. r.own) refl)

-- ---- THE SECTION

abbrev pub stages : List (Stage Section3)
stages = kept (λ s. judge_air s.maximum ≡ Ok tt) ∷ kept (λ s. judge_air s.minimum ≡ Ok tt) ∷ kept (λ s. LayersHeld s.layers) ∷ []

abbrev pub start : Section3 → Type 0
start s = Unit {0}

pub serves : ServesRow (λ s. ⊥) start row stages
unfolding row
serves =
    serves-kept _ _ _ _ _ refl
    (λ k g s has b h e. gives-told (λ x. with_told (told_by (air_by false) x) s) (λ a. set_maximum a s) (λ a. refl) (λ f. refl) (air-told g) (λ a t. (b, t, e)))
    & serves-kept _ _ _ _ _ refl
    (λ k g s has b h e. gives-told (λ x. with_told (told_by (air_by true) x) s) (λ a. set_minimum a s) (λ a. refl) (λ f. refl) (air-told g) (λ a t. (b, t, e)))
    & serves-kept _ _ _ _ _ refl (λ k g s has b h e. layer-gives _ g s has h (b, h, e) (λ ls x. (b, x, e)))
    & tt

-- it begins blank
pub begins-blank : StandsAt (λ s. ⊥) start stages 0 0 blank_section3
unfolding judge_air
begins-blank = (tt, refl, refl & layers-none & tt)

pub record SectionThreeRead (s : Section3) : Type 0 where
  pub fine : judge_section3 s ≡ Ok tt
  pub own : class_section3 s ≡ s
  pub four : length s.layers.items ≡ 4

section-held : (s : Section3) → judge_air s.maximum ≡ Ok tt → judge_air s.minimum ≡ Ok tt → LayersHeld s.layers → SectionThreeRead s
unfolding judge_section3
section-held s a b h =
    record { fine = rw (a, b, layers-fine s.layers h); own = rw (layers-own s.layers h); four = filled-length h.filled }

pub section-read : (s : Section3) → Left start stages s → SectionThreeRead s
section-read s x = section-held s x.0.0.1 x.0.1 x.1

-- a report without it has a blank one
pub section-absent : SectionThreeRead blank_section3
unfolding judge_air
section-absent = section-held blank_section3 refl refl layers-none
