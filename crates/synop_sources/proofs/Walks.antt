-- What a step of a walk gives, by what the walk met; and how the two searches go on behind it.
-- Assumes nothing.
use Rattle.std.specs.Prelude.{None, Some}
use Prim.Native.Nat.{ℕ, zero, suc, ◌+◌, ◌-◌}
use native.Mathlib.Omega.{arith}
use mathlib.Core.Path.{◌≡◌, refl, sym, ap}
use mathlib.Core.Bool.{true, false, ◌&&◌}
use mathlib.Core.List.{List, []}
use lib.Dec.{eqb}
use Rattle.sources.specs.declared.kinds.Spot.{Spot}
use Rattle.sources.specs.declared.kinds.Spot.TheVariants as spot
use Rattle.sources.specs.Trail.{Taken, trail, same_spot, origin_in, source_of, source_at}
use Rattle.sources.proofs.Walks.{length_part}
use Rattle.synop_sources.specs.declared.kinds.Met.{Met}
use Rattle.synop_sources.specs.declared.kinds.Met.TheVariants as met
use Rattle.synop_sources.specs.declared.kinds.Walk.{Walk}
use Rattle.synop_sources.specs.declared.kinds.Step.{Step}
use Rattle.synop_sources.specs.Trail.{mark_at, met_of}
use Rattle.synop_sources.specs.Items.{is_layer, layer_in}
use Rattle.synop_sources.specs.Walk.{left, taken_of, Came}
use Rattle.synop_sources.proofs.Steps.{was-over, was-taken, was-opened}

module _ (t : List ℕ) (w : Walk) {x : Met} (is : x ≡ met_of t w.from w.ship (mark_at w.part w.place w.count)) where
  pub step_over : x ≡ met.Over → left t w ≡ []
  step_over e = was-over t w.from w.ship w.part w.place w.count is e

  pub step_takes : {i n s e : ℕ} → x ≡ met.Takes i n s e
      → Came t w (record { ship = w.ship; part = w.part; place = i; count = n + 1; from = e }) (record { part = w.part; spot = spot.At i n; source = source_at s e })
  unfolding trail
  step_takes {s = s} {e} m =
      let took = was-taken t w.from w.ship w.part w.place w.count is m in
      record {
        rest = rw (took.follows.groups, took.moves);
        source = ap (λ (to : ℕ). Some (source_at s to)) (sym (length_part t w.from s e took.follows));
        on = omega (arith, took.follows.after, took.follows.some);
        within = took.follows.within;
      }

  pub step_opens : {s e : ℕ} → x ≡ met.Opens s e
      → Came t w (record { ship = w.ship; part = 1; place = 0; count = 0; from = e }) (record { part = 1; spot = spot.Opening; source = source_at s e })
  unfolding trail
  step_opens {s} {e} m =
      let began = was-opened t w.from w.ship w.part w.place w.count is m in
      record {
        rest = rw (began.follows.groups, began.moves, began.first);
        source = ap (λ (to : ℕ). Some (source_at s to)) (sym (length_part t w.from s e began.follows));
        on = omega (arith, began.follows.after, began.follows.some);
        within = began.follows.within;
      }

-- nothing is left to look in
pub nowhere_left : {xs : List Taken} → xs ≡ [] → (part : ℕ) (at : Spot) → None ≡ source_of (origin_in part at xs)
unfolding origin_in
nowhere_left over part at = rw over

pub no_layer_left : {xs : List Taken} → xs ≡ [] → (more : ℕ) → None ≡ source_of (layer_in more xs)
unfolding layer_in
no_layer_left over more = rw over

module _ {t : List ℕ} {w w' : Walk} {s : Step} (came : Came t w w' s) where
  -- the group of a spot is this one, or is still to come
  pub here : (part : ℕ) (at : Spot) → (eqb part s.part && same_spot at s.spot) ≡ true → Some s.source ≡ source_of (origin_in part at (left t w))
  unfolding origin_in
  here part at e = rw (came.rest, e) came.source

  pub further : (part : ℕ) (at : Spot) → (eqb part s.part && same_spot at s.spot) ≡ false → origin_in part at (left t w') ≡ origin_in part at (left t w)
  unfolding origin_in
  further part at e = rw (came.rest, e)

  -- and so of a layer, which is this one where no more are to be passed over
  pub layer_here : (more : ℕ) → is_layer (taken_of t s) ≡ true → more ≡ 0 → Some s.source ≡ source_of (layer_in more (left t w))
  unfolding layer_in
  layer_here more e z = rw (z, came.rest, e) came.source

  pub layer_passed : (more : ℕ) → is_layer (taken_of t s) ≡ true → (more ≡ 0 → ⊥) → layer_in (more - 1) (left t w') ≡ layer_in more (left t w)
  unfolding layer_in
  layer_passed zero e some = absurd (some refl)
  layer_passed (suc m) e some = let less : suc m - 1 ≡ m = omega arith in rw (less, came.rest, e)

  pub no_layer : (more : ℕ) → is_layer (taken_of t s) ≡ false → layer_in more (left t w') ≡ layer_in more (left t w)
  unfolding layer_in
  no_layer more e = rw (came.rest, e)
