-- How a walk over a text goes on, group by group: what a loop that looks for an item's source has seen, and what the trail says there.
-- Assumes nothing.
use Rattle.std.specs.Prelude.{None, Option, Some}
use Prim.Native.Nat.{ℕ, ◌+◌}
use native.Mathlib.Omega.{arith}
use mathlib.Core.Path.{◌≡◌, sym, ap}
use mathlib.Core.Bool.{true, false, ◌&&◌}
use mathlib.Core.List.{List, []}
use lib.ListN.{length}
use lib.Dec.{eqb}
use Rattle.text.specs.Groups.{groups_from, part_of}
use Rattle.text.proofs.Groups.{Follows, part_length}
use Rattle.places.specs.Engine.{Group}
use Rattle.sources.specs.declared.kinds.Spot.{Spot}
use Rattle.sources.specs.declared.kinds.Spot.TheVariants as spot
use Rattle.sources.specs.declared.kinds.Source.{Source}
use Rattle.sources.specs.Trail.{Mark, Move, Takes, Opens, Joins, Ends, front, trail, same_spot, group, origin_in, source_of, source_at}

-- how many bytes a part has
pub length_part : (t : List ℕ) (at s e : ℕ) → Follows t at s e → s + length (part_of t s e) ≡ e
length_part t at s e f = rw (part_length t s e (omega (arith, f.some)) f.within) (omega (arith, f.some))

module _ {W : Type 0} (move : Mark W → Group → Move W) (q : ℕ) (s : Spot) (t : List ℕ) where
  -- the source that is looked for, from a position and a mark on
  unfoldable pub looked : Mark W → ℕ → Option Source
  looked m at = source_of (origin_in q s (trail move m (groups_from t at)))

  module _ (m : Mark W) (at : ℕ) where
    pub looked-over : groups_from t at ≡ [] → None ≡ looked m at
    unfolding looked trail origin_in
    looked-over none = rw none

    module _ {from to : ℕ} (f : Follows t at from to) where
      pub looked-ends : move m (part_of t from to) ≡ Ends → None ≡ looked m at
      unfolding looked trail origin_in
      looked-ends e = rw (f.groups, e)

      found : Some (source_at from to) ≡ source_of (group (record { start = from; bytes = part_of t from to }))
      found = ap (λ to. Some (source_at from to)) (sym (length_part t at from to f))

      module _ {i n past : ℕ} (is : move m (part_of t from to) ≡ Takes i n past) where
        pub takes-found : (eqb q m.part && same_spot s (spot.At i n)) ≡ true → Some (source_at from to) ≡ looked m at
        unfolding looked trail origin_in
        takes-found e = rw (f.groups, is, e) found

        pub takes-on : (eqb q m.part && same_spot s (spot.At i n)) ≡ false
            → looked (record { part = m.part; word = m.word; place = past; count = n + 1 }) to ≡ looked m at
        unfolding looked trail origin_in
        takes-on e = rw (f.groups, is, e)

      module _ {w : W} (is : move m (part_of t from to) ≡ Opens w) where
        pub opens-found : (eqb q (m.part + 1) && same_spot s spot.Opening) ≡ true → Some (source_at from to) ≡ looked m at
        unfolding looked trail origin_in
        opens-found e = rw (f.groups, is, e) found

        pub opens-on : (eqb q (m.part + 1) && same_spot s spot.Opening) ≡ false → looked (front (m.part + 1) w) to ≡ looked m at
        unfolding looked trail origin_in
        opens-on e = rw (f.groups, is, e)

      module _ {w : W} (is : move m (part_of t from to) ≡ Joins w) where
        pub joins-found : (eqb q m.part && same_spot s spot.Joined) ≡ true → Some (source_at from to) ≡ looked m at
        unfolding looked trail origin_in
        joins-found e = rw (f.groups, is, e) found

        pub joins-on : (eqb q m.part && same_spot s spot.Joined) ≡ false → looked (front m.part w) to ≡ looked m at
        unfolding looked trail origin_in
        joins-on e = rw (f.groups, is, e)
