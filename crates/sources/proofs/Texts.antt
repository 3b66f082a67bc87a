-- The source of an item as a part of the text: the bytes that the text has there are those that the item was read from.
-- Assumes nothing.
use Rattle.std.specs.Prelude.{None, Option, Some}
use Prim.Native.Nat.{ℕ, zero, suc, ◌+◌, ◌-◌, ◌≤◌}
use native.Mathlib.Omega.{arith}
use mathlib.Core.Path.{◌≡◌, refl, sym, ap, subst}
use mathlib.Core.Bool.{Bool, true, false, ◌&&◌, cond}
use mathlib.Core.List.{List, [], ◌∷◌, ◌++◌, map}
use lib.ListN.{length}
use lib.Dec.{eqb}
use Rattle.figures.proofs.Impossible.{impossible}
use Rattle.text.specs.declared.kinds.Cut.{Cut}
use Rattle.text.specs.declared.kinds.Cut.TheVariants as cut
use Rattle.text.specs.Groups.{Piece, groups_from, next_of, part_of}
use Rattle.text.proofs.Groups.{Follows, when-group, when-end}
use Rattle.places.specs.Engine.{Group}
use Rattle.sources.specs.declared.kinds.Spot.{Spot}
use Rattle.sources.specs.declared.kinds.Source.{Source}
use Rattle.sources.specs.Trail.{Taken, same_spot, Origin, group, origin_in, source_of, source_at}
use Rattle.sources.proofs.Walks.{length_part}
use Rattle.sources.proofs.Items.{Stems, from, absent, Covers}

-- AN ITEM IS READ FROM A PART OF THE TEXT: this is so of the bytes that the text has there; or there is no such part, and the item is missing.
pub data ReadFrom (t : List ℕ) (says : Group → Type 0) (missing : Type 0) : Option Source → Type 0 where
  read : (s e : ℕ) → says (part_of t s e) → ReadFrom t says missing (Some (source_at s e))
  unread : missing → ReadFrom t says missing None

module _ (t : List ℕ) where
  -- what is so of the groups from any position on: of none, and of one more before others
  module _ (So : ℕ → List Piece → Type 0) (none : (at : ℕ) → So at [])
      (more : (at s e : ℕ) → Follows t at s e → So e (groups_from t e) → So at (record { start = s; bytes = part_of t s e } ∷ groups_from t e)) where
    by_length : (fuel at : ℕ) → length t - at ≤ fuel → So at (groups_from t at)
    by_length zero at h = go (next_of t at) refl
      where
        go : (x : Cut) → next_of t at ≡ x → So at (groups_from t at)
        go (cut.End e) is = rw (when-end t at e (sym is)) (none at)
        go (cut.Group s e) is = let f = when-group t at s e (sym is) in absurd (omega (arith, f.after, f.some, f.within))
    by_length (suc fuel) at h = go (next_of t at) refl (λ e. by_length fuel e)
      where
        go : (x : Cut) → next_of t at ≡ x → ((e : ℕ) → length t - e ≤ fuel → So e (groups_from t e)) → So at (groups_from t at)
        go (cut.End e) is next = rw (when-end t at e (sym is)) (none at)
        go (cut.Group s e) is next =
            let f = when-group t at s e (sym is) in
            subst (So at) (sym f.groups) (more at s e f (next e (omega (arith, f.after, f.some, f.within))))

    pub over-groups : (at : ℕ) → So at (groups_from t at)
    over-groups at = by_length (length t - at) at (omega arith)

  -- a group's bytes are those that the text has at its place
  abbrev pub Lies : Piece → Type 0
  Lies g = part_of t g.start (g.start + length g.bytes) ≡ g.bytes

  abbrev pub AllLie : List Piece → Type 0
  AllLie [] = Unit {0}
  AllLie (g ∷ gs) = Lies g × AllLie gs

  pub groups-lie : AllLie (groups_from t 0)
  groups-lie = over-groups (λ at gs. AllLie gs) (λ at. tt) (λ at s e f next. (ap (part_of t s) (length_part t at s e f), next)) 0

  taken-lie : (xs : List Taken) (left : List Piece) → AllLie (map (λ (x : Taken). x.piece) xs ++ left) → (q : ℕ) (s : Spot) (g : Piece) → origin_in q s xs ≡ group g → Lies g
  unfolding origin_in
  taken-lie [] left l q s g e = impossible (cc)
  taken-lie (x ∷ xs) left (l, ls) q s g e = go (eqb q x.part && same_spot s x.spot) (taken-lie xs left ls q s g) e
    where
      go : (b : Bool) → (origin_in q s xs ≡ group g → Lies g) → cond b (group x.piece) (origin_in q s xs) ≡ group g → Lies g
      go true rest e = let same : x.piece ≡ g = cc in subst Lies same l
      go false rest e = rest e

  pub read-from : {says : Group → Type 0} {missing : Type 0} {end rest : ℕ} (q : ℕ) (s : Spot) (xs : List Taken) → Covers end rest (groups_from t 0) xs
      → Stems (λ g. says g.bytes) missing (origin_in q s xs) → ReadFrom t says missing (source_of (origin_in q s xs))
  read-from {says} {missing} q s xs c x = go (origin_in q s xs) refl x
    where
      go : (o : Origin) → origin_in q s xs ≡ o → Stems (λ g. says g.bytes) missing o → ReadFrom t says missing (source_of o)
      go _ is (from g x) =
          read g.start (g.start + length g.bytes)
          (subst says (sym (taken-lie xs c.left (subst AllLie c.all groups-lie) q s g is)) x)
      go _ is (absent m) = unread m
