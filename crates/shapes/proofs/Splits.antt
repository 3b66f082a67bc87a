-- The laws of texts that are cut up, and the same in std's words: how many bytes at the front pass a test, and the pieces between marks.
-- Assumes nothing.
use mathlib.Core.Path.{◌≡◌, refl, ap}
use mathlib.Core.Bool.{Bool, true, false, cond, not}
use mathlib.Core.List.{List, [], ◌∷◌}
use Prim.Native.Nat.{ℕ, suc, ◌+◌, ◌-◌, ◌≤◌}
use native.Mathlib.Omega.{arith}
use lib.ListN.{length, take, drop, get_or, length-drop}
use lib.Seq.{take-length}
use lib.Dec.{ltb, eqb}
use borrow.Author.Tests.{ltb-false}
use denote.Ref.{Bor}
use Rattle.std.proofs.Common.{Option, Some, None}
use Rattle.std.specs.Option.{option_map, unwrap_or}
use Rattle.std.specs.List.{prefix_len, position_or_len, slice_get, slice_split}
use Rattle.std.proofs.lemmas.List.Sums.{prefix_len-le-length}
use Rattle.std.proofs.lemmas.Option.{unwrap_or-slice_get}
use Rattle.std.proofs.lemmas.List.Recursion.{same_from_clauses}
use Rattle.shapes.specs.Shape.{leading, up_to, onto, split}

-- ---- bytes at the front

pub lead-le : (t : ℕ → Bool) (s : List ℕ) → leading t s ≤ length s
unfolding leading
lead-le t [] = omega arith
lead-le t (b ∷ s) = go (t b) (lead-le t s)
  where
    go : (x : Bool) → leading t s ≤ length s → cond x (suc (leading t s)) 0 ≤ suc (length s)
    go true h = omega arith
    go false h = omega arith

-- all that is left from a place on
pub all_from : (s : List ℕ) (i : ℕ) → take (length s - i) (drop i s) ≡ drop i s
all_from s i = rw (← length-drop i s) (take-length (drop i s))

-- ---- std's words for the same

pub leading-prefix_len : (t : ℕ → Bool) (s : List ℕ) → leading t s ≡ prefix_len t s
unfolding leading
leading-prefix_len t s =
    same_from_clauses (leading t) (prefix_len t) (λ b n. cond (t b) (1 + n) 0) refl (λ b bs. ap (λ (n : ℕ). cond (t b) n 0) (omega arith)) (λ b bs. refl) s

pub split-slice_split : (c : ℕ) (s : List ℕ) → split c s ≡ slice_split (λ b. eqb b c) s
unfolding split
split-slice_split c s =
    same_from_clauses (split c) (slice_split (λ b. eqb b c)) (λ b ws. cond (eqb b c) ([] ∷ ws) (onto b ws)) refl (λ b bs. refl) (λ b bs. refl) s

-- what `position` and `split` answer, where there may be none

pub up_to-position : (c : ℕ) (s : List ℕ) (r : Option ℕ)
    → r ≡ cond (ltb (position_or_len (λ b. eqb b c) s) (length s)) (Some (position_or_len (λ b. eqb b c) s)) None
    → unwrap_or r (length s) ≡ up_to c s
up_to-position c s r e = rw (e, leading-prefix_len) (go (ltb (position_or_len (λ b. eqb b c) s) (length s)) refl)
  where
    go : (x : Bool) → ltb (position_or_len (λ b. eqb b c) s) (length s) ≡ x
        → unwrap_or (cond x (Some (position_or_len (λ b. eqb b c) s)) None) (length s) ≡ position_or_len (λ b. eqb b c) s
    go true f = refl
    go false f = omega (arith, ltb-false _ _ f, prefix_len-le-length (λ b. not (eqb b c)) s)

pub piece-nth : (c : ℕ) (s : List ℕ) (n : ℕ) (r : Option (Bor (List ℕ))) (d : Bor (List ℕ))
    → option_map (λ x. x.now) r ≡ slice_get (slice_split (λ b. eqb b c) s) n → d.now ≡ []
    → (unwrap_or r d).now ≡ get_or (split c s) n []
piece-nth c s n None d e h = rw (split-slice_split, ← unwrap_or-slice_get, ← e) h
piece-nth c s n (Some x) d e h = rw (split-slice_split, ← unwrap_or-slice_get, ← e)
