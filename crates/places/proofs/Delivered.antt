-- What is written of a record of any kind: a list of its parts one after the other; how long the canonical text is, and that it is read back where its
-- groups are; what a writer answers, and the lent buffer afterwards, where the record is refused and where it is fine.
-- Assumes nothing.
use Rattle.std.specs.Prelude.{⊤, Err, None, Ok, Option, Result}
use Prim.Native.Nat.{ℕ, ◌+◌, ◌≤◌, ◌<◌}
use native.Mathlib.Numerals.{add-one}
use native.Mathlib.Omega.{arith}
use mathlib.Core.Path.{◌≡◌, sym}
use mathlib.Core.List.{List, [], ◌∷◌, ◌++◌, append_assoc, append-nil}
use lib.ListN.{length, take, get_or, replicate}
use lib.Seq.{take-suc}
use Rattle.figures.specs.Put.{Put}
use Rattle.text.specs.declared.kinds.Refusal.{Refusal}
use Rattle.text.specs.Groups.{Piece, groups_from, join, written}
use Rattle.text.specs.Text.{tail_of}
use Rattle.text.specs.Write.{answer_by, buffer_by}
use Rattle.text.proofs.Joins.{round-trip-bytes, join-tail}
use Rattle.text.proofs.Writes.{write-groups, made-within, made-text}
use Rattle.places.specs.Engine.{Group, Outcome, Done}
use Rattle.places.proofs.ReadBack.{groups_of}
use Rattle.places.proofs.Sizes.{Sizes, join-room}

-- ---- a list, one part after the other

-- the groups of one, and of each of a list
module _ {A : Type 0} (one : A → List Group) (each : List A → List Group) (none : each [] ≡ []) (more : (x : A) (xs : List A) → each (x ∷ xs) ≡ one x ++ each xs) where
  each_append : (xs ys : List A) → each (xs ++ ys) ≡ each xs ++ each ys
  each_append [] ys = rw none
  each_append (x ∷ xs) ys = rw (more x (xs ++ ys), more x xs, each_append xs ys) (sym (append_assoc (one x) (each xs) (each ys)))

  last : (x : A) → each (x ∷ []) ≡ one x
  last x = rw (more x [], none) (append-nil (one x))

  -- one more, after those that are written
  pub one_more : {b l m : List ℕ} {at j r : ℕ} (xs : List A) (i : ℕ) (d : A) → i < length xs → Put b at (written at (each (take i xs))) j l
      → Put l j (written j (one (get_or xs i d))) r m → Put b at (written at (each (take (i + 1) xs))) r m
  one_more xs i d h p q =
      rw (add-one, take-suc xs i d h, each_append (take i xs) (get_or xs i d ∷ []), last (get_or xs i d))
      (write-groups (each (take i xs)) (one (get_or xs i d)) p q)

-- ---- the text

pub joined-short : {n : ℕ} (gs : List Group) → 0 < length gs → Sizes n gs → length (join gs) ≤ n
joined-short [] some s = absurd (omega arith)
joined-short (g ∷ gs) some s = rw (join-room g gs) s.short

-- what groups come to, from any pieces that hold them, their text comes to
pub joined_back : {R : Type 0} {n : ℕ} {r : R} (read : Option ℕ → ℕ → List Piece → Outcome R) (gs : List Group) → Sizes n gs
    → ((end : ℕ) (ps : List Piece) → groups_of ps ≡ gs → read None end ps ≡ Done end r)
    → read (tail_of (join gs)) (length (join gs)) (groups_from (join gs) 0) ≡ Done (length (join gs)) r
joined_back read gs s back = rw (join-tail gs s.wholes) (back (length (join gs)) (groups_from (join gs) 0) (round-trip-bytes gs s.wholes))

-- the report made first in an array that has room for it
pub made : {m n end : ℕ} {e : List ℕ} (gs : List Group) → Sizes m gs → length (join gs) ≤ n → Put (replicate n 0) 0 (written 0 gs ++ (61 ∷ [])) end e
    → (end ≤ length e) × (take end e ≡ join gs)
made gs s short p = (made-within gs s.wholes short p, made-text gs s.wholes short p)

-- ---- the answer and the buffer, of a record judged j whose canonical text is x

pub delivered : {j : Result ⊤ Refusal} {x y e : List ℕ} {w : Result ℕ Refusal} (b : List ℕ) → j ≡ Ok tt → y ≡ x
    → (w ≡ answer_by (Ok tt) y (length b)) × (e ≡ buffer_by (Ok tt) y b) → (w ≡ answer_by j x (length b)) × (e ≡ buffer_by j x b)
delivered b fine is h = rw (fine, ← is) h

pub not-delivered : {j : Result ⊤ Refusal} {f : Refusal} (x b : List ℕ) → j ≡ Err f → (Err f ≡ answer_by j x (length b)) × (b ≡ buffer_by j x b)
not-delivered x b e = (rw e, rw e)
