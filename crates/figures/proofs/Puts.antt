-- The laws of texts put over a buffer: two put one after the other are one, and what stands in the buffer after a put that had room.
-- Assumes nothing.
use mathlib.Core.Path.{◌≡◌, refl, sym, ap, ◌∙◌}
use mathlib.Core.Bool.{Bool, true, false}
use mathlib.Core.List.{List, [], ◌∷◌, ◌++◌}
use Prim.Native.Nat.{ℕ, suc, ◌+◌, ◌≤◌, ◌<◌}
use native.Mathlib.Nat.{add-suc, add-zero, suc-add}
use native.Mathlib.Omega.{arith}
use lib.ListN.{length, take, drop, set, length-append}
use lib.Dec.{leb}
use lib.Seq.{take_at, drop_at, length-take-le, length-sets, set_out, sets-eq}
use borrow.Author.Tests.{leb-true, leb-false}
use Rattle.figures.specs.Put.{splice, after, Put}

-- ---- splices

pub length-splice : (b : List ℕ) (at : ℕ) (x : List ℕ) → length (splice b at x) ≡ length b
unfolding splice
length-splice b at x = length-sets b at x

-- where x has room
pub splice-eq : (b : List ℕ) (at : ℕ) (x : List ℕ) → at + length x ≤ length b
    → splice b at x ≡ take at b ++ x ++ drop (at + length x) b
unfolding splice
splice-eq b at x h = sets-eq x b at h

-- at or past the end nothing is stored
pub splice-out : (b : List ℕ) (at : ℕ) (x : List ℕ) → length b ≤ at → splice b at x ≡ b
unfolding splice
splice-out b at [] h = refl
splice-out b at (v ∷ x) h = rw (set_out b at v h) (splice-out b (suc at) x (omega arith))

splice-splice : (b : List ℕ) (at : ℕ) (x y : List ℕ) → splice (splice b at x) (at + length x) y ≡ splice b at (x ++ y)
unfolding splice
splice-splice b at [] y = rw add-zero
splice-splice b at (v ∷ x) y = rw (add-suc, ← suc-add) (splice-splice (set b at v) (suc at) x y)

-- ---- positions

pub put-fits : (b : List ℕ) (at : ℕ) (x : List ℕ) → at + length x ≤ length b → after b at x ≡ at + length x
unfolding after
put-fits b at x h = omega arith

put_full : (b : List ℕ) (at : ℕ) (x : List ℕ) → length b < at + length x → length b ≤ after b at x
unfolding after
put_full b at x h = omega arith

-- the next text goes on where the text before it has ended
splice-after : (b : List ℕ) (at : ℕ) (x y : List ℕ) → splice (splice b at x) (after b at x) y ≡ splice b at (x ++ y)
splice-after b at x y = go (leb (at + length x) (length b)) refl
  where
    go : (t : Bool) → leb (at + length x) (length b) ≡ t → splice (splice b at x) (after b at x) y ≡ splice b at (x ++ y)
    go true e = rw (put-fits b at x (leb-true _ _ e)) (splice-splice b at x y)
    go false e =
        let short : length b < at + length x = leb-false _ _ e in
        let len = length-splice b at x in
        let full = put_full b at x short in
        splice-out (splice b at x) (after b at x) y (omega arith)
        ∙ sym (splice-out (splice b at x) (at + length x) y (omega arith))
        ∙ splice-splice b at x y

-- ---- puts

pub put-none : (b : List ℕ) (at : ℕ) → Put b at [] at b
unfolding after splice
put-none b at = record { next = omega arith; text = refl }

pub length-put : {b e : List ℕ} {at r : ℕ} {x : List ℕ} → Put b at x r e → length e ≡ length b
length-put {b} {at = at} {x = x} p = ap length p.text ∙ length-splice b at x

-- one text put after another
pub then : {b l m : List ℕ} {at i r : ℕ} {x y : List ℕ} → Put b at x i l → Put l i y r m → Put b at (x ++ y) r m
unfolding after
then {b} {at = at} {x = x} {y = y} p q =
    let len = length-put p in
    record { next = simp length-append (omega arith); text = cc (splice-after b at x y) }

-- a put that has room: where it ends, what stands up to there, and that the bytes past it are as they were
module _ {b e : List ℕ} {at r : ℕ} {x : List ℕ} (p : Put b at x r e) (room : at + length x ≤ length b) where
  pub put_next : r ≡ at + length x
  put_next = p.next ∙ put-fits b at x room

  split : e ≡ take at b ++ x ++ drop (at + length x) b
  split = p.text ∙ splice-eq b at x room

  front : length (take at b ++ x) ≡ at + length x
  front = length-append (take at b) x ∙ ap (λ (k : ℕ). k + length x) (length-take-le at b (omega arith))

  pub put-before : take (at + length x) e ≡ take at b ++ x
  put-before = rw split (take_at (take at b ++ x) _ _ front)

  pub put-past : drop (at + length x) e ≡ drop (at + length x) b
  put-past = rw split (drop_at (take at b ++ x) _ _ front)
