-- Groups written one after the other over a buffer, and the report that they make. A buffer that is too short changes none of these laws.
-- Assumes nothing.
use Rattle.std.specs.Prelude.{Err, Ok}
use mathlib.Core.Path.{◌≡◌, refl, sym, ap, ◌∙◌}
use mathlib.Core.Bool.{Bool, true, false}
use mathlib.Core.List.{List, [], ◌∷◌, ◌++◌, append-nil}
use Prim.Native.Nat.{ℕ, zero, suc, ◌+◌, ◌≤◌, ◌<◌}
use native.Mathlib.Omega.{arith}
use borrow.Author.Tests.{leb-true, leb-false}
use borrow.Author.Tests.{le-leb, lt-leb}
use native.Mathlib.Nat.{zero-add}
use lib.ListN.{length, take, replicate, length-replicate}
use lib.Dec.{leb}
use Rattle.figures.specs.Put.{after, Put}
use Rattle.figures.proofs.Puts.{put-none, put_next, put-before, splice-out, length-put, then}
use Rattle.text.specs.declared.kinds.Refusal.TheVariants as refusal
use Rattle.text.specs.Groups.{join, opening, written, Wholes}
use Rattle.text.specs.Write.{answer_by, buffer_by}
use Rattle.text.proofs.Joins.{written-append, parted-written}

-- where no room is left one text is put as another is
put-over : {l m : List ℕ} {i r : ℕ} {x : List ℕ} (y : List ℕ) → length l ≤ i → Put l i x r m → Put l i y r m
unfolding after
put-over {l} {i = i} {x = x} y h p = record { next = omega (arith, p.next); text = p.text ∙ splice-out l i x h ∙ sym (splice-out l i y h) }

-- ---- what opens a group
pub open-first : (b : List ℕ) (at : ℕ) → at ≡ 0 → Put b at (opening at) at b
open-first b at e = rw e (put-none b 0)

pub open-later : {b m : List ℕ} {at r : ℕ} → (at ≡ 0 → ⊥) → Put b at (32 ∷ []) r m → Put b at (opening at) r m
open-later {at = zero} n p = absurd (n refl)
open-later {at = suc at} n p = p

-- ---- one group
pub write-group : {b l m : List ℕ} {at i r : ℕ} {g : List ℕ} → Put b at (opening at) i l → Put l i g r m → Put b at (written at (g ∷ [])) r m
unfolding written
write-group {at = at} {g = g} p q = rw (append-nil (opening at ++ g)) (then p q)

-- ---- groups after groups
pub write-groups : {b l m : List ℕ} {at i r : ℕ} (gs hs : List (List ℕ)) → Put b at (written at gs) i l → Put l i (written i hs) r m → Put b at (written at (gs ++ hs)) r m
unfolding after
write-groups {b} {l} {m} {at} {i} {r} gs hs p q = rw (written-append at gs hs) (then p (go (leb (at + length x) (length b)) refl))
  where
    x : List ℕ
    x = written at gs

    go : (t : Bool) → leb (at + length x) (length b) ≡ t → Put l i (written (at + length x) hs) r m
    go true e = rw (← put_next p (leb-true _ _ e)) q
    go false e =
        let short : length b < at + length x = leb-false _ _ e in
        put-over (written (at + length x) hs) (omega (arith, p.next, length-put p)) q

-- ---- the whole report
pub write-report : {b l m : List ℕ} {i r : ℕ} (gs : List (List ℕ)) → Wholes gs → Put b 0 (written 0 gs) i l → Put l i (61 ∷ []) r m → Put b 0 (join gs) r m
unfolding join
write-report gs w p q = rw (parted-written gs w) (then p q)

-- no group
pub write-none : (b : List ℕ) (at : ℕ) → Put b at (written at []) at b
unfolding written
write-none b at = put-none b at

-- ---- the report made first in an array of its own: it ends where the canonical text does, and is that text up to there
module _ {n end : ℕ} {e : List ℕ} (gs : List (List ℕ)) (w : Wholes gs) (short : length (join gs) ≤ n) (p : Put (replicate n 0) 0 (written 0 gs ++ (61 ∷ [])) end e) where
  made : Put (replicate n 0) 0 (join gs) end e
  unfolding join
  made = rw (parted-written gs w) p

  fits : 0 + length (join gs) ≤ length (replicate {A = ℕ} n 0)
  fits = omega (arith, short, length-replicate {A = ℕ} n 0)

  pub made-end : end ≡ length (join gs)
  made-end = put_next made fits ∙ zero-add (length (join gs))

  pub made-within : end ≤ length e
  made-within = omega (arith, made-end, short, length-put p, length-replicate {A = ℕ} n 0)

  pub made-text : take end e ≡ join gs
  made-text = rw (made-end, ← zero-add (length (join gs))) (put-before made fits)

-- ---- the lent buffer without room, and with it
pub no_room : (x b : List ℕ) → length b < length x → (Err refusal.Room ≡ answer_by (Ok tt) x (length b)) × (b ≡ buffer_by (Ok tt) x b)
no_room x b h = (rw (lt-leb (length x) (length b) h), rw (lt-leb (length x) (length b) h))

pub with-room : {x b e : List ℕ} {n : ℕ} → length x ≤ length b → Put b 0 x n e
    → (Ok n ≡ answer_by (Ok tt) x (length b)) × (e ≡ buffer_by (Ok tt) x b)
with-room {x} {b} h p =
    let l = le-leb (length x) (length b) h in
    (rw l (ap Ok (put_next p (omega arith) ∙ zero-add (length x))), rw l p.text)
