-- The groups of a text: how they unroll, and what the next group says of them.
-- Assumes nothing.
use mathlib.Core.Path.{◌≡◌, refl, sym, ap, ◌∙◌, subst}
use mathlib.Core.Bool.{Bool, true, false, false≢true}
use mathlib.Core.List.{List, [], ◌∷◌}
use Prim.Native.Nat.{ℕ, zero, suc, ◌+◌, ◌-◌, ◌≤◌, ◌<◌}
use native.Mathlib.Nat.{add-zero, add-suc, suc-add, add-sub_cancel_left, sub_self, sub-zero}
use native.Mathlib.Omega.{arith}
use lib.ListN.{length, get_or, take, drop, drop_of_length-le, length-drop}
use lib.Seq.{drop-cons, drop-drop, drop-nil, get_or-drop, length-take-le, take-length}
use lib.Dec.{leb}
use borrow.Author.Tests.{le-leb, lt-leb, leb-true, leb-false}
use Rattle.text.specs.declared.kinds.Cut.{Cut}
use Rattle.text.specs.declared.kinds.Cut.TheVariants.{Group, End}
use Rattle.text.specs.Bytes.{parting, inner, lead}
use Rattle.text.specs.Groups.{Piece, groups_in, groups_from, cut_at, past_parting, next_of, part_of}
use Rattle.text.proofs.Leads.{lead-cons-yes, lead-cons-no, lead-yes, lead-end, lead-le, stops}

-- ---- a part of a text
pub part-is : (t : List ℕ) (s e : ℕ) → s ≤ e → e ≤ length t → part_of t s e ≡ take (e - s) (drop s t)
unfolding part_of
part-is t s e h k = simp (le-leb s e h, le-leb e (length t) k)

pub part_length : (t : List ℕ) (s e : ℕ) → s ≤ e → e ≤ length t → length (part_of t s e) ≡ e - s
part_length t s e h k = ap length (part-is t s e h k) ∙ length-take-le (e - s) (drop s t) (omega (arith, length-drop s t))

-- the part from the first byte to the last is the whole
pub whole_part : (t : List ℕ) (n : ℕ) → n ≡ length t → part_of t 0 n ≡ t
whole_part t n e = part-is t 0 n (omega arith) (omega arith) ∙ rw (sub-zero, e) (take-length t)

-- no part where it would end past the text
part-over : (t : List ℕ) (s e : ℕ) → s ≤ e → length t < e → part_of t s e ≡ []
unfolding part_of
part-over t s e h k = simp (le-leb s e h, lt-leb e (length t) k)

-- a part from a position up to itself is empty
pub part-nothing : (t : List ℕ) (at : ℕ) → part_of t at at ≡ []
part-nothing t at = go (leb at (length t)) refl
  where
    go : (b : Bool) → leb at (length t) ≡ b → part_of t at at ≡ []
    go true e = part-is t at at (omega arith) (leb-true _ _ e) ∙ ap (λ (k : ℕ). take k (drop at t)) (sub_self at)
    go false e = part-over t at at (omega arith) (leb-false _ _ e)

-- ---- the next group: its four cases, as the code comes to them
cut-end : (t : List ℕ) (s : ℕ) → length t ≤ s → cut_at s (drop s t) ≡ End s
unfolding cut_at
cut-end t s h = ap (cut_at s) (drop_of_length-le t h)

cut-stop : (t : List ℕ) (s : ℕ) → s < length t → inner (get_or t s 0) ≡ false → cut_at s (drop s t) ≡ End s
unfolding cut_at
cut-stop t s h e = ap (cut_at s) (drop-cons t s 0 h) ∙ rw (e, cut_at)

cut-group : (t : List ℕ) (s : ℕ) → s < length t → inner (get_or t s 0) ≡ true → cut_at s (drop s t) ≡ Group s (s + lead inner (drop s t))
unfolding cut_at
cut-group t s h e = rw (drop-cons t s 0 h, e, cut_at)

pub past_end : (t : List ℕ) (at : ℕ) → length t ≤ at → past_parting t at ≡ length t
unfolding past_parting
past_end t at h = rw (le-leb (length t) at h, past_parting)

pub past-within : (t : List ℕ) (at : ℕ) → at ≤ length t → past_parting t at ≡ at + lead parting (drop at t)
unfolding past_parting
past-within t at h = go (leb (length t) at) refl
  where
    go : (b : Bool) → leb (length t) at ≡ b → past_parting t at ≡ at + lead parting (drop at t)
    go true e = let over : length t ≤ at = leb-true _ _ e in past_end t at over ∙ omega (arith, lead-end parting t at over)
    go false e = rw (e, past_parting)

pub next_past : (t : List ℕ) (at : ℕ) → length t ≤ at → next_of t at ≡ End (length t)
unfolding next_of
next_past t at h = rw (past_end t at h) (cut-end t (length t) (omega arith))

module _ (t : List ℕ) (at s : ℕ) (before : at < length t) (here : s ≡ at + lead parting (drop at t)) where
  past_is : past_parting t at ≡ s
  past_is = past-within t at (omega arith) ∙ sym here

  pub next-end : length t ≤ s → next_of t at ≡ End s
  unfolding next_of
  next-end h = rw past_is (cut-end t s h)

  pub next-stop : s < length t → inner (get_or t s 0) ≡ false → next_of t at ≡ End s
  unfolding next_of
  next-stop h e = rw past_is (cut-stop t s h e)

  pub next-group : s < length t → inner (get_or t s 0) ≡ true → next_of t at ≡ Group s (s + lead inner (drop s t))
  unfolding next_of
  next-group h e = rw past_is (cut-group t s h e)

-- ---- how `groups_in` unrolls
at-parting : (p x : ℕ) (xs : List ℕ) → parting x ≡ true → groups_in p 0 (x ∷ xs) ≡ groups_in (suc p) 0 xs
unfolding groups_in
at-parting p x xs e = rw (e, groups_in)

pub inner-not-parting : (x : ℕ) → inner x ≡ true → parting x ≡ false
inner-not-parting x e = go (parting x) refl
  where
    go : (b : Bool) → parting x ≡ b → parting x ≡ false
    go true h = absurd (false≢true (rw h at e))
    go false h = h

at-stop : (p x : ℕ) (xs : List ℕ) → parting x ≡ false → inner x ≡ false → groups_in p 0 (x ∷ xs) ≡ []
unfolding groups_in
at-stop p x xs b e = rw (b, groups_in) (rw e)

-- the bytes that are passed over
skipped : (p s : ℕ) (l : List ℕ) → groups_in p s l ≡ groups_in (p + s) 0 (drop s l)
unfolding groups_in
skipped p s [] = ap (groups_in (p + s) 0) (sym (drop-nil s))
skipped p zero (x ∷ xs) = ap (λ (k : ℕ). groups_in k 0 (x ∷ xs)) (sym (add-zero p))
skipped p (suc s) (x ∷ xs) = skipped (suc p) s xs ∙ ap (λ (k : ℕ). groups_in k 0 (drop s xs)) (simp (suc-add, add-suc))

-- a group at the front: it, and the groups after it
pub at-group : (p x : ℕ) (xs : List ℕ) → inner x ≡ true
    → groups_in p 0 (x ∷ xs) ≡ record { start = p; bytes = take (lead inner (x ∷ xs)) (x ∷ xs) } ∷ groups_in (p + lead inner (x ∷ xs)) 0 (drop (lead inner (x ∷ xs)) (x ∷ xs))
unfolding groups_in
at-group p x xs e =
    let rest : groups_in (suc p) (lead inner xs) xs ≡ groups_in (p + lead inner (x ∷ xs)) 0 (drop (lead inner (x ∷ xs)) (x ∷ xs)) =
    skipped (suc p) (lead inner xs) xs
    ∙ rw (lead-cons-yes inner x xs e) (ap (λ (k : ℕ). groups_in k 0 (drop (lead inner xs) xs)) (simp (suc-add, add-suc))) in
    rw (inner-not-parting x e, groups_in) (rw e (ap (λ (g : List Piece). record { start = p; bytes = take (lead inner (x ∷ xs)) (x ∷ xs) } ∷ g) rest))

-- parting bytes at the front
past-parting : (p : ℕ) (l : List ℕ) → groups_in p 0 l ≡ groups_in (p + lead parting l) 0 (drop (lead parting l) l)
unfolding groups_in lead
past-parting p [] = refl
past-parting p (x ∷ xs) = go (parting x) refl (past-parting (suc p) xs)
  where
    go : (b : Bool) → parting x ≡ b → groups_in (suc p) 0 xs ≡ groups_in (suc p + lead parting xs) 0 (drop (lead parting xs) xs)
        → groups_in p 0 (x ∷ xs) ≡ groups_in (p + lead parting (x ∷ xs)) 0 (drop (lead parting (x ∷ xs)) (x ∷ xs))
    go true e ih = rw (lead-cons-yes parting x xs e) (at-parting p x xs e ∙ ih ∙ ap (λ (k : ℕ). groups_in k 0 (drop (lead parting xs) xs)) (simp (suc-add, add-suc)))
    go false e ih = rw (lead-cons-no parting x xs e, add-zero)

at_front : (p : ℕ) (l : List ℕ) (x : ℕ) (xs : List ℕ) → l ≡ x ∷ xs → inner x ≡ true
    → groups_in p 0 l ≡ record { start = p; bytes = take (lead inner l) l } ∷ groups_in (p + lead inner l) 0 (drop (lead inner l) l)
at_front p l x xs e h = rw e (at-group p x xs h)

-- ---- the groups of a text from a position on
pub from_end : (t : List ℕ) (at : ℕ) → length t ≤ at → groups_from t at ≡ []
unfolding groups_from groups_in
from_end t at h = ap (groups_in at 0) (drop_of_length-le t h)

pub from-parting : (t : List ℕ) (at s : ℕ) → s ≡ at + lead parting (drop at t) → groups_from t at ≡ groups_from t s
unfolding groups_from
from-parting t at s e = past-parting at (drop at t) ∙ rw (drop-drop, ← e)

pub from-stop : (t : List ℕ) (s : ℕ) → s < length t → parting (get_or t s 0) ≡ false → inner (get_or t s 0) ≡ false → groups_from t s ≡ []
unfolding groups_from
from-stop t s h b e = ap (groups_in s 0) (drop-cons t s 0 h) ∙ at-stop _ _ _ b e

pub from-group : (t : List ℕ) (s : ℕ) → s < length t → inner (get_or t s 0) ≡ true
    → groups_from t s ≡ record { start = s; bytes = take (lead inner (drop s t)) (drop s t) } ∷ groups_from t (s + lead inner (drop s t))
unfolding groups_from
from-group t s h e = at_front s (drop s t) _ _ (drop-cons t s 0 h) e ∙ rw drop-drop

-- ---- what the next group says of the groups: the two unrolling equations
-- a group from s up to e is the next at or after `at`; `part_of t s e` is what `part` answers for it
pub record Follows (t : List ℕ) (at s e : ℕ) : Type 0 where
  pub after : at ≤ s
  pub some : s < e
  pub within : e ≤ length t
  pub groups : groups_from t at ≡ record { start = s; bytes = part_of t s e } ∷ groups_from t e

abbrev pub NextLaw : List ℕ → ℕ → Cut → Type 0
NextLaw t at (Group s e) = Follows t at s e
NextLaw t at (End e) = groups_from t at ≡ []

module _ (t : List ℕ) (at : ℕ) (before : at < length t) where
  here : ℕ
  here = at + lead parting (drop at t)

  there : ℕ
  there = here + lead inner (drop here t)

  byte-stops : here < length t → parting (get_or t here 0) ≡ false
  unfolding here
  byte-stops h = rw (← get_or-drop at t (lead parting (drop at t)) 0) (stops parting (drop at t) (omega (arith, length-drop at t)))

  there-within : here < length t → there ≤ length t
  unfolding there
  there-within h = omega (arith, lead-le inner (drop here t), length-drop here t)

  bytes-here : here < length t → part_of t here there ≡ take (lead inner (drop here t)) (drop here t)
  unfolding there
  bytes-here h = part-is t here there (omega arith) (there-within h) ∙ rw add-sub_cancel_left

  at_here : (b : Bool) → inner (get_or t here 0) ≡ b → here < length t → NextLaw t at (next_of t at)
  unfolding here there
  at_here true e h =
      rw (next-group t at here before refl h e)
      (record {
        after = omega arith;
        some = omega (arith, lead-yes inner t here h e);
        within = there-within h;
        groups = rw (bytes-here h) (from-parting t at here refl ∙ from-group t here h e);
      })
  at_here false e h = rw (next-stop t at here before refl h e) (from-parting t at here refl ∙ from-stop t here h (byte-stops h) e)

  in-text : (b : Bool) → leb (length t) here ≡ b → NextLaw t at (next_of t at)
  unfolding here
  in-text true e = rw (next-end t at here before refl (leb-true _ _ e)) (from-parting t at here refl ∙ from_end t here (leb-true _ _ e))
  in-text false e = at_here _ refl (leb-false _ _ e)

pub next-law : (t : List ℕ) (at : ℕ) → NextLaw t at (next_of t at)
next-law t at = go (leb (length t) at) refl
  where
    go : (b : Bool) → leb (length t) at ≡ b → NextLaw t at (next_of t at)
    go true e = rw (next_past t at (leb-true _ _ e)) (from_end t at (leb-true _ _ e))
    go false e = in-text t at (leb-false _ _ e) _ refl

pub when-group : (t : List ℕ) (at s e : ℕ) → Group s e ≡ next_of t at → Follows t at s e
when-group t at s e h = subst (NextLaw t at) (sym h) (next-law t at)

pub when-end : (t : List ℕ) (at e : ℕ) → End e ≡ next_of t at → groups_from t at ≡ []
when-end t at e h = subst (NextLaw t at) (sym h) (next-law t at)
