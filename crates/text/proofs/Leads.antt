-- How far a run of bytes reaches, and where the last byte that parts no groups ends: what the loops over a text go by.
-- Assumes nothing.
use mathlib.Core.Path.{◌≡◌, refl, sym, ap, ◌∙◌}
use mathlib.Core.Bool.{Bool, true, false, cond, ◌&&◌, and-false, and-eq-true_iff, false≢true}
use mathlib.Core.List.{List, [], ◌∷◌}
use Prim.Native.Nat.{ℕ, zero, suc, ◌+◌, ◌≤◌, ◌<◌}
use native.Mathlib.Numerals.{add-one}
use native.Mathlib.Omega.{arith}
use lib.ListN.{length, get_or, take, drop, drop_of_length-le}
use lib.Seq.{drop-cons}
use lib.Dec.{eqb, eqb-suc-zero}
use Rattle.std.proofs.Common.{Option, Some, None}
use Rattle.std.specs.Option.{MatchOption}
use Rattle.figures.specs.Figures.{every}
use Rattle.text.specs.Bytes.{parting, lead, last_end}

-- ---- any test of a byte
module _ (P : ℕ → Bool) where
  pub lead-cons-yes : (x : ℕ) (xs : List ℕ) → P x ≡ true → lead P (x ∷ xs) ≡ suc (lead P xs)
  unfolding lead
  lead-cons-yes x xs e = rw (e, lead)

  pub lead-cons-no : (x : ℕ) (xs : List ℕ) → P x ≡ false → lead P (x ∷ xs) ≡ 0
  unfolding lead
  lead-cons-no x xs e = rw (e, lead)

  -- at the end of a text none passes
  pub lead-end : (t : List ℕ) (i : ℕ) → length t ≤ i → lead P (drop i t) ≡ 0
  unfolding lead
  lead-end t i h = ap (lead P) (drop_of_length-le t h)

  -- at a position whose byte does not pass, none
  pub lead-no : (t : List ℕ) (i : ℕ) → i < length t → P (get_or t i 0) ≡ false → lead P (drop i t) ≡ 0
  lead-no t i h e = ap (lead P) (drop-cons t i 0 h) ∙ lead-cons-no _ _ e

  -- at a position whose byte passes, one more than from the next on
  pub lead-yes : (t : List ℕ) (i : ℕ) → i < length t → P (get_or t i 0) ≡ true → lead P (drop i t) ≡ suc (lead P (drop (i + 1) t))
  lead-yes t i h e = ap (lead P) (drop-cons t i 0 h) ∙ lead-cons-yes _ _ e ∙ rw add-one

  pub lead-le : (l : List ℕ) → lead P l ≤ length l
  unfolding lead
  lead-le [] = omega arith
  lead-le (x ∷ xs) = go (P x) refl (lead-le xs)
    where
      go : (b : Bool) → P x ≡ b → lead P xs ≤ length xs → lead P (x ∷ xs) ≤ length (x ∷ xs)
      go true e h = rw (e, lead) (omega arith)
      go false e h = rw (e, lead) (omega arith)

  -- the byte after those that pass does not pass
  pub stops : (l : List ℕ) → lead P l < length l → P (get_or l (lead P l) 0) ≡ false
  unfolding lead
  stops [] h = absurd (omega arith)
  stops (x ∷ xs) h = go (P x) refl (stops xs)
    where
      go : (b : Bool) → P x ≡ b → (lead P xs < length xs → P (get_or xs (lead P xs) 0) ≡ false) → P (get_or (x ∷ xs) (lead P (x ∷ xs)) 0) ≡ false
      go true e ih = rw (lead-cons-yes x xs e) (ih (omega (arith, lead-cons-yes x xs e)))
      go false e ih = rw (lead-cons-no x xs e) e

  -- where every byte passes they reach to the end, and else not
  pub lead-all : (l : List ℕ) → every P l ≡ true → lead P l ≡ length l
  unfolding lead
  lead-all [] e = refl
  lead-all (x ∷ xs) e =
      let both = (and-eq-true_iff (P x) (every P xs)).0 e in
      lead-cons-yes x xs both.0 ∙ ap suc (lead-all xs both.1)

  pub lead-some : (l : List ℕ) → every P l ≡ false → lead P l < length l
  unfolding lead
  lead-some [] e = absurd (false≢true (sym e))
  lead-some (x ∷ xs) e = go (P x) refl e (lead-some xs)
    where
      go : (b : Bool) → P x ≡ b → (b && every P xs) ≡ false → (every P xs ≡ false → lead P xs < length xs) → lead P (x ∷ xs) < length (x ∷ xs)
      go true p e ih = rw (p, lead) (let h = ih e in omega arith)
      go false p e ih = rw (p, lead) (omega arith)

  -- where every byte before a position passes and the byte there does not, they reach to that position
  pub lead-before : (l : List ℕ) (n : ℕ) → n < length l → every P (take n l) ≡ true → P (get_or l n 0) ≡ false → lead P l ≡ n
  lead-before [] n h a e = absurd (omega arith)
  lead-before (x ∷ xs) zero h a e = lead-cons-no x xs e
  lead-before (x ∷ xs) (suc n) h a e =
      let both = (and-eq-true_iff (P x) (every P (take n xs))).0 a in
      lead-cons-yes x xs both.0 ∙ ap suc (lead-before xs n (omega arith) both.1 e)

-- ---- the end of the last byte that is no parting byte
last-nothing : (x : ℕ) (xs : List ℕ) → parting x ≡ true → last_end xs ≡ 0 → last_end (x ∷ xs) ≡ 0
unfolding last_end
last-nothing x xs p e = rw (p, last_end) (rw e)

-- it is within the list
pub last-le : (l : List ℕ) → last_end l ≤ length l
unfolding last_end
last-le [] = omega arith
last-le (x ∷ xs) = go (parting x && eqb (last_end xs) 0) (last-le xs)
  where
    go : (b : Bool) → last_end xs ≤ length xs → cond b 0 (suc (last_end xs)) ≤ suc (length xs)
    go true h = omega arith
    go false h = omega arith

-- where all bytes are parting bytes it is 0
last-nowhere : (l : List ℕ) → ((k : ℕ) → k < length l → parting (get_or l k 0) ≡ true) → last_end l ≡ 0
unfolding last_end
last-nowhere [] h = refl
last-nowhere (x ∷ l) h = last-nothing x l (h 0 (omega arith)) (last-nowhere l (λ k i. h (suc k) (omega arith)))

-- where the bytes after a byte that is none are, it is after that byte
last-after : (l : List ℕ) (i : ℕ) → i < length l → parting (get_or l i 0) ≡ false
    → ((k : ℕ) → i < k → k < length l → parting (get_or l k 0) ≡ true) → last_end l ≡ suc i
unfolding last_end
last-after [] i h e f = absurd (omega arith)
last-after (x ∷ l) zero h e f = rw (e, last-nowhere l (λ k i. f (suc k) (omega arith) (omega arith)))
last-after (x ∷ l) (suc i) h e f =
    rw (last-after l i (omega arith) e (λ k j n. f (suc k) (omega arith) (omega arith)), eqb-suc-zero, and-false)

-- what a search from the end answers
pub last-found : (l : List ℕ) (o : Option ℕ) (r : ℕ)
    → MatchOption o ((k : ℕ) → k < length l → parting (get_or l k 0) ≡ true)
    (λ i. (i < length l) × (parting (get_or l i 0) ≡ false) × ((k : ℕ) → i < k → k < length l → parting (get_or l k 0) ≡ true))
    → MatchOption o (r ≡ 0) (λ i. r ≡ i + 1) → r ≡ last_end l
last-found l None r h e = e ∙ sym (last-nowhere l h)
last-found l (Some i) r h e = e ∙ rw add-one (sym (last-after l i h.0 h.1 h.2))
