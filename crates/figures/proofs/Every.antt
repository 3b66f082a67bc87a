-- A test of every element of a list, taken from a position on: what one more element, an element at fault and the end say of it. And a list that has
-- nothing but one value.
-- Assumes nothing.
use Prim.Native.Nat.{ℕ, ◌+◌, ◌≤◌, ◌<◌}
use native.Mathlib.Numerals.{add-one}
use mathlib.Core.Path.{◌≡◌, refl, ap}
use mathlib.Core.Bool.{Bool, true, false, ◌&&◌, and-eq-true_iff}
use mathlib.Core.List.{List, [], ◌∷◌}
use lib.ListN.{length, drop, get_or, replicate, drop_of_length-le}
use lib.Seq.{drop-cons}
use Rattle.figures.specs.Figures.{every}

module _ {A : Type 0} (P : A → Bool) (l : List A) (i : ℕ) where
  pub every-at : (d : A) → i < length l → every P (drop i l) ≡ (P (get_or l i d) && every P (drop (i + 1) l))
  every-at d h = rw (add-one, drop-cons l i d h)

  pub every-next : (d : A) → i < length l → P (get_or l i d) ≡ true → every P (drop i l) ≡ every P (drop (i + 1) l)
  every-next d h e = rw (every-at d h, e)

  pub every-stop : (d : A) → i < length l → P (get_or l i d) ≡ false → every P (drop i l) ≡ false
  every-stop d h e = rw (every-at d h, e)

  pub every-end : length l ≤ i → every P (drop i l) ≡ true
  every-end h = ap (every P) (drop_of_length-le l {i = i} h)

pub every-is : {A : Type 0} (P : A → Bool) (a : A) → ((x : A) → P x ≡ true → x ≡ a) → (l : List A) → every P l ≡ true → l ≡ replicate (length l) a
every-is P a only [] e = refl
every-is P a only (x ∷ l) e =
    let t = (and-eq-true_iff (P x) (every P l)).0 e in
    rw (only x t.0, ← every-is P a only l t.1)
