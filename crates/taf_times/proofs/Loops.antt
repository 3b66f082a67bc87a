-- The loop over the changes that count: each by f, those before i being done.
-- Assumes nothing.
use Prim.Native.Nat.{ℕ, suc, ◌+◌, ◌≤◌, ◌<◌, min}
use native.Mathlib.Numerals.{add-one}
use native.Mathlib.Omega.{arith}
use mathlib.Core.Path.{◌≡◌, refl, ◌∙◌}
use lib.Dec.{leb}
use borrow.Author.Tests.{leb-true, leb-false}
use mathlib.Core.Bool.{Bool, true, false}
use mathlib.Core.List.{List, [], ◌∷◌, ◌++◌, map, append_assoc, map-append}
use lib.ListN.{length, get_or, take, drop, set, length-map, drop_of_length-le}
use lib.Seq.{drop-cons, take-suc, take_all, set_at, length-take-le}

module _ {A : Type 0} (f : A → A) (xs ys : List A) (i : ℕ) (done : ys ≡ map f (take i xs) ++ drop i xs) where
  pub done_next : (d y : A) → i < length xs → y ≡ f (get_or xs i d) → set ys i y ≡ map f (take (i + 1) xs) ++ drop (i + 1) xs
  done_next d y h e =
      let p = map f (take i xs) in
      let m : length p ≡ i = length-map (take i xs) f ∙ length-take-le i xs (omega arith) in
      rw (done, e, add-one, take-suc xs i d h, map-append f (take i xs) (get_or xs i d ∷ []), append_assoc, drop-cons xs i d h) (set_at p (get_or xs i d) (drop (suc i) xs) (f (get_or xs i d)) i m)

  -- at the last that counts, or past the last element
  pub done_end : (n : ℕ) → i ≡ min n (length xs) → ys ≡ map f (take n xs) ++ drop n xs
  done_end n e = by_min (leb n (length xs)) refl
    where
      by_min : (b : Bool) → leb n (length xs) ≡ b → ys ≡ map f (take n xs) ++ drop n xs
      by_min true t = let here : i ≡ n = omega (arith, leb-true n (length xs) t) in rw here at done
      by_min false t =
          let past : length xs ≤ i = omega (arith, leb-false n (length xs) t) in
          let m : length xs ≤ n = omega (arith, leb-false n (length xs) t) in
          done ∙ rw (take_all i xs past, take_all n xs m, drop_of_length-le xs {i = i} past, drop_of_length-le xs {i = n} m)
