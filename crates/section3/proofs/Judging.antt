-- Layers one after the other, as the code comes to them: the judging of each, where the layers before are those that were judged.
-- Assumes nothing.
use Rattle.std.specs.Prelude.{⊤, Err, Ok, Result}
use Prim.Native.Nat.{ℕ, ◌+◌, ◌≤◌, ◌<◌}
use native.Mathlib.Numerals.{add-one}
use native.Mathlib.Omega.{arith}
use mathlib.Core.Path.{◌≡◌, sym, ap, ◌∙◌}
use mathlib.Core.List.{List, [], ◌∷◌, ◌++◌}
use lib.ListN.{length, get_or, take, drop, drop_of_length-le}
use lib.Seq.{drop-cons, get_or-take, length-take-le, take-suc}
use Rattle.text.specs.declared.kinds.Refusal.{Refusal}
use Rattle.text.specs.Judge.{judge, and_then}
use Rattle.record.specs.declared.surface.CloudLayer.{CloudLayer}
use Rattle.synop_groups.specs.Judge.{layer_fits}
use Rattle.section3.specs.Row.{rises}
use Rattle.section3.specs.Write.{judge_each}

module _ (xs : List CloudLayer) (n : ℕ) (slots : n ≤ length xs) (i : ℕ) (left : judge_each [] (take n xs) ≡ judge_each (take i xs) (drop i (take n xs))) where
  many : length (take n xs) ≡ n
  many = length-take-le n xs slots

  -- the next one
  split : (d : CloudLayer) → i < n
      → judge_each [] (take n xs) ≡ and_then (judge (layer_fits (get_or xs i d)) (rises (take i xs) (get_or xs i d))) (judge_each (take (i + 1) xs) (drop (i + 1) (take n xs)))
  split d h =
      let here : i < length (take n xs) = omega (arith, many) in
      let cut : drop i (take n xs) ≡ get_or xs i d ∷ drop (i + 1) (take n xs) = rw (add-one, drop-cons (take n xs) i d here, get_or-take n xs i d h) in
      let one : take (i + 1) xs ≡ take i xs ++ (get_or xs i d ∷ []) = rw add-one (take-suc xs i d (omega (arith, slots))) in
      left ∙ rw (cut, one)

  module _ (d : CloudLayer) (h : i < n) {j : Result ⊤ Refusal} (is : j ≡ judge (layer_fits (get_or xs i d)) (rises (take i xs) (get_or xs i d))) where
    pub each_next : j ≡ Ok tt → judge_each [] (take n xs) ≡ judge_each (take (i + 1) xs) (drop (i + 1) (take n xs))
    each_next e = split d h ∙ rw (← is, e)

    pub each-stop : {f : Refusal} → j ≡ Err f → Err f ≡ judge_each [] (take n xs)
    each-stop e = sym (split d h ∙ rw (← is, e))

  pub each-end : n ≤ i → Ok tt ≡ judge_each [] (take n xs)
  each-end h = sym (left ∙ ap (judge_each (take i xs)) (drop_of_length-le (take n xs) {i = i} (omega (arith, many))))
