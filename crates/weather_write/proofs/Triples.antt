-- Up to three weathers, in the words of the code: the weather at each place, where the count says that one stands there.
-- Assumes nothing.
use Rattle.std.specs.Prelude.{⊤, Err, Ok, Result}
use Rattle.text.specs.declared.kinds.Refusal.{Refusal}
use mathlib.Core.Path.{◌≡◌, refl, ap, ◌∙◌}
use mathlib.Core.Bool.{Bool, true, false, cond}
use mathlib.Core.List.{List, [], ◌∷◌, ◌++◌, map}
use Prim.Native.Nat.{ℕ, zero, suc, ◌≤◌}
use native.Mathlib.Omega.{arith}
use lib.ListN.{length, take, get_or}
use lib.Seq.{take-nil}
use lib.Dec.{ltb}
use borrow.Author.Tests.{lt-ltb}
use Rattle.text.specs.Judge.{and_then}
use Rattle.figures.specs.Quote.{bytes}
use Rattle.places.specs.Engine.{Group}
use Rattle.record.specs.declared.aerodrome.Weather.{Weather}
use Rattle.record.specs.Body.{blank_weather}
use Rattle.elements.specs.Weather.{judge_each, phenomena_text, show_weather, show_recent}
use Rattle.weather_write.specs.Three.{shown_as}

-- a list of three by its elements
three-of : {A : Type 0} (items : List A) (d : A) → length items ≡ 3 → get_or items 0 d ∷ get_or items 1 d ∷ get_or items 2 d ∷ [] ≡ items
three-of [] d e = absurd (omega arith)
three-of (x ∷ []) d e = absurd (omega arith)
three-of (x ∷ y ∷ []) d e = absurd (omega arith)
three-of (x ∷ y ∷ z ∷ []) d e = refl
three-of (x ∷ y ∷ z ∷ w ∷ items) d e = absurd (omega arith)

-- a count of three or more stands past each place
past : (i n : ℕ) → i ≤ 2 → ltb i (suc (suc (suc n))) ≡ true
past i n h = lt-ltb i (suc (suc (suc n))) (omega arith)

-- what stands before a count
judged-each : (test : Weather → Result ⊤ Refusal) (x y z : Weather) (n : ℕ)
    → and_then (cond (ltb 0 n) (test x) (Ok tt)) (and_then (cond (ltb 1 n) (test y) (Ok tt)) (cond (ltb 2 n) (test z) (Ok tt)))
    ≡ judge_each test (take n (x ∷ y ∷ z ∷ []))
judged-each test x y z zero = refl
judged-each test x y z (suc zero) = refl
judged-each test x y z (suc (suc zero)) = refl
judged-each test x y z (suc (suc (suc n))) = rw (past 0 n (omega arith), past 1 n (omega arith), past 2 n (omega arith), take-nil {A = Weather} n) (ap (λ (j : Result ⊤ Refusal). and_then (test x) (and_then (test y) j)) (last (test z)))
  where
    last : (j : Result ⊤ Refusal) → j ≡ and_then j (Ok tt)
    last (Ok tt) = refl
    last (Err f) = refl

shown-each : (show : Weather → Group) (x y z : Weather) (n : ℕ)
    → cond (ltb 0 n) (show x ∷ []) [] ++ cond (ltb 1 n) (show y ∷ []) [] ++ cond (ltb 2 n) (show z ∷ []) [] ≡ map show (take n (x ∷ y ∷ z ∷ []))
shown-each show x y z zero = refl
shown-each show x y z (suc zero) = refl
shown-each show x y z (suc (suc zero)) = refl
shown-each show x y z (suc (suc (suc n))) = rw (past 0 n (omega arith), past 1 n (omega arith), past 2 n (omega arith), take-nil {A = Weather} n)

module _ (items : List Weather) (e : length items ≡ 3) where
  pub each_judged : (test : Weather → Result ⊤ Refusal) (n : ℕ)
      → and_then (cond (ltb 0 n) (test (get_or items 0 blank_weather)) (Ok tt)) (and_then (cond (ltb 1 n) (test (get_or items 1 blank_weather)) (Ok tt)) (cond (ltb 2 n) (test (get_or items 2 blank_weather)) (Ok tt)))
      ≡ judge_each test (take n items)
  each_judged test n = judged-each test _ _ _ n ∙ ap (λ (l : List Weather). judge_each test (take n l)) (three-of items blank_weather e)

  pub each_shown : (show : Weather → Group) (n : ℕ)
      → cond (ltb 0 n) (show (get_or items 0 blank_weather) ∷ []) [] ++ cond (ltb 1 n) (show (get_or items 1 blank_weather) ∷ []) [] ++ cond (ltb 2 n) (show (get_or items 2 blank_weather) ∷ []) []
      ≡ map show (take n items)
  each_shown show n = shown-each show _ _ _ n ∙ ap (λ (l : List Weather). map show (take n l)) (three-of items blank_weather e)

-- a weather's group by its parts
pub shown-as : (recent : Bool) (w : Weather) → shown_as recent w ≡ cond recent (bytes "RE") [] ++ phenomena_text w.is
unfolding show_weather show_recent
shown-as true w = refl
shown-as false w = refl
