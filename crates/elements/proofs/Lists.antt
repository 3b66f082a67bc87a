-- Lists of which the first ones count, as the changes of a forecast or the states of runways: judged one by one, written one after the other, read back one
-- after the other, and what is read back of them.
-- Assumes nothing.
use Rattle.std.specs.Prelude.{⊤, Err, Ok, Result}
use Prim.Native.Nat.{ℕ, zero, suc, ◌+◌, ◌-◌, ◌*◌, ◌≤◌, ◌<◌}
use native.Mathlib.Numerals.{add-one}
use native.Mathlib.Nat.{mul-suc, mul-le-mul_left, add-zero, zero-add, suc-add}
use native.Mathlib.Omega.{arith}
use mathlib.Core.Path.{◌≡◌, refl, sym, ap, ◌∙◌}
use mathlib.Core.Bool.{Bool, true, ◌&&◌}
use mathlib.Core.List.{List, [], ◌∷◌, ◌++◌, map, append_assoc}
use lib.ListN.{length, get_or, take, drop, set, replicate, drop_of_length-le, length-append}
use lib.Seq.{drop-cons, get_or-take, length-take-le, set_at}
use lib.Dec.{leb}
use borrow.Author.Tests.{leb-true, le-leb}
use Rattle.figures.specs.Figures.{every}
use Rattle.text.specs.declared.kinds.Refusal.{Refusal}
use Rattle.text.specs.Judge.{judge, and_then}
use Rattle.text.proofs.Judging.{fine, and-then}
use Rattle.shapes.specs.Pattern.{Pattern, has_pattern}
use Rattle.shapes.proofs.Patterns.{both}
use Rattle.places.specs.Engine.{Group, Place}
use Rattle.places.proofs.ReadBack.{one-pattern, fill}
use Rattle.places.proofs.Sizes.{measured, sized-any, Sizes, sizes-none, sizes-cons, sizes-append, sizes-more}
use Rattle.record.specs.Arrays.{Each}
use Rattle.record.proofs.Counted.{Listed, each_take, listed_of, taken, dropped}

-- ---- judged one by one: the first n decide, those that are left after i as all of them

-- how one is judged, and each of a list
module _ {A : Type 0} (one : A → Result ⊤ Refusal) (each : List A → Result ⊤ Refusal) (none : each [] ≡ Ok tt) (more : (x : A) (xs : List A) → each (x ∷ xs) ≡ and_then (one x) (each xs)) where
  -- one slot more, a slot at fault, and the end
  module _ (xs : List A) (n : ℕ) (slots : n ≤ length xs) (i : ℕ) where
    abbrev counted : List A
    counted = take n xs

    many : length counted ≡ n
    many = length-take-le n xs slots

    split : (d : A) → i < n → each (drop i counted) ≡ and_then (one (get_or xs i d)) (each (drop (i + 1) counted))
    split d h =
        let here : i < length counted = omega (arith, many) in
        rw (add-one, drop-cons counted i d here, get_or-take n xs i d h) (more (get_or xs i d) (drop (suc i) counted))

    module _ (left : each counted ≡ each (drop i counted)) where
      pub each_next : (d : A) → i < n → one (get_or xs i d) ≡ Ok tt → each counted ≡ each (drop (i + 1) counted)
      each_next d h e = left ∙ rw e at (split d h)

      pub each-stop : (d : A) {f : Refusal} → i < n → one (get_or xs i d) ≡ Err f → Err f ≡ each counted
      each-stop d h e = sym (left ∙ rw e at (split d h))

      pub each-end : n ≤ i → Ok tt ≡ each counted
      each-end h = sym (left ∙ ap each (drop_of_length-le counted {i = i} (omega (arith, many))) ∙ none)

  -- what is known of one that is judged fine is known of each, beside what is known of it anyway
  each-fair : (P : A → Type 0) {F : A → Type 0} → ((x : A) → one x ≡ Ok tt → F x) → (xs : List A) → Each P xs → each xs ≡ Ok tt → Each (λ x. P x × F x) xs
  each-fair P fair [] a e = tt
  each-fair P fair (x ∷ xs) a e =
      let j = and-then (one x) (each xs) (sym (more x xs) ∙ e) in
      ((a.0, fair x j.0), each-fair P fair xs a.1 j.1)

  each-judged : {P : A → Type 0} (f : A → A) → ((x : A) → P x → one (f x) ≡ Ok tt) → (xs : List A) → Each P xs → each (map f xs) ≡ Ok tt
  each-judged f again [] a = none
  each-judged f again (x ∷ xs) a = rw (more (f x) (map f xs), again x a.0) (each-judged f again xs a.1)

  -- ---- a counted list that is judged, its count and the slots past it first

  module _ (is_blank : A → Bool) (most n : ℕ) (xs : List A) where
    abbrev within : List A → Bool
    within ys = leb n most && every is_blank (drop n ys)

    abbrev pub judge_listed : List A → Result ⊤ Refusal
    judge_listed ys = and_then (judge (within ys) true) (each (take n ys))

    -- WHAT A LIST HOLDS THAT IS JUDGED FINE: few enough, each judged fine, and blank past them.
    pub list-fair : {P F : A → Type 0} {blank : A} → ((x : A) → one x ≡ Ok tt → F x) → ((x : A) → P x → is_blank x ≡ true → x ≡ blank) → length xs ≡ most → Each P xs
        → judge_listed xs ≡ Ok tt → Listed (λ x. P x × F x) is_blank blank most n xs
    list-fair {P} fair is all arrays e =
        let j = and-then (judge (within xs) true) (each (take n xs)) e in
        let s = both (leb n most) (every is_blank (drop n xs)) (fine (within xs) true j.0).0 in
        listed_of is all arrays (leb-true n most s.0) (each-fair P fair (take n xs) (each_take P n xs arrays) j.1) s.1

    -- THE LIST THAT IS READ BACK IS JUDGED FINE.
    pub list-judged : {P : A → Type 0} {blank : A} (f : A → A) → ((x : A) → P x → one (f x) ≡ Ok tt) → Listed P is_blank blank most n xs
        → judge_listed (map f (take n xs) ++ drop n xs) ≡ Ok tt
    list-judged f again l =
        rw (taken f n xs l.many, dropped f n xs l.many, le-leb n most l.few, l.past) (each-judged f again (take n xs) l.each)

-- ---- written one after the other

-- a word that opens a change, of a pattern
pub one-sizes : (n : ℕ) (p : Pattern) (g : Group) → measured n (p ∷ []) ≡ true → has_pattern g p ≡ true → Sizes (n + 1) (g ∷ [])
one-sizes n p g m h = sizes-more (omega arith) (sizes-cons (sized-any n (p ∷ []) g m (one-pattern p g h)) sizes-none)

-- the groups of one, and of each of a list
module _ {A : Type 0} (one : A → List Group) (each : List A → List Group) (none : each [] ≡ []) (more : (x : A) (xs : List A) → each (x ∷ xs) ≡ one x ++ each xs) where
  each_again : {P : A → Type 0} (f : A → A) → ((x : A) → P x → one (f x) ≡ one x) → (xs : List A) → Each P xs → each (map f xs) ≡ each xs
  each_again f again [] a = rw none
  each_again f again (x ∷ xs) a = rw (more (f x) (map f xs), more x xs, again x a.0, each_again f again xs a.1)

  each-sizes : {P : A → Type 0} (size : ℕ) → ((x : A) → P x → Sizes size (one x)) → (xs : List A) → Each P xs → Sizes (size * length xs) (each xs)
  each-sizes size sized [] a = rw none (sizes-more (omega arith) sizes-none)
  each-sizes size sized (x ∷ xs) a =
      rw (more x xs)
      (sizes-more (omega (arith, mul-suc size (length xs))) (sizes-append (one x) (each xs) (sized x a.0) (each-sizes size sized xs a.1)))

  -- THE ROOM THAT WHAT COUNTS TAKES, AND THAT THOSE READ BACK ARE WRITTEN AS THEY WERE.
  module _ {P : A → Type 0} {is_blank : A → Bool} {blank : A} {most n : ℕ} {xs : List A} (l : Listed P is_blank blank most n xs) where
    pub list-sizes : (size : ℕ) → ((x : A) → P x → Sizes size (one x)) → Sizes (size * most) (each (take n xs))
    list-sizes size sized =
        let few : length (take n xs) ≤ most = omega (arith, l.many, l.few) in
        sizes-more (mul-le-mul_left size few) (each-sizes size sized (take n xs) l.each)

    pub list-again : (f : A → A) → ((x : A) → P x → one (f x) ≡ one x) → each (take n (map f (take n xs) ++ drop n xs)) ≡ each (take n xs)
    list-again f again = rw (taken f n xs l.many) (each_again f again (take n xs) l.each)

-- ---- read back one after the other

drop-blanks : {A : Type 0} (blank : A) (n k : ℕ) → drop n (replicate k blank) ≡ replicate (k - n) blank
drop-blanks blank zero k = let e : k - 0 ≡ k = omega arith in rw e
drop-blanks blank (suc n) zero = let e : 0 - suc n ≡ 0 = omega arith in rw e
drop-blanks blank (suc n) (suc k) = let e : suc k - suc n ≡ k - n = omega arith in rw e (drop-blanks blank n k)

-- A place reads what one shows into the next slot, as its class; `holding` is the record with these slots and this count.
module _ {R A : Type 0} (p : Place R) (holding : List A → ℕ → R) (show : A → Group) (class : A → A) (blank : A) (most : ℕ) (P : A → Type 0)
    (reads : (k : ℕ) (xs : List A) (x : A) → k < most → P x → p.read k (show x) (holding xs k) ≡ Ok (holding (set xs k (class x)) (k + 1))) where
  -- read where n are done and the rest is blank
  fill-each : (ws done : List A) (n rest : ℕ) → Each P ws → length done ≡ n → n + (length ws + rest) ≡ most
      → fill p n (map show ws) (holding (done ++ replicate (length ws + rest) blank) n)
      ≡ Ok (holding (done ++ (map class ws ++ replicate rest blank)) (n + length ws))
  fill-each [] done n rest f len sum = rw (add-zero n, zero-add rest)
  fill-each (w ∷ ws) done n rest f len sum =
      let x = class w in
      let next : length (done ++ (x ∷ [])) ≡ n + 1 = simp length-append (omega arith) in
      let count : n + 1 + length ws ≡ n + suc (length ws) = omega arith in
      rw (suc-add (length ws) rest, reads n (done ++ (blank ∷ replicate (length ws + rest) blank)) w (omega arith) f.0, set_at done blank (replicate (length ws + rest) blank) x n len)
      (rw count at (simp append_assoc at (fill-each ws (done ++ (x ∷ [])) (n + 1) rest f.1 next (omega arith))))

  -- WHAT IS SHOWN OF A LIST IS READ BACK, into blank slots: each that counts as its class, and blank past them.
  pub fill-listed : {is_blank : A → Bool} {n : ℕ} {xs : List A} → Listed P is_blank blank most n xs
      → fill p 0 (map show (take n xs)) (holding (replicate most blank) 0) ≡ Ok (holding (map class (take n xs) ++ drop n xs) n)
  fill-listed {n = n} {xs} l =
      let past : replicate (most - n) blank ≡ drop n xs = sym (drop-blanks blank n most) ∙ l.rest in
      let sum : n + (most - n) ≡ most = omega (arith, l.few) in
      rw (← past) (rw (l.many, sum, zero-add n) at (fill-each (take n xs) [] 0 (most - n) l.each refl (omega (arith, l.many, l.few))))
