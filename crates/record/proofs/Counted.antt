-- A list of which the first ones count, and past them all are blank: the changes of a TAF, those of a trend, the runways of a METAR.
-- Assumes nothing.
use Prim.Native.Nat.{ℕ, zero, suc, ◌≤◌, min}
use native.Mathlib.Omega.{arith}
use mathlib.Core.Path.{◌≡◌, refl, sym, ap, ◌∙◌}
use mathlib.Core.Bool.{Bool, true}
use mathlib.Core.List.{List, [], ◌∷◌, ◌++◌, map}
use mathlib.Core.Logic.{⊎_elim}
use lib.ListN.{length, take, drop, replicate, length-map}
use lib.Seq.{take_all, take_at, drop_at, length-take-le}
use Rattle.figures.specs.Figures.{every}
use Rattle.shapes.proofs.Patterns.{both}
use Rattle.scales.proofs.Laws.{reached}
use Rattle.record.specs.Arrays.{Each}

pub each_take : {A : Type 0} (P : A → Type 0) (n : ℕ) (xs : List A) → Each P xs → Each P (take n xs)
each_take P zero xs a = tt
each_take P (suc n) [] a = tt
each_take P (suc n) (x ∷ xs) a = (a.0, each_take P n xs a.1)

-- what is blank, and what that means
module _ {A : Type 0} (P : A → Type 0) (is_blank : A → Bool) (blank : A) (is : (x : A) → P x → is_blank x ≡ true → x ≡ blank) where
  pub blank-each : (xs : List A) → Each P xs → every is_blank xs ≡ true → xs ≡ replicate (length xs) blank
  blank-each [] a e = refl
  blank-each (x ∷ xs) a e =
      let t = both (is_blank x) (every is_blank xs) e in
      rw (is x a.0 t.0, ← blank-each xs a.1 t.1)

  -- where the count ends they are blank
  pub blank-past : (n : ℕ) (xs : List A) → Each P xs → every is_blank (drop n xs) ≡ true → drop n (replicate (length xs) blank) ≡ drop n xs
  blank-past zero xs a e = sym (blank-each xs a e)
  blank-past (suc n) [] a e = refl
  blank-past (suc n) (x ∷ xs) a e = blank-past n xs a.1 e

-- what leaves a blank one as it is changes none past the count
module _ {A : Type 0} (f : A → A) (blank : A) (still : f blank ≡ blank) where
  blanks-still : (n k : ℕ) → map f (drop n (replicate k blank)) ≡ drop n (replicate k blank)
  blanks-still zero zero = refl
  blanks-still zero (suc k) = rw (still, blanks-still zero k)
  blanks-still (suc n) zero = refl
  blanks-still (suc n) (suc k) = blanks-still n k

  map-parts : (n : ℕ) (xs : List A) → map f (take n xs) ++ map f (drop n xs) ≡ map f xs
  map-parts zero xs = refl
  map-parts (suc n) [] = refl
  map-parts (suc n) (x ∷ xs) = ap (λ (l : List A). f x ∷ l) (map-parts n xs)

  pub map-counted : (n k : ℕ) (xs : List A) → drop n (replicate k blank) ≡ drop n xs → map f (take n xs) ++ drop n xs ≡ map f xs
  map-counted n k xs past =
      ap (λ (l : List A). map f (take n xs) ++ l) (sym past ∙ sym (blanks-still n k) ∙ ap (map f) past) ∙ map-parts n xs

-- of so many slots a count over them takes all
pub take-most : {A : Type 0} (most : ℕ) (xs : List A) (n : ℕ) → length xs ≡ most → take (min n most) xs ≡ take n xs
take-most most xs n all =
    ⊎_elim
    (λ h. let m : min n most ≡ n = omega arith in rw m)
    (λ h. let m : min n most ≡ most = omega arith in rw m (take_all most xs (omega arith) ∙ sym (take_all n xs (omega arith))))
    (reached n most)

-- ---- a counted list

-- At most so many count, of each of them P holds, and past them all are blank.
pub record Listed {A : Type 0} (P : A → Type 0) (is_blank : A → Bool) (blank : A) (most n : ℕ) (xs : List A) : Type 0 where
  pub few : n ≤ most
  pub each : Each P (take n xs)
  pub many : length (take n xs) ≡ n
  pub past : every is_blank (drop n xs) ≡ true
  pub rest : drop n (replicate most blank) ≡ drop n xs

pub listed_of : {A : Type 0} {P Q : A → Type 0} {is_blank : A → Bool} {blank : A} {most n : ℕ} {xs : List A} → ((x : A) → Q x → is_blank x ≡ true → x ≡ blank)
    → length xs ≡ most → Each Q xs → n ≤ most → Each P (take n xs) → every is_blank (drop n xs) ≡ true → Listed P is_blank blank most n xs
listed_of {Q = Q} {is_blank} {blank} {n = n} {xs} is all arrays few each past =
    record {
      few = few;
      each = each;
      many = length-take-le n xs (omega (arith, all));
      past = past;
      rest = rw all at (blank-past Q is_blank blank is n xs arrays past);
    }

-- those that count, each by f, and the others after them
module _ {A : Type 0} (f : A → A) (n : ℕ) (xs : List A) (all : length (take n xs) ≡ n) where
  many : length (map f (take n xs)) ≡ n
  many = length-map (take n xs) f ∙ all

  pub taken : take n (map f (take n xs) ++ drop n xs) ≡ map f (take n xs)
  taken = take_at (map f (take n xs)) (drop n xs) n many

  pub dropped : drop n (map f (take n xs) ++ drop n xs) ≡ drop n xs
  dropped = drop_at (map f (take n xs)) (drop n xs) n many

-- ---- two lists, one against the other

pub data EachRead {A : Type 0} (R : A → A → Type 0) : List A → List A → Type 0 where
  none : EachRead R [] []
  more : {x y : A} {xs ys : List A} → R x y → EachRead R xs ys → EachRead R (x ∷ xs) (y ∷ ys)

pub each_read : {A : Type 0} {P : A → Type 0} (R : A → A → Type 0) (f : A → A) → ((x : A) → P x → R x (f x)) → (xs : List A) → Each P xs → EachRead R xs (map f xs)
each_read R f reads [] a = none
each_read R f reads (x ∷ xs) a = more (reads x a.0) (each_read R f reads xs a.1)
