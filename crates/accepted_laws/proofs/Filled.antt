-- A list of slots that is filled from the front, one reading after the other: so many are done, of each of which something holds, and the others are blank.
-- Assumes nothing.
use Rattle.std.specs.Prelude.{⊤, Ok, Result}
use Rattle.text.specs.declared.kinds.Refusal.{Refusal}
use Prim.Native.Nat.{ℕ, zero, suc, ◌+◌, ◌-◌, ◌≤◌, ◌<◌}
use native.Mathlib.Omega.{arith}
use mathlib.Core.Path.{◌≡◌, refl, sym, ap, ◌∙◌}
use mathlib.Core.Bool.{Bool, true, ◌&&◌}
use mathlib.Core.List.{List, [], ◌∷◌, ◌++◌, map, append_assoc, append-nil}
use lib.ListN.{length, take, drop, set, replicate, length-append, length-replicate}
use lib.Seq.{set_at, take_at, drop_at}
use lib.Dec.{leb}
use borrow.Author.Tests.{le-leb}
use Rattle.figures.specs.Figures.{every}
use Rattle.text.specs.Judge.{and_then}
use Rattle.text.proofs.Judging.{and-then}
use Rattle.record.specs.Arrays.{Each}

module _ {A : Type 0} where
  pub record Filled (P : A → Type 0) (blank : A) (most k : ℕ) (xs : List A) : Type 0 where
    pub done : List A
    pub are : xs ≡ done ++ replicate (most - k) blank
    pub each : Each P done
    pub many : length done ≡ k
    pub few : k ≤ most

  pub each_snoc : (P : A → Type 0) (xs : List A) (x : A) → Each P xs → P x → Each P (xs ++ (x ∷ []))
  each_snoc P [] x e p = (p, tt)
  each_snoc P (y ∷ xs) x e p = (e.0, each_snoc P xs x e.1 p)

  every-blank : (is_blank : A → Bool) (blank : A) → is_blank blank ≡ true → (n : ℕ) → every is_blank (replicate n blank) ≡ true
  every-blank is_blank blank b zero = refl
  every-blank is_blank blank b (suc n) = rw (b, every-blank is_blank blank b n)

  map_each : (f h : A → A) (P : A → Type 0) → ((x : A) → P x → f x ≡ h x) → (xs : List A) → Each P xs → map f xs ≡ map h xs
  map_each f h P e [] a = refl
  map_each f h P e (x ∷ xs) a = rw (e x a.0, map_each f h P e xs a.1)

  pub map_same : (P : A → Type 0) (f : A → A) → ((x : A) → P x → f x ≡ x) → (xs : List A) → Each P xs → map f xs ≡ xs
  map_same P f e [] a = refl
  map_same P f e (x ∷ xs) a = rw (e x a.0, map_same P f e xs a.1)

  map-append : (f : A → A) (xs ys : List A) → map f (xs ++ ys) ≡ map f xs ++ map f ys
  map-append f [] ys = refl
  map-append f (x ∷ xs) ys = rw (map-append f xs ys)

  map-blanks : (f : A → A) (blank : A) → f blank ≡ blank → (n : ℕ) → map f (replicate n blank) ≡ replicate n blank
  map-blanks f blank e zero = refl
  map-blanks f blank e (suc n) = rw (e, map-blanks f blank e n)

  each_append : (Q : A → Type 0) (xs ys : List A) → Each Q xs → Each Q ys → Each Q (xs ++ ys)
  each_append Q [] ys a b = b
  each_append Q (x ∷ xs) ys a b = (a.0, each_append Q xs ys a.1 b)

  each-blank : (Q : A → Type 0) (blank : A) → Q blank → (n : ℕ) → Each Q (replicate n blank)
  each-blank Q blank q zero = tt
  each-blank Q blank q (suc n) = (q, each-blank Q blank q n)

  each-so : {P Q : A → Type 0} → ((x : A) → P x → Q x) → (xs : List A) → Each P xs → Each Q xs
  each-so f [] a = tt
  each-so f (x ∷ xs) a = (f x a.0, each-so f xs a.1)

  -- none is done, and one more
  unfoldable pub filled_none : (P : A → Type 0) (blank : A) (most : ℕ) → Filled P blank most 0 (replicate most blank)
  filled_none P blank most =
      let all : most ≡ most - 0 = omega arith in
      record { done = []; are = ap (λ (n : ℕ). replicate n blank) all; each = tt; many = refl; few = omega arith }

  module _ {P : A → Type 0} {blank : A} {most k : ℕ} {xs : List A} (f : Filled P blank most k xs) where
    unfoldable pub filled_more : (x : A) → k < most → P x → Filled P blank most (k + 1) (set xs k x)
    filled_more x h p =
        let left : most - k ≡ suc (most - (k + 1)) = omega arith in
        let here : xs ≡ f.done ++ (blank ∷ replicate (most - (k + 1)) blank) = f.are ∙ ap (λ (n : ℕ). f.done ++ replicate n blank) left in
        record {
          done = f.done ++ (x ∷ []);
          are = ap (λ (l : List A). set l k x) here ∙ set_at f.done blank (replicate (most - (k + 1)) blank) x k f.many ∙ sym (append_assoc f.done (x ∷ []) (replicate (most - (k + 1)) blank));
          each = each_snoc P f.done x f.each p;
          many = length-append f.done (x ∷ []) ∙ rw f.many;
          few = omega arith;
        }

    pub filled-take : take k xs ≡ f.done
    filled-take = ap (take k) f.are ∙ take_at f.done (replicate (most - k) blank) k f.many

    pub filled-drop : drop k xs ≡ replicate (most - k) blank
    filled-drop = ap (drop k) f.are ∙ drop_at f.done (replicate (most - k) blank) k f.many

    pub filled-length : length xs ≡ most
    filled-length = ap length f.are ∙ length-append f.done (replicate (most - k) blank) ∙ (omega (arith, f.many, f.few, length-replicate (most - k) blank))

    pub filled-all : (Q : A → Type 0) → ((x : A) → P x → Q x) → Q blank → Each Q xs
    filled-all Q q b = rw f.are (each_append Q f.done (replicate (most - k) blank) (each-so q f.done f.each) (each-blank Q blank b (most - k)))

    -- those that count are judged one by one, and past them all are blank
    pub filled-slots : (is_blank : A → Bool) → is_blank blank ≡ true → (leb k most && every is_blank (drop k xs)) ≡ true
    filled-slots is_blank b = rw (filled-drop, le-leb k most f.few) (every-blank is_blank blank b (most - k))

    pub filled-fine : (one : A → Result ⊤ Refusal) (each : List A → Result ⊤ Refusal) → each [] ≡ Ok tt → ((x : A) (ys : List A) → each (x ∷ ys) ≡ and_then (one x) (each ys))
        → ((x : A) → P x → one x ≡ Ok tt) → each (take k xs) ≡ Ok tt
    filled-fine one each none more fine = rw filled-take (go f.done f.each)
      where
        go : (ys : List A) → Each P ys → each ys ≡ Ok tt
        go [] a = none
        go (y ∷ ys) a = more y ys ∙ rw (fine y a.0) (go ys a.1)

    -- what is read back, item by item
    pub filled-own : (g : A → A) → ((x : A) → P x → g x ≡ x) → g blank ≡ blank → map g xs ≡ xs
    filled-own g own b =
        ap (map g) f.are ∙ map-append g f.done (replicate (most - k) blank) ∙ rw (map_same P g own f.done f.each, map-blanks g blank b (most - k)) (sym f.are)

    pub filled-read : (g h : A → A) → ((x : A) → P x → g x ≡ h x) → h blank ≡ blank → map g (take k xs) ++ drop k xs ≡ map h xs
    filled-read g h same b =
        rw (filled-take, filled-drop) (ap (λ (l : List A). l ++ replicate (most - k) blank) (map_each g h P same f.done f.each))
        ∙ sym (ap (map h) f.are ∙ map-append h f.done (replicate (most - k) blank) ∙ ap (λ (l : List A). map h f.done ++ l) (map-blanks h blank b (most - k)))

-- Items that are judged one after the other, each against those before it, which are kept as `kept` says: one more is judged after them.
module _ {A : Type 0} (one : List A → A → Result ⊤ Refusal) (kept : A → A) (each : List A → List A → Result ⊤ Refusal) (none : (before : List A) → each before [] ≡ Ok tt)
    (more : (before : List A) (x : A) (xs : List A) → each before (x ∷ xs) ≡ and_then (one before x) (each (before ++ (kept x ∷ [])) xs)) where
  pub judged-snoc : (before xs : List A) (x : A) → each before xs ≡ Ok tt → one (before ++ map kept xs) x ≡ Ok tt → each before (xs ++ (x ∷ [])) ≡ Ok tt
  judged-snoc before [] x e fine =
      let all : before ++ [] ≡ before = append-nil before in
      let here : one before x ≡ Ok tt = rw all at fine in
      more before x [] ∙ rw here (none (before ++ (kept x ∷ [])))
  judged-snoc before (y ∷ xs) x e fine =
      let t = and-then (one before y) (each (before ++ (kept y ∷ [])) xs) (sym (more before y xs) ∙ e) in
      let later = judged-snoc (before ++ (kept y ∷ [])) xs x t.1 (rw (append_assoc before (kept y ∷ []) (map kept xs)) fine) in
      more before y (xs ++ (x ∷ [])) ∙ rw t.0 later
