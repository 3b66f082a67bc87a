-- A record as the list of its fields, one for each place of its row, so that "a place touches its own field alone" is one law, and no two fields need be compared.
-- Assumes nothing.
use Rattle.std.specs.Prelude.{Err, Ok, Result}
use Rattle.text.specs.declared.kinds.Refusal.{Refusal}
use Prim.Native.Nat.{ℕ, zero, suc, ◌+◌, ◌<◌}
use native.Mathlib.Omega.{arith}
use mathlib.Core.Path.{◌≡◌, refl, sym, ap, subst, ◌∙◌}
use mathlib.Core.Bool.{Bool, true, false, ◌&&◌}
use mathlib.Core.List.{List, [], ◌∷◌}
use lib.Dec.{eqb}
use borrow.Author.Tests.{eqb-true, eqb-false, ne_eqb}
use Rattle.figures.proofs.Impossible.{impossible}
use Rattle.places.specs.Engine.{Group, then, Place, nowhere, place_at}
use Rattle.sources.proofs.Rows.{Item}

-- of one and then of the others
infixr 5 ◌&◌
abbrev pub ◌&◌ : {A B : Type 0} → A → B → A × B
a & b = (a, b)

-- the types of the fields
pub data Fields : Type 1 where
  end : Fields
  field : Type 0 → Fields → Fields

abbrev pub Tuple : Fields → Type 0
Tuple end = Unit {0}
Tuple (field A fs) = A × Tuple fs

-- the type of the i-th, the i-th, and the record with another there; past the last there is nothing
abbrev pub TypeAt : Fields → ℕ → Type 0
TypeAt end i = Unit {0}
TypeAt (field A fs) zero = A
TypeAt (field A fs) (suc i) = TypeAt fs i

abbrev pub look : (fs : Fields) (i : ℕ) → Tuple fs → TypeAt fs i
look end i t = tt
look (field A fs) zero (a, t) = a
look (field A fs) (suc i) (a, t) = look fs i t

abbrev pub put : (fs : Fields) (i : ℕ) → TypeAt fs i → Tuple fs → Tuple fs
put end i x t = t
put (field A fs) zero x (a, t) = (x, t)
put (field A fs) (suc i) x (a, t) = (a, put fs i x t)

pub look-put : (fs : Fields) (i j : ℕ) (x : TypeAt fs j) (t : Tuple fs) → eqb i j ≡ false → look fs i (put fs j x t) ≡ look fs i t
look-put end i j x t e = refl
look-put (field A fs) zero zero x t e = absurd (eqb-false 0 0 e refl)
look-put (field A fs) zero (suc j) x (a, t) e = refl
look-put (field A fs) (suc i) zero x (a, t) e = refl
look-put (field A fs) (suc i) (suc j) x (a, t) e = look-put fs i j x t (ne_eqb i j (λ q. eqb-false (suc i) (suc j) e (ap suc q)))

-- what was read is good
pub then-good : {A B : Type 0} (x : Result A Refusal) (f : A → B) (b : B) → then x (λ a. Ok (f a)) ≡ Ok b → (a : A) × (x ≡ Ok a) × (b ≡ f a)
then-good (Ok a) f b e = (a, refl, cc)
then-good (Err r) f b e = impossible (cc)

pub then-bind : {A B : Type 0} (x : Result A Refusal) (f : A → Result B Refusal) (b : B) → then x f ≡ Ok b → (a : A) × (x ≡ Ok a) × (f a ≡ Ok b)
then-bind (Ok a) f b e = (a, refl, e)
then-bind (Err r) f b e = impossible (cc)

-- what was read is the value that was set
pub by_value : {R A : Type 0} (x : Result A Refusal) (f : A → R) (get : R → A) (r : R) → ((v : A) → get (f v) ≡ v) → then x (λ v. Ok (f v)) ≡ Ok r → x ≡ Ok (get r)
by_value x f get r got e = let (v, is, same) = then-good x f r e in is ∙ ap Ok (sym (ap get same ∙ got v))

module _ {R : Type 0} (fs : Fields) (fields : R → Tuple fs) where
  -- only the j-th field may differ
  abbrev pub Only : ℕ → R → R → Type 0
  Only j a a' = (m : ℕ) → eqb m j ≡ false → look fs m (fields a') ≡ look fs m (fields a)

  pub wrote : {A : Type 0} (j : ℕ) (a a' : R) (x : Result A Refusal) (f : A → R) (h : A → TypeAt fs j) → ((v : A) → fields (f v) ≡ put fs j (h v) (fields a))
      → then x (λ v. Ok (f v)) ≡ Ok a' → Only j a a'
  wrote j a a' x f h is e m o =
      let (v, good, b) = then-good x f a' e in
      rw (b, is v) (look-put fs m j (h v) (fields a) o)

  pub only-put : (j : ℕ) (a a' : R) (x : TypeAt fs j) → fields a' ≡ put fs j x (fields a) → Only j a a'
  only-put j a a' x is m o = rw is (look-put fs m j x (fields a) o)

  module _ (row : List (Place R)) (only : (j n : ℕ) (g : Group) (a a' : R) → (place_at row j).read n g a ≡ Ok a' → Only j a a') where
    -- an item where several groups may stand
    pub listed-item : {A : Type 0} {missing : A} (i k : ℕ) (get : TypeAt fs i → A) (says : Group → A → Type 0) (fair : TypeAt fs i → Type 0)
        → ((g : Group) (a a' : R) → fair (look fs i (fields a)) → (place_at row i).read k g a ≡ Ok a' → says g (get (look fs i (fields a'))))
        → ((n : ℕ) (g : Group) (a a' : R) → n < (place_at row i).most → eqb k n ≡ false → fair (look fs i (fields a)) → (place_at row i).read n g a ≡ Ok a'
        → get (look fs i (fields a')) ≡ get (look fs i (fields a)))
        → ((n : ℕ) (g : Group) (a a' : R) → fair (look fs i (fields a)) → (place_at row i).read n g a ≡ Ok a' → fair (look fs i (fields a')))
        → Item row i k (λ r. get (look fs i (fields r))) says (λ r. fair (look fs i (fields r))) missing
    listed-item i k get says fair tells others stays =
        record { tells = tells; kept = λ j n g a a' few o before f e. kept j n g a a' few (eqb i j) refl o f e; stays = λ j n g a a' f e. still j n g a a' (eqb i j) refl f e }
      where
        kept : (j n : ℕ) (g : Group) (a a' : R) → n < (place_at row j).most → (b : Bool) → eqb i j ≡ b → (b && eqb k n) ≡ false → fair (look fs i (fields a))
            → (place_at row j).read n g a ≡ Ok a' → get (look fs i (fields a')) ≡ get (look fs i (fields a))
        kept j n g a a' few true is o f e = let same : j ≡ i = sym (eqb-true i j is) in others n g a a' (rw (← same) few) o f (rw (← same) e)
        kept j n g a a' few false is o f e = ap get (only j n g a a' e i is)

        still : (j n : ℕ) (g : Group) (a a' : R) (b : Bool) → eqb i j ≡ b → fair (look fs i (fields a)) → (place_at row j).read n g a ≡ Ok a' → fair (look fs i (fields a'))
        still j n g a a' true is f e = let same : j ≡ i = sym (eqb-true i j is) in stays n g a a' f (rw (← same) e)
        still j n g a a' false is f e = subst fair (sym (only j n g a a' e i is)) f

    -- one where one group may stand
    pub single-item : {A : Type 0} {missing : A} (i : ℕ) (get : TypeAt fs i → A) (says : Group → A → Type 0) → (place_at row i).most ≡ 1
        → ((g : Group) (a a' : R) → (place_at row i).read 0 g a ≡ Ok a' → says g (get (look fs i (fields a'))))
        → Item row i 0 (λ r. get (look fs i (fields r))) says (λ r. Unit {0}) missing
    single-item i get says one tells =
        listed-item i 0 get says (λ x. Unit {0}) (λ g a a' f e. tells g a a' e)
        (λ n g a a' few o f e. let less : n < 1 = rw one at few in absurd (eqb-false 0 n o (omega arith))) (λ n g a a' f e. tt)

-- ---- place by place

module _ {R : Type 0} (Of : ℕ → Place R → Type 0) where
  -- it is so of each place of a row, the first being the i-th
  abbrev pub Rows : ℕ → List (Place R) → Type 0
  Rows i [] = Unit {0}
  Rows i (p ∷ ps) = Of i p × Rows (suc i) ps

  index : ℕ → ℕ → ℕ
  index i zero = i
  index i (suc j) = index (suc i) j

  index-sum : (i j : ℕ) → index i j ≡ i + j
  unfolding index
  index-sum i zero = omega arith
  index-sum i (suc j) = index-sum (suc i) j ∙ omega arith

  at : (ps : List (Place R)) (i : ℕ) → Rows i ps → ((j : ℕ) → Of j nowhere) → (j : ℕ) → Of (index i j) (place_at ps j)
  unfolding index
  at [] i x none j = none (index i j)
  at (p ∷ ps) i (x, xs) none zero = x
  at (p ∷ ps) i (x, xs) none (suc j) = at ps (suc i) xs none j

  pub row_at : (ps : List (Place R)) → Rows 0 ps → ((j : ℕ) → Of j nowhere) → (j : ℕ) → Of j (place_at ps j)
  row_at ps xs none j = subst (λ (i : ℕ). Of i (place_at ps j)) (index-sum 0 j ∙ omega arith) (at ps 0 xs none j)
