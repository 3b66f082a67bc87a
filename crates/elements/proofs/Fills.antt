-- A place that reads several groups, one after the other, into a part of the record reads the part.
-- Assumes nothing.
use Rattle.std.specs.Prelude.{Err, Ok, Result}
use Rattle.text.specs.declared.kinds.Refusal.{Refusal}
use Prim.Native.Nat.{ℕ, ◌+◌}
use mathlib.Core.Path.{◌≡◌, refl, ◌∙◌}
use mathlib.Core.List.{List, [], ◌∷◌}
use Rattle.places.specs.Engine.{Group, Place}
use Rattle.places.proofs.ReadBack.{chain, fill}
use Rattle.elements.specs.Parts.{then}

-- what is read is changed, and then goes on
then-changed : {A B C : Type 0} (x : Result B Refusal) (f : B → A) (k : A → Result C Refusal) → then x (λ b. k (f b)) ≡ then (then x (λ b. Ok (f b))) k
then-changed (Ok b) f k = refl
then-changed (Err n) f k = refl

-- A part of the record is read group by group, each into what stands of it: `add` reads one group where k stand, `each` several. A place that
-- reads its groups so into a record, of which it changes nothing else, reads the part.
module _ {R A : Type 0} (p : Place R) (put : A → R → R) (acc : R) (add : ℕ → Group → A → Result A Refusal) (each : ℕ → List Group → A → Result A Refusal)
    (reads : (k : ℕ) (g : Group) (a : A) → p.read k g (put a acc) ≡ then (add k g a) (λ b. Ok (put b acc)))
    (none : (k : ℕ) (a : A) → each k [] a ≡ Ok a)
    (more : (k : ℕ) (g : Group) (gs : List Group) (a : A) → each k (g ∷ gs) a ≡ then (add k g a) (each (k + 1) gs)) where
  filled-by : (gs : List Group) (k : ℕ) (a : A) → fill p k gs (put a acc) ≡ then (each k gs a) (λ b. Ok (put b acc))
  filled-by [] k a = rw (none k a)
  filled-by (g ∷ gs) k a = rw (reads k g a, more k g gs a) (go (λ b. filled-by gs (k + 1) b) (add k g a))
    where
      go : ((b : A) → fill p (k + 1) gs (put b acc) ≡ then (each (k + 1) gs b) (λ c. Ok (put c acc)))
          → (x : Result A Refusal) → chain (then x (λ b. Ok (put b acc))) (fill p (k + 1) gs) ≡ then (then x (each (k + 1) gs)) (λ b. Ok (put b acc))
      go rest (Ok b) = rest b
      go rest (Err n) = refl

  pub filled : (gs : List Group) (a b : A) → each 0 gs a ≡ Ok b → fill p 0 gs (put a acc) ≡ Ok (put b acc)
  filled gs a b e = filled-by gs 0 a ∙ rw e

-- the same where a group says one item, whatever stands already
module _ {R A X : Type 0} (p : Place R) (put : A → R → R) (acc : R) (read : Group → Result X Refusal) (with : ℕ → A → X → A) (each : ℕ → List Group → A → Result A Refusal)
    (reads : (k : ℕ) (g : Group) (a : A) → p.read k g (put a acc) ≡ then (read g) (λ x. Ok (put (with k a x) acc)))
    (none : (k : ℕ) (a : A) → each k [] a ≡ Ok a)
    (more : (k : ℕ) (g : Group) (gs : List Group) (a : A) → each k (g ∷ gs) a ≡ then (read g) (λ x. each (k + 1) gs (with k a x))) where
  pub filled-items : (gs : List Group) (a b : A) → each 0 gs a ≡ Ok b → fill p 0 gs (put a acc) ≡ Ok (put b acc)
  filled-items =
      filled p put acc (λ k g a. then (read g) (λ x. Ok (with k a x))) each
      (λ k g a. reads k g a ∙ then-changed (read g) (with k a) (λ b. Ok (put b acc)))
      none
      (λ k g gs a. more k g gs a ∙ then-changed (read g) (with k a) (each (k + 1) gs))
