-- What a reading gives: something holds of the value, where there is one. A reading is put together of fields that have to be numbers, of figures that have
-- to be used, of tests and of agreements, and what is known of its value is put together in the same way.
-- Assumes nothing.
use Rattle.std.specs.Prelude.{Err, None, Ok, Option, Result, Some}
use Prim.Native.Nat.{ℕ}
use mathlib.Core.Path.{◌≡◌, refl}
use mathlib.Core.Bool.{Bool, true, false, cond}
use Rattle.figures.specs.declared.kinds.Field.{Field}
use Rattle.figures.specs.declared.kinds.Field.TheVariants as field
use Rattle.text.specs.declared.kinds.Refusal.{Refusal}
use Rattle.places.specs.Engine.{then}
use Rattle.elements.specs.Parts.{figured, may_miss, used, provided, agreeing}

module _ {A : Type 0} where
  pub data Gives (P : A → Type 0) : Result A Refusal → Type 0 where
    good : {a : A} → P a → Gives P (Ok a)
    bad : {f : Refusal} → Gives P (Err f)

  pub gives_more : {P Q : A → Type 0} {x : Result A Refusal} → Gives P x → ((a : A) → P a → Q a) → Gives Q x
  gives_more (good {a} p) f = good (f a p)
  gives_more bad f = bad

  -- by a test; where it fails nothing is read
  pub gives-cond : {P : A → Type 0} (b : Bool) {x y : Result A Refusal} → (b ≡ true → Gives P x) → (b ≡ false → Gives P y) → Gives P (cond b x y)
  gives-cond true p q = p refl
  gives-cond false p q = q refl

  pub gives-provided : {P : A → Type 0} (b : Bool) {x : Result A Refusal} → (b ≡ true → Gives P x) → Gives P (provided b x)
  gives-provided true p = p refl
  gives-provided false p = bad

  pub gives-agreeing : {P : A → Type 0} (b : Bool) {x : Result A Refusal} → (b ≡ true → Gives P x) → Gives P (agreeing b x)
  gives-agreeing true p = p refl
  gives-agreeing false p = bad

  -- by a field that has to be a number, or may be missing, and by a figure that has to be used
  pub gives-figured : {P : A → Type 0} (f : Field) {k : ℕ → Result A Refusal} → ((n : ℕ) → f ≡ field.Number n → Gives P (k n)) → Gives P (figured f k)
  gives-figured (field.Number n) p = p n refl
  gives-figured field.Missing p = bad
  gives-figured field.Mixed p = bad
  gives-figured field.Other p = bad

  pub gives-may-miss : {P : A → Type 0} (f : Field) {x : Result A Refusal} {k : ℕ → Result A Refusal} → (f ≡ field.Missing → Gives P x) → ((n : ℕ) → f ≡ field.Number n → Gives P (k n)) → Gives P (may_miss f x k)
  gives-may-miss (field.Number n) q p = p n refl
  gives-may-miss field.Missing q p = q refl
  gives-may-miss field.Mixed q p = bad
  gives-may-miss field.Other q p = bad

  pub gives-used : {P : A → Type 0} (x : Option ℕ) {k : ℕ → Result A Refusal} → ((m : ℕ) → x ≡ Some m → Gives P (k m)) → Gives P (used x k)
  gives-used (Some m) p = p m refl
  gives-used None p = bad

-- what is read goes on
pub gives_then : {A B : Type 0} {P : A → Type 0} {Q : B → Type 0} {x : Result B Refusal} {k : B → Result A Refusal} → Gives Q x → ((b : B) → Q b → Gives P (k b)) → Gives P (then x k)
gives_then (good {a = b} q) p = p b q
gives_then bad p = bad
