-- What is so of whatever is read, step by step.
-- Assumes nothing.
use Rattle.std.specs.Prelude.{Err, Ok, Result}
use Prim.Native.Nat.{ℕ}
use mathlib.Core.Path.{◌≡◌, subst}
use mathlib.Core.Bool.{Bool, true, false, cond}
use Rattle.figures.specs.declared.kinds.Field.{Field}
use Rattle.figures.specs.declared.kinds.Field.TheVariants as field
use Rattle.figures.proofs.Impossible.{impossible}
use Rattle.text.specs.declared.kinds.Refusal.{Refusal}
use Rattle.elements.specs.Parts.{figured, provided}

module _ {A : Type 0} where
  -- it is refused, or this is so of it
  pub data Reads (P : A → Type 0) : Result A Refusal → Type 0 where
    value : {a : A} → P a → Reads P (Ok a)
    refused : {f : Refusal} → Reads P (Err f)

  module _ {P : A → Type 0} where
    pub reads-figured : (x : Field) {k : ℕ → Result A Refusal} → ((n : ℕ) → Reads P (k n)) → Reads P (figured x k)
    reads-figured (field.Number n) p = p n
    reads-figured field.Missing p = refused
    reads-figured field.Mixed p = refused
    reads-figured field.Other p = refused

    pub reads-cond : (b : Bool) {x y : Result A Refusal} → Reads P x → Reads P y → Reads P (cond b x y)
    reads-cond true p q = p
    reads-cond false p q = q

    pub reads-provided : (b : Bool) {x : Result A Refusal} → Reads P x → Reads P (provided b x)
    reads-provided b p = reads-cond b p refused

    pub reads_so : {x : Result A Refusal} {a : A} → Reads P x → x ≡ Ok a → P a
    reads_so {a = b} (value {a} p) e = let same : a ≡ b = cc in subst P same p
    reads_so refused e = impossible (cc)
