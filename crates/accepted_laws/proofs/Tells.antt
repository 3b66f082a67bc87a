-- What a group of a SYNOP or SHIP tells: something holds of it, where it is not refused. It is put together of fields, figures and tests, as in the definitions.
-- Assumes nothing.
use Rattle.std.specs.Prelude.{Err, None, Ok, Option, Result, Some}
use Prim.Native.Nat.{ℕ, ◌+◌, ◌^◌, ◌≤◌}
use native.Mathlib.Omega.{arith}
use mathlib.Core.Path.{◌≡◌, refl}
use mathlib.Core.Bool.{Bool, true, false, cond, false≢true}
use lib.Dec.{leb}
use lib.IntN.{ℤ}
use borrow.Author.Tests.{le-leb}
use Rattle.figures.specs.declared.kinds.Field.{Field}
use Rattle.figures.specs.declared.kinds.Field.TheVariants as field
use Rattle.figures.specs.Figures.{field_at}
use Rattle.text.specs.declared.kinds.Refusal.{Refusal}
use Rattle.scales.specs.declared.kinds.Rain.{Rain}
use Rattle.scales.specs.Scale.{Scale, foot_of}
use Rattle.scales.specs.Metres.{metres_reading}
use Rattle.scales.proofs.MetresRounds.{MetresRounds}
use Rattle.places.specs.Engine.{Group}
use Rattle.record.specs.Missing.{is_missing, between, optional}
use Rattle.synop_groups.specs.declared.kinds.Said.{Said}
use Rattle.synop_groups.specs.declared.kinds.Said.TheVariants as said
use Rattle.synop_groups.specs.Reads.{figured, may_miss, missing, part, used, used_tenths, used_rain, unless, either_of}
use Rattle.accepted_laws.proofs.Gives.{Gives, good, bad}
use Rattle.accepted_laws.proofs.Values.{metres-own, metres-low}
use Rattle.accepted_laws.proofs.Fields.{field_bound}

-- `make` says which group it is
pub data Tells {A : Type 0} (make : A → Said) (P : A → Type 0) : Said → Type 0 where
  told : {a : A} → P a → Tells make P (make a)
  refused : {f : Refusal} → Tells make P (said.Refused f)

-- what is told is put into the record
pub gives-told : {A R : Type 0} {make : A → Said} {P : A → Type 0} {J : R → Type 0} (with : Said → Result R Refusal) (put : A → R) {x : Said} → ((a : A) → with (make a) ≡ Ok (put a))
    → ((f : Refusal) → with (said.Refused f) ≡ Err f) → Tells make P x → ((a : A) → P a → J (put a)) → Gives J (with x)
gives-told with put is no_more (told {a} p) j = rw (is a) (good (j a p))
gives-told with put is no_more (refused {f}) j = rw (no_more f) bad

module _ {A : Type 0} {make : A → Said} {P : A → Type 0} where
  pub tells-cond : (b : Bool) {x y : Said} → (b ≡ true → Tells make P x) → (b ≡ false → Tells make P y) → Tells make P (cond b x y)
  tells-cond true p q = p refl
  tells-cond false p q = q refl

  pub tells-figured : (f : Field) {k : ℕ → Said} → ((n : ℕ) → f ≡ field.Number n → Tells make P (k n)) → Tells make P (figured f k)
  tells-figured (field.Number n) p = p n refl
  tells-figured field.Missing p = refused
  tells-figured field.Mixed p = refused
  tells-figured field.Other p = refused

  pub tells-may-miss : (f : Field) {x : Said} {k : ℕ → Said} → (f ≡ field.Missing → Tells make P x) → ((n : ℕ) → f ≡ field.Number n → Tells make P (k n)) → Tells make P (may_miss f x k)
  tells-may-miss (field.Number n) q p = p n refl
  tells-may-miss field.Missing q p = q refl
  tells-may-miss field.Mixed q p = refused
  tells-may-miss field.Other q p = refused

  pub tells-missing : (f : Field) {x : Said} → Tells make P x → Tells make P (missing f x)
  tells-missing (field.Number n) p = refused
  tells-missing field.Missing p = p
  tells-missing field.Mixed p = refused
  tells-missing field.Other p = refused

  -- a part of w figures that may be missing: its field is, where it is
  pub tells-part-or-none : (g : Group) (at w most : ℕ) (k : Option ℕ → Said) → 10 ^ w ≤ most + 1
      → ((x : Option ℕ) → optional (between 0 most) x ≡ true → (is_missing x ≡ true → field_at g at w ≡ field.Missing) → Tells make P (k x)) → Tells make P (part (field_at g at w) k)
  tells-part-or-none g at w most k few p = go (field_at g at w) refl
    where
      go : (f : Field) → field_at g at w ≡ f → Tells make P (part f k)
      go (field.Number n) e =
          p (Some n) (rw (le-leb 0 n (omega arith)) (le-leb n most (omega (arith, few, field_bound g at w n e)))) (λ m. absurd (false≢true m))
      go field.Missing e = p None refl (λ m. e)
      go field.Mixed e = refused
      go field.Other e = refused

  pub tells-part : (g : Group) (at w most : ℕ) (k : Option ℕ → Said) → 10 ^ w ≤ most + 1 → ((x : Option ℕ) → optional (between 0 most) x ≡ true → Tells make P (k x))
      → Tells make P (part (field_at g at w) k)
  tells-part g at w most k few p = tells-part-or-none g at w most k few (λ x e m. p x e)

  pub tells-used : (x : Option ℕ) {k : ℕ → Said} → ((m : ℕ) → x ≡ Some m → Tells make P (k m)) → Tells make P (used x k)
  tells-used (Some m) p = p m refl
  tells-used None p = refused

  -- metres by one of two scales, that of the figures from 90 on being the upper: what is read is its own foot and may be written
  pub tells-either : {X : Type 0} (Q : X → Type 0) (lower upper : Scale ℕ) (low high : ℕ → X) (none : X) (f : Field) (k : X → Said) → MetresRounds lower → MetresRounds upper
      → (f ≡ field.Missing → Q none) → ((m : ℕ) → leb m 99999 ≡ true → foot_of lower m ≡ m → Q (low m)) → ((m : ℕ) → leb m 99999 ≡ true → foot_of upper m ≡ m → Q (high m))
      → ((x : X) → Q x → Tells make P (k x)) → Tells make P (either_of lower low upper high none f k)
  tells-either Q lower upper low high none f k below above missed lowly highly p =
      tells-may-miss f (λ m. p none (missed m))
      (λ n e. tells-cond (leb 90 n)
      (λ s. tells-used (metres_reading upper n) (λ m r. p (high m) (highly m (metres-low upper above n m r) (metres-own upper above n m r))))
      (λ s. tells-used (metres_reading lower n) (λ m r. p (low m) (lowly m (metres-low lower below n m r) (metres-own lower below n m r)))))

  pub tells-tenths : (x : Option ℤ) {k : ℤ → Said} → ((t : ℤ) → x ≡ Some t → Tells make P (k t)) → Tells make P (used_tenths x k)
  tells-tenths (Some t) p = p t refl
  tells-tenths None p = refused

  pub tells-rain : (x : Option Rain) {k : Rain → Said} → ((r : Rain) → x ≡ Some r → Tells make P (k r)) → Tells make P (used_rain x k)
  tells-rain (Some r) p = p r refl
  tells-rain None p = refused

  -- what is forbidden is refused
  pub tells-unless : (forbidden : Bool) {x : Said} → (forbidden ≡ false → Tells make P x) → Tells make P (unless forbidden x)
  tells-unless true p = refused
  tells-unless false p = p refl
