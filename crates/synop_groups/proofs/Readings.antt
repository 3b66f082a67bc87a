-- The laws of what a group says, as the code comes to them: r is the answer, and what the code found in a field decides what the group says.
-- `readings` is the set that proves the readers, each by `search`.
-- Assumes nothing.
use Rattle.std.specs.Prelude.{None, Option, Some}
use Prim.Native.Nat.{ℕ, ◌<◌, ◌^◌}
use mathlib.Core.Path.{◌≡◌, refl, sym, ◌∙◌}
use mathlib.Core.Bool.{Bool, true, false, cond}
use mathlib.Core.List.{[], ◌∷◌}
use lib.Dec.{leb}
use lib.IntN.{ℤ}
use lib.Signed.{mag}
use native.Mathlib.Omega.{arith}
use borrow.Author.Rules.{rules, sfits_of}
use borrow.Author.Tests.{le-leb, lt-leb, eq-eqb, ne_eqb}
use mir.Syntax.{w32}
use mir.Val.{to_z, of_z}
use mir.Facts.{to_z-of_z}
use types.Run.{OneOf, miss}
use denote.Enum.Declared.{tag_of}
use Rattle.figures.proofs.Impossible.{impossible}
use Rattle.figures.specs.contracts.kinds.Field.{the_type}
use Rattle.figures.specs.declared.kinds.Field.{Field}
use Rattle.figures.specs.declared.kinds.Field.TheVariants as field
use Rattle.figures.specs.Figures.{field_at}
use Rattle.figures.specs.Signed.{with_sign, signed_of}
use Rattle.figures.proofs.Figures.{field-small}
use Rattle.figures.proofs.Signs.{signed-in, magnitude-fits}
use Rattle.scales.specs.Metres.{land, sea, base, metres_reading}
use Rattle.scales.specs.Layers.{layer_steps, layer_bands}
use Rattle.record.specs.declared.surface.Sight.{Sight}
use Rattle.record.specs.declared.surface.Sight.TheVariants as sight
use Rattle.record.specs.declared.surface.BaseHeight.{BaseHeight}
use Rattle.record.specs.declared.surface.BaseHeight.TheVariants as height
use Rattle.synop_groups.specs.declared.kinds.Said.{Said}
use Rattle.synop_groups.specs.Reads.{Group, wrong, figured, may_miss, missing, part, used, base_of, sight_of, height_of}
use Rattle.synop_groups.specs.Parts.{part_of, height_part, base_part, seen_by, sight_for, sight_part, based_by, height_for, layer_part}

-- ---- a number field e, found to be f

module _ {r : Said} {f e : Field} (k : ℕ → Said) (asked : f ≡ e) where
  -- it has to be a number
  pub figure : {n : ℕ} → f ≡ field.Number n → r ≡ k n → r ≡ figured e k
  figure is h = rw (← asked, is) h

  pub no-figure : OneOf (1 ∷ 2 ∷ 3 ∷ []) (tag_of the_type f) → r ≡ wrong → r ≡ figured e k
  no-figure = rw (← asked) (by f)
    where
      by : (f : Field) → OneOf (1 ∷ 2 ∷ 3 ∷ []) (tag_of the_type f) → r ≡ wrong → r ≡ figured f k
      by (field.Number n) h w = absurd (miss (1 ∷ 2 ∷ 3 ∷ []) 0 tt h)
      by field.Missing h w = w
      by field.Mixed h w = w
      by field.Other h w = w

  -- it may be missing
  module _ (a : Said) where
    pub there : {n : ℕ} → f ≡ field.Number n → r ≡ k n → r ≡ may_miss e a k
    there is h = rw (← asked, is) h

    pub absent : f ≡ field.Missing → r ≡ a → r ≡ may_miss e a k
    absent is h = rw (← asked, is) h

    pub neither : OneOf (2 ∷ 3 ∷ []) (tag_of the_type f) → r ≡ wrong → r ≡ may_miss e a k
    neither = rw (← asked) (by f)
      where
        by : (f : Field) → OneOf (2 ∷ 3 ∷ []) (tag_of the_type f) → r ≡ wrong → r ≡ may_miss f a k
        by (field.Number n) h w = absurd (miss (2 ∷ 3 ∷ []) 0 tt h)
        by field.Missing h w = absurd (miss (2 ∷ 3 ∷ []) 1 tt h)
        by field.Mixed h w = w
        by field.Other h w = w

-- it has to be missing
module _ {r : Said} {f e : Field} (s : Said) (asked : f ≡ e) where
  pub is-missing : f ≡ field.Missing → r ≡ s → r ≡ missing e s
  is-missing is h = rw (← asked, is) h

  pub not-missing : OneOf (0 ∷ 2 ∷ 3 ∷ []) (tag_of the_type f) → r ≡ wrong → r ≡ missing e s
  not-missing = rw (← asked) (by f)
    where
      by : (f : Field) → OneOf (0 ∷ 2 ∷ 3 ∷ []) (tag_of the_type f) → r ≡ wrong → r ≡ missing f s
      by (field.Number n) h w = w
      by field.Missing h w = absurd (miss (0 ∷ 2 ∷ 3 ∷ []) 1 tt h)
      by field.Mixed h w = w
      by field.Other h w = w

-- ---- a part e that may be missing, found to be p

abbrev given : Option (Option ℕ) → (Option ℕ → Said) → Said
given (Some x) k = k x
given None k = wrong

part-is : (f : Field) (k : Option ℕ → Said) → part f k ≡ given (part_of f) k
unfolding part_of
part-is (field.Number n) k = refl
part-is field.Missing k = refl
part-is field.Mixed k = refl
part-is field.Other k = refl

height-is : (x : Option ℕ) (k : Option ℕ → Said) → used x (λ m. k (Some m)) ≡ given (height_part x) k
height-is (Some m) k = refl
height-is None k = refl

base-is : (f : Field) (k : Option ℕ → Said) → base_of f k ≡ given (base_part f) k
unfolding base_part
base-is (field.Number n) k = height-is (metres_reading base n) k
base-is field.Missing k = refl
base-is field.Mixed k = refl
base-is field.Other k = refl

module _ {r : Said} {p : Option (Option ℕ)} (e : Field) (k : Option ℕ → Said) where
  pub known : {x : Option ℕ} → p ≡ part_of e → p ≡ Some x → r ≡ k x → r ≡ part e k
  known asked is h = rw (part-is e k, ← asked, is) h

  pub unknown : p ≡ part_of e → p ≡ None → r ≡ wrong → r ≡ part e k
  unknown asked is h = rw (part-is e k, ← asked, is) h

  pub base-known : {x : Option ℕ} → p ≡ base_part e → p ≡ Some x → r ≡ k x → r ≡ base_of e k
  base-known asked is h = rw (base-is e k, ← asked, is) h

  pub base-unknown : p ≡ base_part e → p ≡ None → r ≡ wrong → r ≡ base_of e k
  base-unknown asked is h = rw (base-is e k, ← asked, is) h

-- ---- a visibility e, found to be v

abbrev seen_as : Option Sight → (Sight → Said) → Said
seen_as (Some x) k = k x
seen_as None k = wrong

metres-is : (scale : ℕ → Sight) (x : Option ℕ) (k : Sight → Said) → used x (λ m. k (scale m)) ≡ seen_as (seen_by scale x) k
metres-is scale (Some m) k = refl
metres-is scale None k = refl

either_is : (b : Bool) (x y : Option ℕ) (k : Sight → Said)
    → cond b (used x (λ m. k (sight.Sea m))) (used y (λ m. k (sight.Land m))) ≡ seen_as (cond b (seen_by sight.Sea x) (seen_by sight.Land y)) k
either_is true x y k = metres-is sight.Sea x k
either_is false x y k = metres-is sight.Land y k

sight-is : (f : Field) (k : Sight → Said) → sight_of f k ≡ seen_as (sight_part f) k
unfolding sight_part sight_for
sight-is (field.Number n) k = either_is (leb 90 n) (metres_reading sea n) (metres_reading land n) k
sight-is field.Missing k = refl
sight-is field.Mixed k = refl
sight-is field.Other k = refl

module _ {r : Said} {v : Option Sight} (e : Field) (k : Sight → Said) (asked : v ≡ sight_part e) where
  pub sight-known : {x : Sight} → v ≡ Some x → r ≡ k x → r ≡ sight_of e k
  sight-known is h = rw (sight-is e k, ← asked, is) h

  pub sight-unknown : v ≡ None → r ≡ wrong → r ≡ sight_of e k
  sight-unknown is h = rw (sight-is e k, ← asked, is) h

-- ---- the height of a layer's base e, found to be v

abbrev based_as : Option BaseHeight → (BaseHeight → Said) → Said
based_as (Some x) k = k x
based_as None k = wrong

layer-metres : (scale : ℕ → BaseHeight) (x : Option ℕ) (k : BaseHeight → Said) → used x (λ m. k (scale m)) ≡ based_as (based_by scale x) k
layer-metres scale (Some m) k = refl
layer-metres scale None k = refl

layer-either : (b : Bool) (x y : Option ℕ) (k : BaseHeight → Said)
    → cond b (used x (λ m. k (height.Bands m))) (used y (λ m. k (height.Steps m))) ≡ based_as (cond b (based_by height.Bands x) (based_by height.Steps y)) k
layer-either true x y k = layer-metres height.Bands x k
layer-either false x y k = layer-metres height.Steps y k

layer-is : (f : Field) (k : BaseHeight → Said) → height_of f k ≡ based_as (layer_part f) k
unfolding layer_part height_for
layer-is (field.Number n) k = layer-either (leb 90 n) (metres_reading layer_bands n) (metres_reading layer_steps n) k
layer-is field.Missing k = refl
layer-is field.Mixed k = refl
layer-is field.Other k = refl

module _ {r : Said} {v : Option BaseHeight} (e : Field) (k : BaseHeight → Said) (asked : v ≡ layer_part e) where
  pub height-known : {x : BaseHeight} → v ≡ Some x → r ≡ k x → r ≡ height_of e k
  height-known is h = rw (layer-is e k, ← asked, is) h

  pub height-unknown : v ≡ None → r ≡ wrong → r ≡ height_of e k
  height-unknown is h = rw (layer-is e k, ← asked, is) h

-- ---- a test

module _ {A : Type 0} {r : A} (b : Bool) (x y : A) where
  pub held : b ≡ true → r ≡ x → r ≡ cond b x y
  held t h = rw t h

  pub failed : b ≡ false → r ≡ y → r ≡ cond b x y
  failed t h = rw t h

pub ruleset readings = (rules, figure, no-figure, there, absent, neither, is-missing, not-missing, known, unknown, base-known, base-unknown, sight-known, sight-unknown, height-known, height-unknown, held, failed, le-leb, lt-leb, eq-eqb, ne_eqb)

-- ---- numbers that fit

-- a field that is a number is below the power of ten of its width
pub small : {f : Field} (g : Group) (at w : ℕ) {n : ℕ} → f ≡ field_at g at w → f ≡ field.Number n → n < 10 ^ w
small g at w asked is = field-small g at w (sym asked ∙ is)

-- a signed number that the code hands on is that of its bits
pub same_bits : {t : ℤ} → mag t < 2147483648 → to_z w32 (of_z w32 t) ≡ t
same_bits h = to_z-of_z {w = w32} (sfits_of h)

-- a number of four figures can have a sign
module _ (minus : Bool) (n : ℕ) (h : n < 10000) {s : Option ℤ} (asked : s ≡ signed_of minus n) where
  fitting : Some (with_sign minus n) ≡ signed_of minus n
  fitting = signed-in minus n (omega arith)

  pub signed : {t : ℤ} → s ≡ Some t → to_z w32 (of_z w32 t) ≡ with_sign minus n
  signed {t} is =
      let e = fitting in
      let same : t ≡ with_sign minus n = cc in
      rw (same, to_z-of_z (magnitude-fits minus n (omega arith)))

  pub unsigned : s ≡ None → ⊥
  unsigned is =
      let e = fitting in
      impossible (cc)
