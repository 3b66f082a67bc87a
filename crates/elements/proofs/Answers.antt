-- What a field that the code looked at, or an answer, says of the definition's reading.
-- Assumes nothing.
use Rattle.std.specs.Prelude.{Err, Ok, Result}
use Prim.Native.Nat.{ℕ}
use mathlib.Core.Path.{◌≡◌, refl}
use mathlib.Core.List.{[], ◌∷◌}
use types.Run.{OneOf, miss}
use denote.Enum.Declared.{tag_of}
use Rattle.figures.specs.contracts.kinds.Field.{the_type}
use Rattle.figures.specs.declared.kinds.Field.{Field}
use Rattle.figures.specs.declared.kinds.Field.TheVariants as field
use Rattle.text.specs.declared.kinds.Refusal.{Refusal}
use Rattle.elements.specs.declared.kinds.Said.{Said}
use Rattle.elements.specs.declared.kinds.Said.TheVariants as said
use Rattle.elements.specs.Parts.{wrong, figured, then}
use Rattle.elements.specs.Answers.{as_said}

-- a field that is no number, where one has to be
pub no-figure : {A : Type 0} (f : Field) → OneOf (1 ∷ 2 ∷ 3 ∷ []) (tag_of the_type f) → (k : ℕ → Result A Refusal) → figured f k ≡ wrong
no-figure (field.Number n) h k = absurd (miss (1 ∷ 2 ∷ 3 ∷ []) 0 tt h)
no-figure field.Missing h k = refl
no-figure field.Mixed h k = refl
no-figure field.Other h k = refl

-- WHAT A GROUP SAYS, PUT INTO A RECORD, IS WHAT ITS READING PUTS THERE: one law for every value and every record.
pub said_put : {A R : Type 0} (says : A → Said) (with : Said → Result R Refusal) (put : A → R) → ((x : A) → with (says x) ≡ Ok (put x)) → ((f : Refusal) → with (said.Refused f) ≡ Err f)
    → (x : Result A Refusal) → with (as_said says x) ≡ then x (λ a. Ok (put a))
said_put says with put good bad (Ok x) = good x
said_put says with put good bad (Err f) = bad f
