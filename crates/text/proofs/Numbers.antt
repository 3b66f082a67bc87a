-- The paper's numbers tell answers apart: no two refusals have one number, and none has 0. So a promise on the numbers is one on the answer.
-- Assumes nothing.
use Rattle.std.specs.Prelude.{Err, Ok, Result}
use Prim.Native.Nat.{ℕ}
use mathlib.Core.Path.{◌≡◌, refl, sym, ap, ◌∙◌}
use mathlib.Core.List.{[], ◌∷◌}
use lib.ListN.{get_or}
use Rattle.text.specs.declared.kinds.Refusal.{Refusal}
use Rattle.text.specs.declared.kinds.Refusal.TheVariants as refusal
use Rattle.text.specs.declared.kinds.Refused.{Refused}
use Rattle.text.specs.Refusals.{number_of, refused_with}
use Rattle.text.specs.Numbers.{AnswerNumbers, verdict_numbers, written_numbers}

-- the refusals in the order of their numbers, 0 being none
pub data Numbered : Type 0 where
  none : Numbered
  some : Refusal → Numbered

abbrev numbered : ℕ → Numbered
numbered n =
    get_or (none
    ∷ some refusal.Length
    ∷ some refusal.Byte
    ∷ some refusal.Kind
    ∷ some refusal.Shape
    ∷ some refusal.Figure
    ∷ some refusal.Order
    ∷ some refusal.Disagreement
    ∷ some refusal.Absence
    ∷ some refusal.Limit
    ∷ some refusal.Room
    ∷ some refusal.Value
    ∷ none
    ∷ none
    ∷ none
    ∷ some refusal.Times
    ∷ []) n none

by_number : (f : Refusal) → numbered (number_of f) ≡ some f
by_number refusal.Length = refl
by_number refusal.Byte = refl
by_number refusal.Kind = refl
by_number refusal.Shape = refl
by_number refusal.Figure = refl
by_number refusal.Order = refl
by_number refusal.Disagreement = refl
by_number refusal.Absence = refl
by_number refusal.Limit = refl
by_number refusal.Room = refl
by_number refusal.Value = refl
by_number refusal.Times = refl

-- the answer that has these numbers
abbrev verdict_of : Numbered → ℕ → Result ℕ Refused
verdict_of none n = Ok n
verdict_of (some f) n = Err (refused_with f n)

abbrev written_by : Numbered → ℕ → Result ℕ Refusal
written_by none n = Ok n
written_by (some f) n = Err f

verdict-back : (v : Result ℕ Refused) → verdict_of (numbered (verdict_numbers v).refusal) (verdict_numbers v).value ≡ v
verdict-back (Ok rest) = refl
verdict-back (Err x) = rw (by_number x.refusal)

written_back : (w : Result ℕ Refusal) → written_by (numbered (written_numbers w).refusal) (written_numbers w).value ≡ w
written_back (Ok n) = refl
written_back (Err f) = rw (by_number f)

pub verdict-told : (v w : Result ℕ Refused) → verdict_numbers v ≡ verdict_numbers w → v ≡ w
verdict-told v w e = sym (verdict-back v) ∙ ap (λ (n : AnswerNumbers). verdict_of (numbered n.refusal) n.value) e ∙ verdict-back w

pub written-told : (v w : Result ℕ Refusal) → written_numbers v ≡ written_numbers w → v ≡ w
written-told v w e = sym (written_back v) ∙ ap (λ (n : AnswerNumbers). written_by (numbered n.refusal) n.value) e ∙ written_back w
