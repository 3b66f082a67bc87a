-- What an answer says in document 01's own terms, by its cases: "refused N at P". The promises on a reader's and a writer's answers go by these.
-- Assumes nothing: these are definitions.
use Rattle.std.specs.Prelude.{ℕ, Err, Ok, Result}
use Rattle.text.specs.declared.kinds.Refusal.{Refusal}
use Rattle.text.specs.declared.kinds.Refused.{Refused}
use Rattle.text.specs.Refusals.{number_of}

-- the refusal's number, 0 where nothing is refused; and what goes with it
pub record AnswerNumbers : Type 0 where
  pub refusal : ℕ
  pub value : ℕ

-- of a text: where the unread rest begins, or the place of the fault
abbrev pub verdict_numbers : Result ℕ Refused → AnswerNumbers
verdict_numbers (Ok rest) = record { refusal = 0; value = rest }
verdict_numbers (Err x) = record { refusal = number_of x.refusal; value = x.place }

-- of a record: the count of bytes written, which is 0 where it is refused
abbrev pub written_numbers : Result ℕ Refusal → AnswerNumbers
written_numbers (Ok n) = record { refusal = 0; value = n }
written_numbers (Err f) = record { refusal = number_of f; value = 0 }
