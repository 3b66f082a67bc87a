-- A worked example: a text, and what is answered to it, its canonical text or the refusal's number and place.
-- Assumes nothing: these are definitions.
use Rattle.std.specs.Prelude.{ℕ, cond, List, [], ◌∷◌, eqb}
use Prim.Native.String.{String}
use Rattle.figures.specs.Quote.{bytes}
use Rattle.text.specs.Numbers.{AnswerNumbers}

pub record Example : Type 0 where
  pub text : List ℕ
  pub answer : List ℕ

abbrev pub reads : String → String → Example
reads text answer = record { text = bytes text; answer = bytes answer }

abbrev pub refuses : String → ℕ → ℕ → Example
refuses text number place = record { text = bytes text; answer = number ∷ place ∷ [] }

-- what is answered to a text, by the numbers of its reading, those of writing its record, and the record's canonical text
abbrev pub answer_to : AnswerNumbers → AnswerNumbers → List ℕ → List ℕ
answer_to read written canonical =
    cond (eqb read.refusal 0) (cond (eqb written.refusal 0) canonical (written.refusal ∷ [])) (read.refusal ∷ read.value ∷ [])
