-- What a writer answers, and the lent buffer afterwards: "the buffer is shorter than the canonical text, and not otherwise" (10); "A refusal writes
-- nothing, success leaves the bytes past the text as they were."
-- Assumes nothing: these are definitions.
use Rattle.std.specs.Prelude.{⊤, ℕ, Bool, cond, List, length, leb, Err, Ok, Result}
use Rattle.text.specs.declared.kinds.Refusal.{Refusal}
use Rattle.figures.specs.Put.{splice}
use Rattle.text.specs.declared.kinds.Refusal.TheVariants as refusal

abbrev pub fits_in : ℕ → List ℕ → Bool
fits_in room text = leb (length text) room

-- a record's judgement, its canonical text, and how many bytes the buffer has
abbrev pub answer_by : Result ⊤ Refusal → List ℕ → ℕ → Result ℕ Refusal
answer_by (Ok tt) text room = cond (fits_in room text) (Ok (length text)) (Err refusal.Room)
answer_by (Err f) text room = Err f

abbrev pub buffer_by : Result ⊤ Refusal → List ℕ → List ℕ → List ℕ
buffer_by (Ok tt) text b = cond (fits_in (length b) text) (splice b 0 text) b
buffer_by (Err f) text b = b
