-- What is judged over a text as a whole: its length and bytes, what follows its "=", and its trimmed part.
-- Assumes nothing: these are definitions.
use Rattle.std.specs.Prelude.{ℕ, ◌+◌, Bool, cond, ◌||◌, List, length, leb, ltb, eqb, None, Option, Some}
use Rattle.std.specs.Borrow.{Bor}
use Rattle.text.specs.Bytes.{parting, other, allowed, lead, last_end}
use Rattle.text.specs.Groups.{part_of, past_parting}
use Rattle.text.specs.Part.{PartAt}
use Rattle.text.specs.declared.kinds.Bytes.{Bytes}
use Rattle.text.specs.declared.kinds.Bytes.TheVariants.{Sound, Length, Byte}

-- the place of the first "="; the length where there is none
unfoldable pub equals_at : List ℕ → ℕ
equals_at text = lead other text

-- "A text has 1 to 2,048 bytes." Refusal 1, then 2 at the place of the first byte that a text may not hold.
unfoldable pub bytes_of : List ℕ → Bytes
bytes_of text =
    cond (eqb (length text) 0 || ltb 2048 (length text)) Length
    (cond (ltb (lead allowed text) (length text)) (Byte (lead allowed text)) Sound)

-- the first byte from position p on that is no parting byte
unfoldable pub junk_from : List ℕ → ℕ → Option ℕ
junk_from text p = cond (ltb (past_parting text p) (length text)) (Some (past_parting text p)) None

-- "An "=" ends the report; only parting bytes may follow it, anything else there is refusal 4."
unfoldable pub tail_of : List ℕ → Option ℕ
tail_of text = junk_from text (equals_at text + 1)

-- does no group stand before an "=" or the end?
unfoldable pub is_bare : List ℕ → Bool
is_bare text = leb (equals_at text) (lead parting text)

-- "It runs from the first group's first byte"; the text's end where there is no group
unfoldable pub trimmed_start : List ℕ → ℕ
trimmed_start text = cond (is_bare text) (length text) (lead parting text)

-- "through the first "=" or, without one, the last group"; the text's end where there is no group
unfoldable pub trimmed_end : List ℕ → ℕ
trimmed_end text = cond (is_bare text) (length text) (cond (ltb (equals_at text) (length text)) (equals_at text + 1) (last_end text))

unfoldable pub trimmed_of : List ℕ → List ℕ
trimmed_of text = part_of text (trimmed_start text) (trimmed_end text)

-- r is the trimmed part of the text t, where it lies in t
abbrev pub TrimmedPart : Bor (List ℕ) → Bor (List ℕ) → Type 0
TrimmedPart t r = PartAt t r (trimmed_start t.now) (trimmed_end t.now)
