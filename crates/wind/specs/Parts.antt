-- What the reader finds in three figures of a direction, and in the parts of a visibility.
-- Assumes nothing: these are definitions.
use Rattle.std.specs.Prelude.{ℕ, Bool, true, false, not, None, Ok, Option, Result, Some}
use Rattle.text.specs.declared.kinds.Refusal.{Refusal}
use Rattle.record.specs.declared.aerodrome.View.TheVariants as view
use Rattle.record.specs.declared.aerodrome.Visibility.{Visibility}
use Rattle.elements.specs.Parts.{used, provided}

-- three figures that are read as a direction
abbrev pub is_used : Option ℕ → Bool
is_used (Some d) = true
is_used None = false

-- VVVV by its reading; ////
abbrev pub seen_by : Option ℕ → Result Visibility Refusal
seen_by r = used r (λ m. Ok (record { is = view.Metres m }))

abbrev pub unseen : Bool → Result Visibility Refusal
unseen forecast = provided (not forecast) (Ok (record { is = view.Missing }))
