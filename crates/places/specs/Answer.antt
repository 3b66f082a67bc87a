-- What a reader answers of a text, for any record: accepted, with where the unread rest begins, or refused by number and place, with a blank record.
-- Assumes nothing: these are definitions.
use Rattle.std.specs.Prelude.{ℕ, Bool, true, false, Err, None, Ok, Option, Result, Some}
use Rattle.text.specs.declared.kinds.Refusal.{Refusal}
use Rattle.text.specs.declared.kinds.Refusal.TheVariants as refusal
use Rattle.text.specs.declared.kinds.Refused.{Refused}
use Rattle.text.specs.Refusals.{refused_with}
use Rattle.places.specs.Engine.{Outcome, Done, Fault}

-- a verdict with the record that it accepts
abbrev pub outcome_of : {R : Type 0} → Result ℕ Refused → R → Outcome R
outcome_of (Ok rest) r = Done rest r
outcome_of (Err x) r = Fault x.refusal x.place

-- the verdict at the text's end: what follows the "=" is refused first, an absence last
abbrev pub end_verdict : Option ℕ → ℕ → Bool → Result ℕ Refused
end_verdict (Some at) end lacking = Err (refused_with refusal.Shape at)
end_verdict None end true = Err (refused_with refusal.Absence end)
end_verdict None end false = Ok end

-- `make` puts a verdict and a record together, `blank` is the blank record
module _ {R A : Type 0} (make : Result ℕ Refused → R → A) (blank : R) where
  abbrev pub accepted_as : ℕ → R → A
  accepted_as rest r = make (Ok rest) r

  abbrev pub refused_as : Refusal → ℕ → A
  refused_as f at = make (Err (refused_with f at)) blank

  abbrev pub answer_of : Outcome R → A
  answer_of (Done rest r) = accepted_as rest r
  answer_of (Fault f at) = refused_as f at
