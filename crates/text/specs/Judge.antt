-- What the writer judges, 11 before 7 at each group: a value outside its range or half of a pair, then a disagreement.
-- Assumes nothing: these are definitions.
use Rattle.std.specs.Prelude.{⊤, Bool, cond, Err, Ok, Result}
use Rattle.text.specs.declared.kinds.Refusal.{Refusal}
use Rattle.text.specs.declared.kinds.Refusal.TheVariants as refusal

abbrev pub judge : Bool → Bool → Result ⊤ Refusal
judge within agrees = cond within (cond agrees (Ok tt) (Err refusal.Disagreement)) (Err refusal.Value)

abbrev pub and_then : Result ⊤ Refusal → Result ⊤ Refusal → Result ⊤ Refusal
and_then (Ok tt) b = b
and_then (Err f) b = Err f
