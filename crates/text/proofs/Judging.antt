-- What a judgement that is fine says of its parts.
-- Assumes nothing.
use Rattle.std.specs.Prelude.{⊤, Err, Ok, Result}
use Rattle.text.specs.declared.kinds.Refusal.{Refusal}
use mathlib.Core.Path.{◌≡◌, refl}
use mathlib.Core.Bool.{Bool, true, false}
use Rattle.figures.proofs.Impossible.{impossible}
use Rattle.text.specs.Judge.{judge, and_then}

-- what is judged fine is in range and agrees
pub fine : (within agrees : Bool) → judge within agrees ≡ Ok tt → (within ≡ true) × (agrees ≡ true)
fine true true e = (refl, refl)
fine true false e = impossible (cc)
fine false agrees e = impossible (cc)

-- two judgements that are fine one after the other
pub and-then : (a b : Result ⊤ Refusal) → and_then a b ≡ Ok tt → (a ≡ Ok tt) × (b ≡ Ok tt)
and-then (Ok tt) b e = (refl, e)
and-then (Err f) b e = impossible (cc)
