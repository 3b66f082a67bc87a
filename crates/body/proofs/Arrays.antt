-- An array's length is part of its type: what owning a body tells of its arrays, and owning a list of each.
-- Assumes nothing.
use mathlib.Core.List.{List, [], ◌∷◌}
use mir.Val.{Val}
use denote.RattleType.{RattleType}
use denote.Array.{each as owned}
use denote.Shadow.{shadow}
use denote.Struct.Struct.{Struct}
use denote.Struct.Declared.{shape}
use Rattle.record.specs.declared.aerodrome.Body.{Body}
use Rattle.record.specs.contracts.aerodrome.Body.{the_type}
use Rattle.record.specs.Arrays.{BodyArrays, Each}

abbrev body : RattleType
body = Struct (shape the_type)

pub body-arrays : (b : Body) (us : List Val) → shadow (body.own_val (the_type.to b) us) → BodyArrays b
body-arrays b us s =
    let s = s.1.1.1.1 in
    record { weathers = s.0.1.1.0.1.0.1; layers = s.1.1.0.1.1.1.0.1.0.1 }

-- owning a list tells of each of its values
pub each-owned : (T : RattleType) (P : T.Denot → Type 0) → ((x : T.Denot) (us : List Val) → shadow (T.own_val x us) → P x)
    → (xs : List T.Denot) (us : List Val) → shadow (owned T.Denot T.own_val xs us) → Each P xs
each-owned T P tells [] us s = tt
each-owned T P tells (x ∷ xs) [] s = absurd s
each-owned T P tells (x ∷ xs) (u ∷ us) s = (tells x (u ∷ []) s.0, each-owned T P tells xs us s.1)
