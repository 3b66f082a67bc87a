-- How the code finds what may have been seen on a scale of rising feet: whether a number is a foot, and the class that begins there.
-- Assumes nothing: these are definitions.
use Rattle.std.specs.Prelude.{ℕ, ◌+◌, Bool, cond, List, [], ◌∷◌, leb, ltb, eqb, None, Option, Some}
use Rattle.seen_values.specs.declared.kinds.Seen.{Seen}
use Rattle.seen_values.specs.declared.kinds.Seen.TheVariants as seen

-- a foot is what its own figure is read as
abbrev pub if_foot : ℕ → Option ℕ → Seen → Seen
if_foot m (Some foot) class = cond (eqb foot m) class seen.Nothing
if_foot m None class = seen.Nothing

-- the class of a foot, by limits of the feet and how far the classes below each limit go above their feet
unfoldable pub class_by : List ℕ → List ℕ → ℕ → Seen
class_by [] spans m = seen.From m
class_by (l ∷ limits) [] m = seen.From m
class_by (l ∷ limits) (s ∷ spans) m = cond (ltb m l) (seen.Between m (m + s)) (class_by limits spans m)

-- no sum of two such numbers is too large for the code
abbrev pub is_up_to99999 : ℕ → Bool
is_up_to99999 n = leb n 99999
