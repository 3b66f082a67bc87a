-- "A table says visibility 4000 m, so what may the observer have seen?" The values that are read as one reading, on every scale.
-- Assumes nothing: these are definitions.
use Rattle.std.specs.Prelude.{ℕ, ◌+◌, ◌-◌, ◌≤◌, cond, eqb}
use Rattle.scales.specs.Scale.{Scale, Length, Of, Open, length_of, foot_of}
use Rattle.seen_values.specs.declared.kinds.Seen.{Seen}
use Rattle.seen_values.specs.declared.kinds.Seen.TheVariants as seen

-- v is one of them
abbrev pub Within : Seen → ℕ → Type 0
Within (seen.Between least greatest) v = (least ≤ v) × (v ≤ greatest)
Within (seen.From least) v = least ≤ v
Within seen.Nothing v = ⊥

-- ---- the six scales in metres, the heights of layers, and the depth of deposits in millimetres: "its length runs to the next foot, the last class is open above"
abbrev pub from_foot : ℕ → Length → Seen
from_foot m (Of l) = seen.Between m (m + l - 1)
from_foot m Open = seen.From m

-- of a foot, which is read as itself, its class; of any other number nothing
unfoldable pub seen_on : {F : Type 0} → Scale F → ℕ → Seen
seen_on s m = cond (eqb (foot_of s m) m) (from_foot m (length_of s m)) seen.Nothing
