-- The figure of a value as it stands in a group: a value that may not be written has none.
-- Assumes nothing: these are definitions.
use Rattle.std.specs.Prelude.{ℕ, List, [], ◌∷◌, None, Option, Some}
use Rattle.figures.specs.declared.kinds.Field.{Field}
use Rattle.figures.specs.declared.kinds.Field.TheVariants as field
use Rattle.scales.specs.declared.kinds.TwoFigures.{TwoFigures}

abbrev pub field_by : Option ℕ → Field
field_by (Some f) = field.Number f
field_by None = field.Other

-- the bytes of two figures; where there are none, no text
abbrev pub two_text : Option TwoFigures → List ℕ
two_text (Some x) = x.tens ∷ x.units ∷ []
two_text None = []
