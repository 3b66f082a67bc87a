-- What the reader of a sky group answers for a part of it.
-- Assumes nothing: these are definitions.
use Rattle.std.specs.Prelude.{Bool, Ok, Result}
use Rattle.text.specs.declared.kinds.Refusal.{Refusal}
use Rattle.figures.specs.declared.kinds.Field.{Field}
use Rattle.record.specs.declared.aerodrome.Cover.{Cover}
use Rattle.record.specs.declared.aerodrome.Cover.TheVariants as cover
use Rattle.elements.specs.Parts.{then}
use Rattle.elements.specs.Sky.{height_of}

-- the vertical visibility that a number field says
abbrev pub vertical_by : Bool → Field → Result Cover Refusal
vertical_by forecast f = then (height_of forecast f) (λ h. Ok (cover.Vertical h))
