-- No written group of a trend's change can be taken at another place or for a word: one computed test over its row; and every group with a place's shape
-- fits what covers it.
-- Assumes nothing.
use mathlib.Core.Path.{◌≡◌, refl}
use mathlib.Core.Bool.{Bool, true, false}
use mathlib.Core.List.{[], ◌∷◌}
use Rattle.figures.specs.Quote.{bytes}
use Rattle.shapes.specs.Pattern.{low, high, clash, clash_each, all_apart, has_pattern, has_any}
use Rattle.shapes.specs.Shape.{leading, split, parts_of, spellings}
use Rattle.places.specs.Engine.{Group}
use Rattle.places.proofs.ReadBack.{one-pattern, sound, Covered}
use Rattle.elements.specs.Weather.{codes_of}
use Rattle.elements.specs.Body.{changing}
use Rattle.body.proofs.Bodies.{body-covered}
use Rattle.metar_row.specs.Row.{words}
use Rattle.trend_row.specs.Row.{row}

pub row-sound : (free : Bool) → sound words (row free) ≡ true
unfolding row words low high clash clash_each all_apart leading split parts_of spellings codes_of
row-sound true = refl
row-sound false = refl

-- any group fits the pattern of any bytes
all_fit : (g : Group) → has_any (bytes "*" ∷ []) g ≡ true
unfolding has_any has_pattern
all_fit [] = refl
all_fit (b ∷ bs) = refl

-- WHAT HAS THE SHAPE OF A PLACE FITS THE PATTERNS THAT COVER IT.
pub row-covered : (free : Bool) → Covered (row free)
unfolding row
row-covered free =
    let b = body-covered changing in
    ((λ g h. all_fit g), (one-pattern _, (one-pattern _, (one-pattern _, b))))
