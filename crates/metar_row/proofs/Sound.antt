-- No written group of a METAR can be taken at another place or for a stop word: one computed test over the row; and every group with a place's
-- shape fits what covers it.
-- Assumes nothing.
use mathlib.Core.Path.{◌≡◌, refl}
use mathlib.Core.Bool.{true}
use Rattle.shapes.specs.Pattern.{low, high, clash, clash_each, all_apart}
use Rattle.shapes.specs.Shape.{leading, split, parts_of, spellings}
use Rattle.places.proofs.ReadBack.{one-pattern, two-patterns, sound, Covered}
use Rattle.places.proofs.Words.{wordless}
use Rattle.weather.proofs.Covers.{recent-covered}
use Rattle.body.proofs.Bodies.{body-covered}
use Rattle.aerodrome_groups.proofs.RunwayBack.{runway-covered}
use Rattle.aerodrome_groups.proofs.TemperaturesBack.{temperatures-covered}
use Rattle.record.specs.Observation.{blank_observation}
use Rattle.elements.specs.Weather.{codes_of}
use Rattle.metar_row.specs.Row.{observed, row, words}

pub row-sound : sound words row ≡ true
unfolding row words low high clash clash_each all_apart leading split parts_of spellings codes_of
row-sound = refl

-- no word has the shape of a place
pub row-wordless : wordless words row ≡ true
unfolding row words low high clash clash_each all_apart leading split parts_of spellings codes_of
row-wordless = refl

-- WHAT HAS THE SHAPE OF A PLACE FITS THE PATTERNS THAT COVER IT.
pub row-covered : Covered row
unfolding row
row-covered =
    let b = body-covered (observed blank_observation) in
    (two-patterns _ _, (one-pattern _, (one-pattern _, (one-pattern _, (one-pattern _, (one-pattern _, (b.0, (one-pattern _, (b.1.0, (runway-covered, (b.1.1.0, (b.1.1.1.0, (temperatures-covered, (one-pattern _, (recent-covered, ((λ g h. h), (one-pattern _, ((λ g h. h), ((λ g h. h), tt)))))))))))))))))))
