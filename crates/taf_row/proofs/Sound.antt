-- No written group of a TAF's part can be taken at another place or for a change word: one computed test over each row; and every
-- group with a place's shape fits what covers it.
-- Assumes nothing.
use mathlib.Core.Path.{◌≡◌, refl}
use mathlib.Core.Bool.{true}
use Rattle.shapes.specs.Pattern.{low, high, clash, clash_each, all_apart}
use Rattle.shapes.specs.Shape.{leading, split, parts_of, spellings}
use Rattle.places.proofs.ReadBack.{one-pattern, two-patterns, sound, Covered}
use Rattle.elements.specs.Weather.{codes_of}
use Rattle.body.proofs.Bodies.{body-covered}
use Rattle.record.specs.declared.aerodrome.Edition.{Edition}
use Rattle.record.specs.declared.aerodrome.Edition.TheVariants as edition
use Rattle.taf_row.specs.declared.kinds.Part.{Part}
use Rattle.taf_row.specs.declared.kinds.Part.TheVariants as part
use Rattle.taf_row.specs.Row.{forecast_in, row, change_words}

pub row-sound : (e : Edition) (w : Part) → sound (change_words e) (row e w) ≡ true
unfolding row change_words low high clash clash_each all_apart leading split parts_of spellings codes_of
row-sound edition.Present part.Main = refl
row-sound edition.Present part.Changing = refl
row-sound edition.Present part.From = refl
row-sound edition.Of2005 part.Main = refl
row-sound edition.Of2005 part.Changing = refl
row-sound edition.Of2005 part.From = refl

-- WHAT HAS THE SHAPE OF A PLACE FITS THE PATTERNS THAT COVER IT.
pub row-covered : (e : Edition) (w : Part) → Covered (row e w)
unfolding row
row-covered e w =
    (one-pattern _, (two-patterns _ _, (one-pattern _, (one-pattern _, (one-pattern _, (one-pattern _, (one-pattern _, (one-pattern _, body-covered (forecast_in w)))))))))
