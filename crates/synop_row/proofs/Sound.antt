-- No written group of section 1 can be taken at another place or for a stop word: one computed test over the row; and every group with a place's shape fits
-- what covers it.
-- Assumes nothing.
use mathlib.Core.Path.{◌≡◌}
use mathlib.Core.Bool.{true, ◌&&◌, or-true}
use Rattle.shapes.specs.Pattern.{low, high, clash, clash_each, all_apart}
use Rattle.places.proofs.ReadBack.{one-pattern, sound, Covered}
use Rattle.synop_row.specs.declared.kinds.Needs.{Needs}
use Rattle.synop_row.specs.Row.{row, stop_words}

-- WHAT THE ROW WRITES IS TOLD APART, whatever iR, ix and ff require.
pub row-sound : (n : Needs) → sound stop_words (row n) ≡ true
unfolding row stop_words low high clash clash_each all_apart
row-sound n = rw (or-true (n.speed && true), or-true (n.rain && true), or-true (n.weather && true))

pub row-covered : (n : Needs) → Covered (row n)
unfolding row
row-covered n =
    (one-pattern _, (one-pattern _, (one-pattern _, (one-pattern _, (one-pattern _, (one-pattern _, (one-pattern _, (one-pattern _, (one-pattern _, (one-pattern _, tt))))))))))
