-- The laws of the row of a trend's change: its length, and that no place must have a group.
-- Assumes nothing.
use mathlib.Core.Path.{◌≡◌, refl}
use mathlib.Core.Bool.{Bool, true, false}
use lib.ListN.{length, replicate}
use Rattle.places.specs.Engine.{musts_of}
use Rattle.trend_row.specs.Row.{row}

pub row-length : (free : Bool) → length (row free) ≡ 8
unfolding row
row-length free = refl

pub none-must : (free : Bool) → replicate 8 false ≡ musts_of (row free)
unfolding row
none-must true = refl
none-must false = refl
