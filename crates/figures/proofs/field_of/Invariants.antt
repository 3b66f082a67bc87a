-- The bytes left hold, after what was read, what all the bytes hold; and what was read is below 10 to the number of bytes.
use Rattle.std.proofs.Common.{◌≡◌, ◌<◌, ◌^◌, drop, false}
use Rattle.figures.specs.Figures.{scan}
use Rattle.figures.proofs.field_of.Given as goal

abbrev pub invariant-loop-b : goal.invariant-loop-b
invariant-loop-b l = (l.n < 10 ^ l.b-index) × (scan l.n l.fig l.slash (drop l.b-index l.s) ≡ scan 0 false false l.s)
