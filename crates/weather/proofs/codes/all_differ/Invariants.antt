-- The codes that are left decide.
use Rattle.std.proofs.Common.{◌≡◌, length}
use Rattle.elements.specs.Weather.{codes_of, differ}
use Rattle.weather.proofs.codes.all_differ.Given as goal

abbrev pub invariant-loop-left : goal.invariant-loop-left
invariant-loop-left l = differ (codes_of l.left) ≡ differ (codes_of l.s)

abbrev pub decreases-loop-left : goal.decreases-loop-left
decreases-loop-left l = length l.left
