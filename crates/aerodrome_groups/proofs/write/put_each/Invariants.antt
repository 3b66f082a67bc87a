-- The slots that the loop has passed are put.
use Rattle.std.proofs.Common.{length, take, map}
use Rattle.figures.specs.Put.{Put}
use Rattle.text.specs.Groups.{written}
use Rattle.aerodrome_groups.specs.Runway.{show_runway}
use Rattle.aerodrome_groups.proofs.write.put_each.Given as goal

abbrev pub invariant-loop-w : goal.invariant-loop-w
invariant-loop-w l = Put l.fn.out l.at (written l.at (map show_runway (take (length l.yielded) (take l.count l.fn.items)))) l.next l.out
