-- The changes that the loop has passed are put.
use Rattle.std.proofs.Common.{length, take}
use Rattle.figures.specs.Put.{Put}
use Rattle.text.specs.Groups.{written}
use Rattle.trend.specs.Write.{show_each}
use Rattle.metar_write.proofs.trends.put_each.Given as goal

abbrev pub invariant-loop-change : goal.invariant-loop-change
invariant-loop-change l = Put l.fn.out l.at (written l.at (show_each (take (length l.yielded) (take l.n l.fn.t.items)))) l.next l.out
