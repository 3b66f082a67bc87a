-- The changes that the loop has passed are put.
use Rattle.std.proofs.Common.{length, take}
use Rattle.figures.specs.Put.{Put}
use Rattle.text.specs.Groups.{written}
use Rattle.taf.specs.Write.{show_each}
use Rattle.taf_write.proofs.write.put_each.Given as goal

abbrev pub invariant-loop-change : goal.invariant-loop-change
invariant-loop-change l = Put l.fn.out l.at (written l.at (show_each l.edition (take (length l.yielded) (take l.count l.fn.items)))) l.next l.out
