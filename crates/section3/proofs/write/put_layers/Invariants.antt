-- The slots that the loop has passed are put.
use Rattle.std.proofs.Common.{length, take, map}
use Rattle.figures.specs.Put.{Put}
use Rattle.text.specs.Groups.{written}
use Rattle.synop_groups.specs.Shows.{show_layer}
use Rattle.section3.proofs.write.put_layers.Given as goal

abbrev pub invariant-loop-l : goal.invariant-loop-l
invariant-loop-l l = Put l.fn.out l.at (written l.at (map show_layer (take (length l.yielded) (take l.count l.fn.items)))) l.next l.out
