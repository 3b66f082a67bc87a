-- The slots that the loop has passed are put.
use Rattle.std.proofs.Common.{length, take, map}
use Rattle.figures.specs.Put.{Put}
use Rattle.text.specs.Groups.{written}
use Rattle.runway_states.specs.State.{show_state}
use Rattle.runway_states.proofs.write.put_each.Given as goal

abbrev pub invariant-loop-s : goal.invariant-loop-s
invariant-loop-s l = Put l.fn.out l.at (written l.at (map show_state (take (length l.yielded) (take l.count l.fn.items)))) l.next l.out
