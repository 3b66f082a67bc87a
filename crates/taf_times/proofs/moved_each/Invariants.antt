-- The changes that the loop has passed are moved.
use Rattle.std.proofs.Common.{◌≡◌, ◌++◌, map, take, drop}
use Rattle.taf_times.specs.Move.{moved_change}
use Rattle.taf_times.proofs.moved_each.Given as goal

abbrev pub invariant-loop-i : goal.invariant-loop-i
invariant-loop-i l = l.moved ≡ map (moved_change l.from l.to l.days l.w) (take l.i l.items) ++ drop l.i l.items
