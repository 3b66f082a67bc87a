-- The bytes passed are put.
use Rattle.std.proofs.Common.{take}
use Rattle.figures.specs.Put.{Put}
use Rattle.figures.proofs.put.put_text.Given as goal

abbrev pub invariant-loop-b : goal.invariant-loop-b
invariant-loop-b l = Put l.initial.out l.fn.at (take l.b-index l.s) l.next l.out
