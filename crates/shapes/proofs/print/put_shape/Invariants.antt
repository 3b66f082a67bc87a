-- The parts passed are put, each with its value.
use Rattle.std.proofs.Common.{map}
use Rattle.figures.specs.Put.{Put}
use Rattle.shapes.proofs.Prints.{shown, texts}
use Rattle.shapes.proofs.print.put_shape.Given as goal

abbrev pub invariant-loop-part : goal.invariant-loop-part
invariant-loop-part l = Put l.initial.out l.fn.at (texts (map shown l.yielded)) l.next l.out
