-- What is left of the group begins with what is left of the pattern just where the whole does.
use Rattle.std.proofs.Common.{◌≡◌, drop}
use Rattle.shapes.specs.Shape.{begins}
use Rattle.shapes.proofs.scan.begins_with.Given as goal

abbrev pub invariant-loop-p : goal.invariant-loop-p
invariant-loop-p l = begins (drop l.p-index l.pattern) l.rest ≡ begins l.pattern l.fn.g
