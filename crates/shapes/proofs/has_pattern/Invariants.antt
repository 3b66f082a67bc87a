-- What is left of the group fits what is left of the pattern just where the whole does.
use Rattle.std.proofs.Common.{◌≡◌, drop}
use Rattle.shapes.specs.Pattern.{has_pattern}
use Rattle.shapes.proofs.has_pattern.Given as goal

abbrev pub invariant-loop-p : goal.invariant-loop-p
invariant-loop-p l = has_pattern l.rest (drop l.p-index l.pattern) ≡ has_pattern l.fn.g l.pattern
