-- The limits and spans that are left find what all of them do.
use Rattle.std.proofs.Common.{◌≡◌, length, drop}
use Rattle.seen_values.specs.Steps.{class_by}
use Rattle.seen_values.proofs.metres.class_by.Given as goal

abbrev pub invariant-loop-limit : goal.invariant-loop-limit
invariant-loop-limit l =
    class_by l.fn.limits l.fn.spans l.fn.foot ≡ class_by (drop (length l.yielded) l.fn.limits) (drop (length l.yielded) l.fn.spans) l.fn.foot
