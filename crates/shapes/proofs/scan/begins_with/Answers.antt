-- One byte on in both, and at the end of either.
use Rattle.std.proofs.Common.{arith}
use Rattle.std.proofs.lemmas.List.{drop_all}
use Rattle.shapes.specs.Shape.{begins}
use Rattle.shapes.proofs.Begins.{begin-spent, begin-byte}
use Rattle.shapes.proofs.scan.begins_with.Goals as goal

pub returns-in_default : goal.returns-in_default
returns-in_default c = rw (begin-spent _ _ _ c.loop-p-test.true c.in_default.ensures.cases) at c.loop-p.invariant

pub returns-then-not-fits_at : goal.returns-then-not-fits_at
returns-then-not-fits_at c =
    rw (begin-byte _ _ _ c.loop-p-test.true c.in-Some.ensures.cases.0, ← c.if-not-fits_at.ensures) at c.loop-p.invariant

pub loop-p-preserved : goal.loop-p-preserved
loop-p-preserved c =
    rw (begin-byte _ _ _ c.loop-p-test.true c.in-Some.ensures.cases.0, ← c.if-not-fits_at.ensures) at c.loop-p.invariant

pub returns : goal.returns
unfolding begins
returns c = rw (drop_all c.loop-p.p-index c.args.pattern.now (omega arith)) at c.loop-p.invariant
