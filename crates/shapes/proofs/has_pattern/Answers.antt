-- One byte on in both, and at the end of either.
use Rattle.std.proofs.Common.{◌∙◌, arith}
use Rattle.shapes.proofs.Patterns.{on-star, on-spent, on-byte, on-end}
use Rattle.shapes.proofs.has_pattern.Goals as goal

pub returns-then-p-eq42 : goal.returns-then-p-eq42
returns-then-p-eq42 c = rw (on-star _ _ _ c.loop-p-test.true c.if-p-eq42.true) at c.loop-p.invariant

pub returns-in_default : goal.returns-in_default
returns-in_default c = rw (on-spent _ _ _ c.loop-p-test.true c.if-p-eq42.false c.in_default.ensures.cases) at c.loop-p.invariant

pub returns-then-not-fits_at : goal.returns-then-not-fits_at
returns-then-not-fits_at c =
    rw (on-byte _ _ _ c.loop-p-test.true c.if-p-eq42.false c.in-Some.ensures.cases.0, ← c.if-not-fits_at.ensures) at c.loop-p.invariant

pub loop-p-preserved : goal.loop-p-preserved
loop-p-preserved c =
    rw (on-byte _ _ _ c.loop-p-test.true c.if-p-eq42.false c.in-Some.ensures.cases.0, ← c.if-not-fits_at.ensures) at c.loop-p.invariant

pub returns : goal.returns
returns c = let end = on-end c.loop-p.rest.now c.args.pattern.now c.loop-p.p-index (omega arith) in c.is_empty.ensures ∙ (rw end at c.loop-p.invariant)
