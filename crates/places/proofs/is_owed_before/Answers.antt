-- At a place that is owed, one place on, and where they are over.
use Rattle.std.proofs.Common.{sym, ◌∙◌, true, false, arith}
use Rattle.places.proofs.Seek.{owed-turn, owed-stop}
use Rattle.places.proofs.is_owed_before.Goals as goal

pub returns-then-must-i : goal.returns-then-must-i
returns-then-must-i c =
    let l = c.loop-i in
    sym (l.invariant ∙ owed-turn c.args.must.now l.i l.k c.args.end (omega arith) (omega arith) true c.if-must-i.true)

pub loop-i-preserved : goal.loop-i-preserved
loop-i-preserved c =
    let l = c.loop-i in
    l.invariant ∙ owed-turn c.args.must.now l.i l.k c.args.end (omega arith) (omega arith) false c.if-must-i.false

pub returns : goal.returns
returns c =
    let l = c.loop-i in
    sym (l.invariant ∙ owed-stop c.args.must.now l.i l.k c.args.end (omega arith))
