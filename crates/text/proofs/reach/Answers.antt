-- A byte of the run is one more, and another byte or the end is none.
use Rattle.std.proofs.Common.{sym, arith}
use Rattle.text.specs.Bytes.{passes}
use Rattle.text.proofs.Leads.{lead-yes, lead-no, lead-end}
use Rattle.text.proofs.reach.Goals as goal

pub returns-then-not-passes : goal.returns-then-not-passes
returns-then-not-passes c =
    omega (arith, lead-no (passes c.args.run) c.args.text.now c.loop-i.i c.loop-i-test.true (sym c.if-not-passes.ensures))

pub loop-i-preserved : goal.loop-i-preserved
loop-i-preserved c =
    (omega arith, omega (arith, lead-yes (passes c.args.run) c.args.text.now c.loop-i.i c.loop-i-test.true (sym c.if-not-passes.ensures)))

pub returns : goal.returns
returns c = omega (arith, lead-end (passes c.args.run) c.args.text.now c.loop-i.i c.loop-i-test.false)
