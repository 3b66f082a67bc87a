-- One change more is moved, up to the last that counts or the last slot.
use Rattle.std.proofs.Common.{arith}
use Rattle.taf_times.specs.Move.{moved_change}
use Rattle.taf_times.proofs.Loops.{done_next, done_end}
use Rattle.taf_times.proofs.moved_each.Goals as goal

pub loop-i-preserved : goal.loop-i-preserved
loop-i-preserved c =
    done_next (moved_change c.args.from c.args.to c.args.days c.args.w) c.args.items c.loop-i.moved c.loop-i.i c.loop-i.invariant _ _ (omega arith) c.moved_change.ensures

pub returns : goal.returns
returns c = done_end (moved_change c.args.from c.args.to c.args.days c.args.w) c.args.items c.loop-i.moved c.loop-i.i c.loop-i.invariant c.args.count (omega arith)
