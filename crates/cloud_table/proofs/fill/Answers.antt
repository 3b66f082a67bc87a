-- One number more is stored, up to the end of one of the slices.
use Rattle.std.proofs.Common.{◌≡◌, min, length, arith, add-one}
use Rattle.cloud_table.specs.Heights.{heights_over}
use Rattle.cloud_table.proofs.Filled.{stored_on}
use Rattle.cloud_table.proofs.fill.Goals as goal

pub loop-i-preserved : goal.loop-i-preserved
loop-i-preserved c =
    rw (c.loop-i.invariant, c.look_up.ensures, add-one) (stored_on c.args.codes.now c.args.heights.now c.loop-i.i (omega arith) (omega arith))

pub returns-clause-filled : goal.returns-clause-filled
unfolding heights_over
returns-clause-filled c =
    let end : c.loop-i.i ≡ min (length c.args.codes.now) (length c.args.heights.now) = omega arith in
    rw (← end) c.loop-i.invariant
