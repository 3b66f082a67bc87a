-- One more byte is put after those passed.
use Rattle.std.proofs.lemmas.List.{take_more}
use Rattle.figures.proofs.Puts.{put-none, then}
use Rattle.figures.proofs.put.put_text.Goals as goal

pub loop-b-init : goal.loop-b-init
loop-b-init c = put-none _ _

pub loop-b-preserved : goal.loop-b-preserved
loop-b-preserved c = rw (take_more c.args.s.now c.loop-b.b-index 0 c.loop-b-test.true) (then c.loop-b.invariant c.put_byte-next.ensures)
