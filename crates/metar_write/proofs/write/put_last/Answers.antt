-- The groups are put one after the other, by whether the report is NIL.
use Rattle.std.proofs.Common.{append-nil}
use Rattle.text.proofs.Writes.{write-groups}
use Rattle.metar_row.specs.Row.{row}
use Rattle.metar_write.proofs.write.put_last.Goals as goal

pub returns-then-r : goal.returns-then-r
unfolding row
returns-then-r c = rw c.if-r.true (write-groups _ _ c.put_recents-rained.ensures (rw (append-nil _) c.put_states.ensures))

pub returns-else-r : goal.returns-else-r
unfolding row
returns-else-r c =
    rw c.if-r.false
    (write-groups _ _ c.put_temperatures-warmed.ensures
    (write-groups _ _ c.put_qnh-pressed.ensures
    (write-groups _ _ c.put_recents-rained-else-r.ensures (rw (append-nil _) c.put_states-else-r.ensures))))
