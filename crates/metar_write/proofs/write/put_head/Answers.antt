-- The groups are put one after the other.
use Rattle.std.proofs.Common.{append-nil}
use Rattle.text.proofs.Writes.{write-groups}
use Rattle.metar_row.specs.Row.{row}
use Rattle.metar_write.proofs.write.put_head.Goals as goal

pub returns : goal.returns
unfolding row
returns c =
    write-groups _ _ c.put_name-named.ensures
    (write-groups _ _ c.put_if-marked.ensures
    (write-groups _ _ c.put_station-sited.ensures
    (write-groups _ _ c.put_time-timed.ensures
    (write-groups _ _ c.put_if-ended.ensures
    (rw (append-nil _) c.put_if.ensures)))))
