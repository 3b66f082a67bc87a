-- The groups are put one after the other.
use Rattle.std.proofs.Common.{append-nil}
use Rattle.text.proofs.Writes.{write-groups}
use Rattle.taf_row.specs.Row.{row}
use Rattle.taf_write.proofs.write.put_main.Goals as goal

pub returns : goal.returns
unfolding row
returns c =
    write-groups _ _ c.put_group-named.ensures
    (write-groups _ _ c.put_correction-marked.ensures
    (write-groups _ _ c.put_station-sited.ensures
    (write-groups _ _ c.put_time-timed.ensures
    (write-groups _ _ c.put_if-ended.ensures (write-groups _ _ (rw c.own_form.ensures at c.put_valid-valid.ensures) (rw (append-nil _) c.put_if.ensures))))))
