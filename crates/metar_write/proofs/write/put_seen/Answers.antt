-- The groups are put one after the other.
use Rattle.std.proofs.Common.{append-nil}
use Rattle.text.proofs.Writes.{write-groups}
use Rattle.metar_row.specs.Row.{row}
use Rattle.metar_write.proofs.write.put_seen.Goals as goal

pub returns : goal.returns
unfolding row
returns c =
    write-groups _ _ c.put_wind_unless-blown.ensures
    (write-groups _ _ c.put_variation-varied.ensures (write-groups _ _ c.put_visibility_unless-seen.ensures (rw (append-nil _) c.put_runways.ensures)))
