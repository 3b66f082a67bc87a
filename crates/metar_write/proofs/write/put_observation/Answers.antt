-- The groups are put one after the other.
use Rattle.text.proofs.Writes.{write-groups}
use Rattle.metar_write.proofs.Writing.{row-in-parts}
use Rattle.metar_write.proofs.write.put_observation.Goals as goal

pub returns : goal.returns
returns c =
    rw (row-in-parts c.args.r)
    (write-groups _ _ c.put_head-headed.ensures
    (write-groups _ _ c.put_seen-seen.ensures (write-groups _ _ c.put_weather_or_nsw-weathered.ensures (write-groups _ _ c.put_sky-clouded.ensures c.put_last.ensures))))
