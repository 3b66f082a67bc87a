-- A station is a group.
use Rattle.text.proofs.Writes.{write-group}
use Rattle.aerodrome_groups.proofs.write.put_station.Goals as goal

pub returns : goal.returns
returns c = write-group c.open_group-opened.ensures c.put_text.ensures
