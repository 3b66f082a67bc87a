-- The groups are put one after the other.
use Rattle.text.proofs.Writes.{write-groups}
use Rattle.taf_write.proofs.write.put_chances.Goals as goal

pub returns : goal.returns
returns c = write-groups _ _ c.put_chance-likely.ensures c.put_group.ensures
