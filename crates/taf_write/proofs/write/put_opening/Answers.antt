-- Where nothing opens, nothing is put.
use Rattle.text.proofs.Writes.{write-none}
use Rattle.taf_write.proofs.write.put_opening.Goals as goal

pub returns-in-None : goal.returns-in-None
returns-in-None c = rw c.in-None.is (write-none _ _)
