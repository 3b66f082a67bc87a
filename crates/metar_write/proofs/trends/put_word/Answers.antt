-- No word puts nothing.
use Rattle.text.proofs.Writes.{write-none}
use Rattle.metar_write.proofs.trends.put_word.Goals as goal

pub returns-in-None : goal.returns-in-None
returns-in-None c = rw c.in-None.is (write-none _ _)
