-- A NIL report has no period.
use Rattle.text.proofs.Writes.{write-none}
use Rattle.taf_write.proofs.write.put_valid.Goals as goal

pub returns-then-nil : goal.returns-then-nil
returns-then-nil c = rw c.if-nil.true (write-none _ _)
