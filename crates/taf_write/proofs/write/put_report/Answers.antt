-- The main part, the changes, and the "=".
use Rattle.figures.proofs.Puts.{then}
use Rattle.text.proofs.Writes.{write-groups}
use Rattle.taf.specs.Write.{groups_of}
use Rattle.taf_write.proofs.write.put_report.Goals as goal

pub returns : goal.returns
returns c = unfold groups_of in then (write-groups _ _ c.put_part-main.ensures c.put_each-told.ensures) c.close_report.ensures
