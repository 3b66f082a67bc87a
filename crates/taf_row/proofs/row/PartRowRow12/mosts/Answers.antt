-- By the part.
use Rattle.taf_row.proofs.Rows.{mosts-by}
use Rattle.taf_row.proofs.row.PartRowRow12.mosts.Goals as goal

pub returns : goal.returns
returns c = mosts-by c.args.self.part c.is_main.ensures c.one_if-head.ensures c.is_changing.ensures c.one_if-change.ensures c.args.self.edition
