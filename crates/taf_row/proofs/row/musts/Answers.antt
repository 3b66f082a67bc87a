-- By the part.
use Rattle.taf_row.proofs.Rows.{musts-by}
use Rattle.taf_row.proofs.row.musts.Goals as goal

pub returns : goal.returns
returns c = musts-by c.args.part c.is_main-main.ensures c.is_changing-changing.ensures c.is_whole-whole.ensures
