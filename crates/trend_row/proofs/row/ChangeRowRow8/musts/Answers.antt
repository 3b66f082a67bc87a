-- No place must have a group.
use Rattle.trend_row.proofs.Rows.{none-must}
use Rattle.trend_row.proofs.row.ChangeRowRow8.musts.Goals as goal

pub returns : goal.returns
returns c = none-must c.args.self.free
