-- The place of TL, by its number.
use Rattle.places.proofs.Rows.{has-at}
use Rattle.trend_row.specs.Row.{row}
use Rattle.trend_row.proofs.row.ChangeRowRow8.has_at.Goals as goal

pub returns-in-2 : goal.returns-in-2
unfolding row
returns-in-2 c = has-at (row c.args.self.free) c.args.g.now 2 c.in-2.is c.has_pattern-in-2.ensures
