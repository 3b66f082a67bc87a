-- The place that has many patterns of what is written there, by its number.
use Rattle.places.proofs.Rows.{has-at}
use Rattle.synop_row.specs.Row.{row}
use Rattle.synop_row.proofs.row.NeedsRow10.has_at.Goals as goal

pub returns-in-2 : goal.returns-in-2
unfolding row
returns-in-2 c = has-at (row c.args.self) c.args.g.now 2 c.in-2.is c.has_pattern-in-2.ensures
