-- The station's place, by its number.
use Rattle.places.proofs.Rows.{has-at}
use Rattle.taf_row.specs.Row.{row}
use Rattle.taf_row.proofs.row.PartRowRow12.has_at.Goals as goal

pub returns-in-2 : goal.returns-in-2
unfolding row
returns-in-2 c = let p = c.args.self in has-at (row p.edition p.part) c.args.g.now 2 c.in-2.is c.has_pattern-in-2.ensures
