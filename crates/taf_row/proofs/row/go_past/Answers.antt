-- NIL and CNL end the report.
use Rattle.std.proofs.Common.{true, false}
use Rattle.taf_row.proofs.Rows.{past_end}
use Rattle.taf_row.proofs.row.go_past.Goals as goal

pub returns-then-place : goal.returns-then-place
returns-then-place c e w = past_end e w _ true c.if-place.true

pub returns-else-place : goal.returns-else-place
returns-else-place c e w = past_end e w _ false c.if-place.false
