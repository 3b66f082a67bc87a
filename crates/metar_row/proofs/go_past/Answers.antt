-- NIL alone ends the report.
use Rattle.std.proofs.Common.{true, false, eq-eqb}
use borrow.Author.Tests.{ne_eqb}
use Rattle.metar_row.proofs.Tests.{past-nil}
use Rattle.metar_row.proofs.go_past.Goals as goal

pub returns-then-place-eq4 : goal.returns-then-place-eq4
returns-then-place-eq4 c = past-nil _ true (eq-eqb _ _ c.if-place-eq4.true)

pub returns-else-place-eq4 : goal.returns-else-place-eq4
returns-else-place-eq4 c = past-nil _ false (ne_eqb _ _ c.if-place-eq4.false)
