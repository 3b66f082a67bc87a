-- No place of a trend's change ends the report.
use borrow.Author.Tests.{ne_eqb}
use Rattle.trend_row.specs.Row.{is_change}
use Rattle.trend.proofs.Steps.{row-endless}
use Rattle.metar_sources.proofs.past_in.Goals as goal

pub returns-else-part-eq0 : goal.returns-else-part-eq0
returns-else-part-eq0 c w = rw (ne_eqb _ _ c.if-part-eq0.false) (row-endless (is_change w) _)
