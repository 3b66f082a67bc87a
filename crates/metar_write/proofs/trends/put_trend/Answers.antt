-- NOSIG, and then the changes.
use Rattle.text.proofs.Writes.{write-groups}
use Rattle.trend.specs.Write.{show_trend}
use Rattle.metar_write.proofs.trends.put_trend.Goals as goal

pub returns : goal.returns
unfolding show_trend
returns c = write-groups _ _ c.put_if-alone.ensures c.put_each.ensures
