-- The observation, the trend, and the "=" after them.
use Rattle.figures.proofs.Puts.{then}
use Rattle.text.proofs.Writes.{write-groups}
use Rattle.metar.specs.Write.{groups_of}
use Rattle.metar_write.proofs.write.put_report.Goals as goal

pub returns : goal.returns
unfolding groups_of
returns c = then (write-groups _ _ c.put_observation-observed.ensures c.put_trend-told.ensures) c.close_report.ensures
