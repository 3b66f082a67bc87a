-- One of the three shapes.
use Rattle.metar_row.proofs.Tests.{time-is}
use Rattle.metar_row.proofs.is_time.Goals as goal

pub returns : goal.returns
returns c = time-is c.args.g.now c.has_pattern-from.ensures c.has_pattern-until.ensures c.has_pattern-at.ensures
