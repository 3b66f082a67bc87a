-- The three figures that are read as a direction.
use Rattle.wind.proofs.Readings.{ddd-test}
use Rattle.wind.proofs.directions.is_tens.Goals as goal

pub returns : goal.returns
returns c = ddd-test c.args.d
