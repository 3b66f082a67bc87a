-- A required group is owed, and the observation lacks nothing besides.
use Rattle.metar.proofs.Steps.{owes_is}
use Rattle.metar.proofs.read.owes.Goals as goal

pub returns : goal.returns
returns c o = let a = c.args in owes_is a.here.place a.here.count o c.musts-must.ensures c.is_owed.ensures
