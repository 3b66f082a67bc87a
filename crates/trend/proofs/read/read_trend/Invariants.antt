-- The text is read as from the part on that stands ahead, and at most three parts come.
use Rattle.std.proofs.Common.{◌-◌}
use Rattle.trend.proofs.Turns.{Stands}
use Rattle.trend.proofs.read.read_trend.Given as goal

abbrev pub invariant-loop-trend : goal.invariant-loop-trend
invariant-loop-trend l = Stands l.fn.text l.fn.first l.fn.at l.trend l.word l.n l.from

abbrev pub decreases-loop-trend : goal.decreases-loop-trend
decreases-loop-trend l = 3 - l.n
