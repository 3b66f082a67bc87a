-- The changes that are left decide.
use Rattle.std.proofs.Common.{◌≡◌, length, take, drop}
use Rattle.trend.specs.Write.{judge_each}
use Rattle.metar_write.proofs.trends.judge_each.Given as goal

abbrev pub invariant-loop-change : goal.invariant-loop-change
invariant-loop-change l =
    judge_each l.fn.t.nosig (take l.fn.n l.fn.t.items) ≡ judge_each l.fn.t.nosig (drop (length l.yielded) (take l.fn.n l.fn.t.items))
