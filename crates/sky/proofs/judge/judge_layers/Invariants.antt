-- How far the judging has come.
use Rattle.std.proofs.Common.{length, take, drop}
use Rattle.sky.proofs.Judging.{Going}
use Rattle.sky.proofs.judge.judge_layers.Given as goal

abbrev pub invariant-loop-l : goal.invariant-loop-l
invariant-loop-l r =
    Going r.forecast r.beside (take r.count r.fn.layers) (drop (length r.yielded) (take r.count r.fn.layers)) r.last
