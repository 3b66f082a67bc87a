-- The layers that are left decide, with those before them.
use Rattle.std.proofs.Common.{◌≡◌, [], take, drop}
use Rattle.section3.specs.Write.{judge_each}
use Rattle.section3.proofs.judge.judge_each.Given as goal

abbrev pub invariant-loop-i : goal.invariant-loop-i
invariant-loop-i l =
    judge_each [] (take l.fn.n l.fn.layers.items) ≡ judge_each (take l.i l.fn.layers.items) (drop l.i (take l.fn.n l.fn.layers.items))
