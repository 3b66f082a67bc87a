-- The changes that are left decide.
use Rattle.std.proofs.Common.{◌≡◌, length, take, drop}
use Rattle.taf.specs.Write.{judge_each}
use Rattle.taf_write.proofs.judge.judge_each.Given as goal

abbrev pub invariant-loop-change : goal.invariant-loop-change
invariant-loop-change l =
    judge_each l.fn.edition (take l.fn.count l.fn.items) ≡ judge_each l.fn.edition (drop (length l.yielded) (take l.fn.count l.fn.items))
