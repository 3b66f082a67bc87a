-- The states that are left decide.
use Rattle.std.proofs.Common.{◌≡◌, length, take, drop}
use Rattle.runway_states.specs.State.{judge_each_state}
use Rattle.runway_states.proofs.judge.judge_each.Given as goal

abbrev pub invariant-loop-s : goal.invariant-loop-s
invariant-loop-s l =
    judge_each_state l.fn.ss.snoclo (take l.fn.n l.fn.ss.items) ≡ judge_each_state l.fn.ss.snoclo (drop (length l.yielded) (take l.fn.n l.fn.ss.items))
