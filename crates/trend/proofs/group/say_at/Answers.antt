-- Place by place. The observation's groups are not taken.
use Rattle.std.proofs.Common.{refl, arith}
use Rattle.trend_row.specs.Row.{row}
use Rattle.trend.proofs.Steps.{says-from, says-until, says-moment, says-body, says_nothing}
use Rattle.trend.proofs.group.say_at.Goals as goal

pub returns-in-0 : goal.returns-in-0
unfolding row
returns-in-0 c = rw c.in-0.is (λ free r is. refl)

pub returns-in-1 : goal.returns-in-1
returns-in-1 c = rw (c.in-1.is, c.read_from.ensures) (says-from _ _ _ _)

pub returns-in-2 : goal.returns-in-2
returns-in-2 c = rw (c.in-2.is, c.read_until.ensures) (says-until _ _ _ _)

pub returns-in-3 : goal.returns-in-3
returns-in-3 c = rw (c.in-3.is, c.read_at.ensures) (says-moment _ _ _ _)

pub returns-in-4 : goal.returns-in-4
unfolding row
returns-in-4 c = rw c.in-4.is (says-body _ _ _ _ 4 0 c.say.ensures (λ free r. refl))

pub returns-in-5 : goal.returns-in-5
unfolding row
returns-in-5 c = rw c.in-5.is (says-body _ _ _ _ 5 1 c.say-in-5.ensures (λ free r. refl))

pub returns-in-6 : goal.returns-in-6
unfolding row
returns-in-6 c = rw c.in-6.is (says-body _ _ _ _ 6 2 c.say-in-6.ensures (λ free r. refl))

pub returns-in-7 : goal.returns-in-7
unfolding row
returns-in-7 c = rw c.in-7.is (says-body _ _ _ _ 7 3 c.say-in-7.ensures (λ free r. refl))

pub returns-in_default : goal.returns-in_default
returns-in_default c = let a = c.args in says_nothing a.count a.g.now a.times a.b a.place (omega arith)
