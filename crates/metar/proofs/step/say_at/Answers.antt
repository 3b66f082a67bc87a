-- Place by place. A time of a trend has no place in the observation.
use Rattle.std.proofs.Common.{refl, arith}
use Rattle.metar_row.specs.Row.{row}
use Rattle.metar.specs.Said.{report_said}
use Rattle.metar.proofs.Steps.{says-body, says-time, says-variation, says-runway, says-temperatures, says-qnh, says-recent, says-state, says-snoclo, says-beside, says_nothing}
use Rattle.metar.proofs.step.say_at.Goals as goal

pub returns-in-0 : goal.returns-in-0
unfolding row report_said
returns-in-0 c = rw (c.in-0.is, c.has_pattern.ensures) (λ r is. refl)

pub returns-in-1 : goal.returns-in-1
unfolding row report_said
returns-in-1 c = rw c.in-1.is (λ r is. refl)

pub returns-in-2 : goal.returns-in-2
unfolding row report_said
returns-in-2 c = rw c.in-2.is (λ r is. refl)

pub returns-in-3 : goal.returns-in-3
returns-in-3 c = rw (c.in-3.is, c.read_time.ensures) (says-time _ _ _ _ _)

pub returns-in-4 : goal.returns-in-4
unfolding row report_said
returns-in-4 c = rw c.in-4.is (λ r is. refl)

pub returns-in-5 : goal.returns-in-5
unfolding row report_said
returns-in-5 c = rw c.in-5.is (λ r is. refl)

pub returns-in-6 : goal.returns-in-6
unfolding row
returns-in-6 c = rw c.in-6.is (says-body _ _ _ _ _ 6 0 c.say.ensures (λ r. refl))

pub returns-in-7 : goal.returns-in-7
returns-in-7 c = rw (c.in-7.is, c.read_variation.ensures) (says-variation _ _ _ _ _)

pub returns-in-8 : goal.returns-in-8
unfolding row
returns-in-8 c = rw c.in-8.is (says-body _ _ _ _ _ 8 1 c.say-in-8.ensures (λ r. refl))

pub returns-in-9 : goal.returns-in-9
returns-in-9 c = rw (c.in-9.is, c.read_runway.ensures) (says-runway _ _ _ _ _)

pub returns-in-10 : goal.returns-in-10
unfolding row
returns-in-10 c = rw c.in-10.is (says-body _ _ _ _ _ 10 2 c.say-in-10.ensures (λ r. refl))

pub returns-in-11 : goal.returns-in-11
unfolding row
returns-in-11 c = rw c.in-11.is (says-body _ _ _ _ _ 11 3 c.say-in-11.ensures (λ r. refl))

pub returns-in-12 : goal.returns-in-12
returns-in-12 c = rw (c.in-12.is, c.read_temperatures.ensures) (says-temperatures _ _ _ _ _)

pub returns-in-13 : goal.returns-in-13
returns-in-13 c = rw (c.in-13.is, c.read_qnh.ensures) (says-qnh _ _ _ _ _)

pub returns-in-14 : goal.returns-in-14
returns-in-14 c = rw (c.in-14.is, c.say_recent.ensures) (says-recent _ _ _ _ _)

pub returns-in-15 : goal.returns-in-15
returns-in-15 c = rw (c.in-15.is, c.read_state.ensures) (says-state _ _ _ _ _)

pub returns-in-16 : goal.returns-in-16
returns-in-16 c = rw (c.in-16.is, c.say_snoclo.ensures) (says-snoclo _ _ _ _ _)

pub returns-in-17 : goal.returns-in-17
returns-in-17 c = rw (c.in-17.is, c.read_beside.ensures) (says-beside _ _ _ _ _)

pub returns-in-18 : goal.returns-in-18
unfolding row report_said
returns-in-18 c = rw c.in-18.is (λ r is. refl)

pub returns-in_default : goal.returns-in_default
returns-in_default c = let a = c.args in says_nothing a.count a.g.now a.automatic a.b a.states a.place (omega arith)
