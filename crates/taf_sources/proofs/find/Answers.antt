-- The group that the walk meets is the one that is looked for, or it is looked for behind that group.
use Rattle.std.proofs.Common.{◌∙◌, arith}
use Rattle.sources.proofs.Walks.{looked}
use Rattle.taf_sources.specs.Trail.{trail_of}
use Rattle.taf_sources.proofs.Steps.{was-over, was-step}
use Rattle.taf_sources.proofs.find.Goals as goal

pub returns-in_err-step : goal.returns-in_err-step
unfolding trail_of looked
returns-in_err-step c = c.from_residual.ensures ∙ was-over _ _ _ _ _ _ _ c.meet.ensures c.in_err-step.was _ _ ∙ c.loop-step.invariant.0

pub overflow_add-here : goal.overflow_add-here
overflow_add-here c =
    let stepped = was-step _ _ _ _ _ _ _ c.meet.ensures c.in_ok-step.was in
    omega (arith, c.loop-step.invariant.1, stepped.few, stepped.follows.after, stepped.follows.some, stepped.follows.within)

pub returns-then-part-here : goal.returns-then-part-here
unfolding trail_of looked
returns-then-part-here c =
    let stepped = was-step _ _ _ _ _ _ _ c.meet.ensures c.in_ok-step.was in
    stepped.found _ _ (rw (← c.is_same.ensures) c.if-part-here.true) ∙ c.loop-step.invariant.0

pub loop-step-smaller : goal.loop-step-smaller
loop-step-smaller c =
    let stepped = was-step _ _ _ _ _ _ _ c.meet.ensures c.in_ok-step.was in
    omega (arith, stepped.few, stepped.follows.after, stepped.follows.some, stepped.follows.within)

pub loop-step-preserved : goal.loop-step-preserved
loop-step-preserved c =
    let stepped = was-step _ _ _ _ _ _ _ c.meet.ensures c.in_ok-step.was in
    (stepped.on _ _ (rw (← c.is_same.ensures) c.if-part-here.false) ∙ c.loop-step.invariant.0, omega (arith, c.loop-step.invariant.1, stepped.few, stepped.follows.after, stepped.follows.some, stepped.follows.within))
