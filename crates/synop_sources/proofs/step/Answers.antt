-- By what the walk met.
use Rattle.std.proofs.Common.{arith}
use Rattle.synop_sources.proofs.Steps.{was-taken}
use Rattle.synop_sources.proofs.Walks.{step_over, step_takes, step_opens}
use Rattle.synop_sources.proofs.step.Goals as goal

pub overflow_add-walk : goal.overflow_add-walk
overflow_add-walk c = let took = was-taken _ _ _ _ _ _ c.meet-met.ensures c.in-Takes.is in omega (arith, took.few)

pub returns-in-Over : goal.returns-in-Over
returns-in-Over c = step_over _ c.args.walk.now c.meet-met.ensures c.in-Over.is

pub returns-in-Takes : goal.returns-in-Takes
returns-in-Takes c = step_takes _ c.args.walk.now c.meet-met.ensures c.in-Takes.is

pub returns-in-Opens : goal.returns-in-Opens
returns-in-Opens c = step_opens _ c.args.walk.now c.meet-met.ensures c.in-Opens.is
