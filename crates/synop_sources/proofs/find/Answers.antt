-- The group that the walk came by is the one, or it is still to come.
use Rattle.std.proofs.Common.{ap, ◌∙◌}
use Rattle.sources.specs.Trail.{source_of}
use Rattle.synop_sources.proofs.Walks.{here, further, nowhere_left}
use Rattle.synop_sources.proofs.find.Goals as goal

pub returns-then-part-met : goal.returns-then-part-met
returns-then-part-met c = here c.in-Some.ensures c.args.part c.args.spot (rw (← c.is_same.ensures) c.if-part-met.true) ∙ ap source_of c.loop-met.invariant

pub loop-met-preserved : goal.loop-met-preserved
loop-met-preserved c = further c.in-Some.ensures c.args.part c.args.spot (rw (← c.is_same.ensures) c.if-part-met.false) ∙ c.loop-met.invariant

pub returns : goal.returns
returns c = nowhere_left c.in_default.ensures c.args.part c.args.spot ∙ ap source_of c.loop-met.invariant
