-- The group that the walk came by says the layer, says one that is passed over, or says none.
use Rattle.std.proofs.Common.{ap, sym, ◌∙◌}
use Rattle.sources.specs.Trail.{source_of}
use Rattle.synop_sources.proofs.Walks.{layer_here, layer_passed, no_layer, no_layer_left}
use Rattle.synop_sources.proofs.find_layer.Goals as goal

pub returns-then-more-eq0 : goal.returns-then-more-eq0
returns-then-more-eq0 c = layer_here c.in-Some.ensures c.loop-met.more (sym c.is_layer.ensures ∙ c.if-is_layer.true) c.if-more-eq0.true ∙ ap source_of c.loop-met.invariant

pub loop-met-preserved-then-is_layer : goal.loop-met-preserved-then-is_layer
loop-met-preserved-then-is_layer c = layer_passed c.in-Some.ensures c.loop-met.more (sym c.is_layer.ensures ∙ c.if-is_layer.true) c.if-more-eq0.false ∙ c.loop-met.invariant

pub loop-met-preserved : goal.loop-met-preserved
loop-met-preserved c = no_layer c.in-Some.ensures c.loop-met.more (sym c.is_layer.ensures ∙ c.if-is_layer.false) ∙ c.loop-met.invariant

pub returns : goal.returns
returns c = no_layer_left c.in_default.ensures c.loop-met.more ∙ ap source_of c.loop-met.invariant
