-- The layer that is looked for in the rest of the trail is the one that the whole trail has, and each step leaves fewer bytes.
use Rattle.std.proofs.Common.{◌≡◌, ◌-◌, length}
use Rattle.synop_sources.specs.Trail.{trail_of}
use Rattle.synop_sources.specs.Items.{layer_in}
use Rattle.synop_sources.specs.Walk.{left}
use Rattle.synop_sources.proofs.find_layer.Given as goal

abbrev pub invariant-loop-met : goal.invariant-loop-met
invariant-loop-met l = layer_in l.more (left l.text l.walk) ≡ layer_in l.number (trail_of l.text)

abbrev pub decreases-loop-met : goal.decreases-loop-met
decreases-loop-met l = length l.text - l.walk.from
