-- What is looked for in the rest of the trail is what the whole trail has, and each step leaves fewer bytes.
use Rattle.std.proofs.Common.{◌≡◌, ◌-◌, length}
use Rattle.sources.specs.Trail.{origin_in}
use Rattle.synop_sources.specs.Trail.{trail_of}
use Rattle.synop_sources.specs.Walk.{left}
use Rattle.synop_sources.proofs.find.Given as goal

abbrev pub invariant-loop-met : goal.invariant-loop-met
invariant-loop-met l = origin_in l.part l.spot (left l.text l.walk) ≡ origin_in l.part l.spot (trail_of l.text)

abbrev pub decreases-loop-met : goal.decreases-loop-met
decreases-loop-met l = length l.text - l.walk.from
