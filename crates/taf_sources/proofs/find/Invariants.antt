-- The source that is looked for from a position on stays the one that the whole trail has.
use Rattle.std.proofs.Common.{◌≡◌, ◌≤◌, ◌-◌, length}
use Rattle.record.specs.declared.aerodrome.Opening.TheVariants as opening
use Rattle.sources.specs.Trail.{front}
use Rattle.sources.specs.Route.{move_on}
use Rattle.sources.proofs.Walks.{looked}
use Rattle.taf_sources.specs.Trail.{route, mark_at}
use Rattle.taf_sources.proofs.find.Given as goal

abbrev pub invariant-loop-step : goal.invariant-loop-step
invariant-loop-step l =
    (looked (move_on (route l.fn.edition)) l.fn.part l.fn.spot l.text (mark_at l.here l.opener l.place l.count) l.from ≡ looked (move_on (route l.fn.edition)) l.fn.part l.fn.spot l.text (front 0 opening.None) 0) × (l.here ≤ l.from)

abbrev pub decreases-loop-step : goal.decreases-loop-step
decreases-loop-step l = length l.text - l.from
