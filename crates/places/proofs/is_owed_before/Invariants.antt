-- At each place the places from there on say what all say.
use Rattle.std.proofs.Common.{◌≡◌, ◌-◌, take, drop}
use Rattle.places.specs.Seek.{owed}
use Rattle.places.proofs.is_owed_before.Given as goal

abbrev pub invariant-loop-i : goal.invariant-loop-i
invariant-loop-i l = owed l.count (take (l.end - l.place) (drop l.place l.must)) ≡ owed l.k (take (l.end - l.i) (drop l.i l.must))
