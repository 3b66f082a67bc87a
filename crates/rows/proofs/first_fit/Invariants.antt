-- At each place the places from there on say what all say.
use Rattle.std.proofs.Common.{◌≡◌, drop, length}
use Rattle.places.specs.Seek.{fit_from}
use Rattle.places.specs.Engine.{stands_of}
use Rattle.rows.proofs.first_fit.Given as goal

abbrev pub invariant-loop-i : goal.invariant-loop-i
invariant-loop-i g l =
    let row = g.R.Row.places l.row in
    record {
      size : length row ≡ g.row.N;
      same : fit_from l.all l.place l.count (drop l.place (stands_of row l.g)) ≡ fit_from l.all l.i l.k (drop l.i (stands_of row l.g));
    }
