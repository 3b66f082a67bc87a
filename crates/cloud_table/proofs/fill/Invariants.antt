-- The numbers of the codes passed are stored.
use Rattle.std.proofs.Common.{◌≡◌}
use Rattle.cloud_table.proofs.Filled.{stored}
use Rattle.cloud_table.proofs.fill.Given as goal

abbrev pub invariant-loop-i : goal.invariant-loop-i
invariant-loop-i l = l.heights ≡ stored l.codes l.fn.heights l.i
