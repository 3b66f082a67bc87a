-- The laws of the depth of deposits: the scale passes the tests of `lawful`, and all its feet may be written.
-- Assumes nothing.
use mathlib.Core.Path.{refl}
use lib.Dec.{eqb}
use Rattle.scales.specs.Scale.{run, rising, unlike, distinct}
use Rattle.scales.specs.Depth.{depth}
use Rattle.scales.proofs.Laws.{Lawful, lawful}
use Rattle.scales.proofs.MetresLaws.{numbers}
use Rattle.scales.proofs.MetresRounds.{low, MetresRounds, metres}

pub depth-laws : Lawful eqb depth
unfolding depth run rising unlike distinct
depth-laws = lawful eqb depth numbers refl refl refl

pub depth-rounds : MetresRounds depth
unfolding depth run low
depth-rounds = metres depth depth-laws refl
