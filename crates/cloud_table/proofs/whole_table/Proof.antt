-- `cloud_table::whole_table` meets its contract: one test over all 1,000 entries, by computation.
-- Assumes nothing.
use mathlib.Core.Path.{refl}
use Rattle.scales.specs.Scale.{run, read_in}
use Rattle.scales.specs.Metres.{cloud, metres_reading}
use Rattle.cloud_table.specs.Heights.{height_or_mark, codes_from, cloud_table}
use Rattle.cloud_table.proofs.whole_table.Statement.{statement}
use Rattle.cloud_table.proofs.whole_table.Tie as tie

returns : tie.Need-returns
unfolding cloud_table codes_from height_or_mark metres_reading cloud run read_in
returns c = refl

pub whole_table_spec : {M : Type 1} → statement M
whole_table_spec = tie.close (tie.spec returns)
