-- `synop_groups::read::read_level` meets its contract.
-- Assumes nothing.
use Rattle.synop_groups.specs.Reads.{said_level}
use Rattle.synop_groups.proofs.Readings.{readings, small}
use Rattle.synop_groups.proofs.read.read_level.Statement.{statement}
use Rattle.synop_groups.proofs.read.read_level.Tie as tie

pub read_level_spec : {M : Type 1} → statement M
unfolding said_level
read_level_spec =
    tie.close
    (tie.spec
    (λ c κs. search readings) (λ c. search readings) (λ c κs. small _ 1 4 c.field-f.ensures c.in-Number.is) (λ c. search readings) (λ c κs. search readings) (λ c. search readings)
    (λ c. search readings)
    (λ c. search readings))
