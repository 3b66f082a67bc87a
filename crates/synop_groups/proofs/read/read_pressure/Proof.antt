-- `synop_groups::read::read_pressure` meets its contract.
-- Assumes nothing.
use Rattle.synop_groups.specs.Reads.{said_pressure}
use Rattle.synop_groups.proofs.Readings.{readings, small}
use Rattle.synop_groups.proofs.read.read_pressure.Statement.{statement}
use Rattle.synop_groups.proofs.read.read_pressure.Tie as tie

pub read_pressure_spec : {M : Type 1} → statement M
unfolding said_pressure
read_pressure_spec =
    tie.close
    (tie.spec
    (λ c κs. search readings) (λ c. search readings) (λ c κs. small _ 1 4 c.field-f.ensures c.in-Number.is) (λ c. search readings) (λ c κs. search readings) (λ c. rw c.pressure_of.ensures (search readings))
    (λ c. search readings)
    (λ c. search readings))
