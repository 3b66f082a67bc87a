-- `synop_groups::read::read_layer` meets its contract.
-- Assumes nothing.
use Rattle.synop_groups.specs.Reads.{said_layer}
use Rattle.synop_groups.proofs.Readings.{readings}
use Rattle.synop_groups.proofs.read.read_layer.Statement.{statement}
use Rattle.synop_groups.proofs.read.read_layer.Tie as tie

pub read_layer_spec : {M : Type 1} → statement M
unfolding said_layer
read_layer_spec =
    tie.close
    (tie.spec
    (λ c κs. search readings) (λ c. search readings) (λ c. search readings) (λ c κs. search readings) (λ c. search readings)
    (λ c κs. search readings) (λ c. search readings) (λ c. search readings) (λ c κs. search readings) (λ c. search readings)
    (λ c κs. search readings) (λ c. search readings) (λ c. search readings) (λ c κs. search readings) (λ c. search readings)
    (λ c. search readings))
