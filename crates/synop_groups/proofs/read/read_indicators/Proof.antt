-- `synop_groups::read::read_indicators` meets its contract.
-- Assumes nothing.
use Rattle.synop_groups.specs.Reads.{said_indicators, indicators_of}
use Rattle.synop_groups.proofs.Readings.{readings}
use Rattle.synop_groups.proofs.read.read_indicators.Statement.{statement}
use Rattle.synop_groups.proofs.read.read_indicators.Tie as tie

pub read_indicators_spec : {M : Type 1} → statement M
unfolding said_indicators indicators_of
read_indicators_spec =
    tie.close
    (tie.spec
    (λ c κs. search readings) (λ c. search readings) (λ c κs. search readings) (λ c. search readings)
    (λ c κs. search readings) (λ c. search readings) (λ c κs. search readings) (λ c. search readings)
    (λ c κs. search readings) (λ c. search readings) (λ c. search readings) (λ c κs. search readings) (λ c. search readings)
    (λ c κs. search readings) (λ c. search readings) (λ c. search readings) (λ c κs. search readings) (λ c. search readings)
    (λ c κs. search readings) (λ c. search readings depth 6)
    (λ c. search readings depth 6))
