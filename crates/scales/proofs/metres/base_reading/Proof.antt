-- `scales::metres::base_reading` meets its contract: the arms are the classes of the scale.
-- Assumes nothing.
use mathlib.Core.Path.{refl}
use mathlib.Core.List.{◌∷◌}
use Rattle.scales.specs.Scale.{read_in}
use Rattle.scales.specs.Metres.{base, metres_reading}
use Rattle.scales.proofs.Answers.{read_is, read_same}
use Rattle.scales.proofs.Listed.{unread}
use Rattle.scales.proofs.metres.base_reading.Statement.{statement}
use Rattle.scales.proofs.metres.base_reading.Tie as tie

pub base_reading_spec : {M : Type 1} → statement M
unfolding base metres_reading read_in
base_reading_spec =
    tie.close
    (tie.spec
    (λ c. read_same base c.in-0.is)
    (λ c. read_same base c.in-1.is)
    (λ c. read_same base c.in-2.is)
    (λ c. read_same base c.in-3.is)
    (λ c. read_same base c.in-4.is)
    (λ c. read_same base c.in-5.is)
    (λ c. read_same base c.in-6.is)
    (λ c. read_same base c.in-7.is)
    (λ c. read_same base c.in-8.is)
    (λ c. read_same base c.in-9.is)
    (λ c. read_is base c.args.figure (unread 0 10 _ (base.lowest ∷ base.above) refl c.in_default.in_default-own.rest)))
