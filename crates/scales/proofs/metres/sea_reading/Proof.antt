-- `scales::metres::sea_reading` meets its contract: the arms are the classes of the scale.
-- Assumes nothing.
use mathlib.Core.Path.{refl}
use mathlib.Core.List.{◌∷◌}
use Rattle.scales.specs.Scale.{read_in}
use Rattle.scales.specs.Metres.{sea, metres_reading}
use Rattle.scales.proofs.Answers.{read_is, read_same}
use Rattle.scales.proofs.Listed.{unread}
use Rattle.scales.proofs.metres.sea_reading.Statement.{statement}
use Rattle.scales.proofs.metres.sea_reading.Tie as tie

pub sea_reading_spec : {M : Type 1} → statement M
unfolding sea metres_reading read_in
sea_reading_spec =
    tie.close
    (tie.spec
    (λ c. read_same sea c.in-90.is)
    (λ c. read_same sea c.in-91.is)
    (λ c. read_same sea c.in-92.is)
    (λ c. read_same sea c.in-93.is)
    (λ c. read_same sea c.in-94.is)
    (λ c. read_same sea c.in-95.is)
    (λ c. read_same sea c.in-96.is)
    (λ c. read_same sea c.in-97.is)
    (λ c. read_same sea c.in-98.is)
    (λ c. read_same sea c.in-99.is)
    (λ c. read_is sea c.args.figure (unread 90 10 _ (sea.lowest ∷ sea.above) refl c.in_default.in_default-own.rest)))
