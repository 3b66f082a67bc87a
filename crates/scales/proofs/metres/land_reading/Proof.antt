-- `scales::metres::land_reading` meets its contract: `land` is `stepped` by 100 m.
-- Assumes nothing.
use native.Mathlib.Omega.{arith}
use borrow.Author.Rules.{rules}
use Rattle.scales.specs.Metres.{land}
use Rattle.scales.proofs.Stepped.{stepped, by-one-reading, by-ten-reading, by-fifty-reading, over-reading, unused-reading}
use Rattle.scales.proofs.metres.land_reading.Statement.{statement}
use Rattle.scales.proofs.metres.land_reading.Tie as tie

pub land_reading_spec : {M : Type 1} → statement M
unfolding land stepped
land_reading_spec =
    tie.close
    (tie.spec
    (λ c. search rules) (λ c. search rules) (λ c. search rules) (λ c. search rules) (λ c. search rules)
    (λ c. by-one-reading _ 100 (omega arith))
    (λ c. unused-reading _ 100 (omega arith) (λ l m. omega arith))
    (λ c. by-ten-reading _ 100 (omega arith) (omega arith))
    (λ c. by-fifty-reading _ 100 (omega arith) (omega arith))
    (λ c. over-reading _ 100 c.if-figure-eq89.true)
    (λ c. unused-reading _ 100 (omega arith) (λ l m. omega arith)))
