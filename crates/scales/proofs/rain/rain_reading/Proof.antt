-- `scales::rain::rain_reading` meets its contract: each branch is a band of readings.
-- Assumes nothing.
use mathlib.Core.Logic.{inl, inr}
use native.Mathlib.Omega.{arith}
use borrow.Author.Rules.{rules}
use Rattle.scales.proofs.RainLaws.{whole-read, trace-read, tenths-read, none_read}
use Rattle.scales.proofs.rain.rain_reading.Statement.{statement}
use Rattle.scales.proofs.rain.rain_reading.Tie as tie

pub rain_reading_spec : {M : Type 1} → statement M
rain_reading_spec =
    tie.close
    (tie.spec
    (λ c. search rules) (λ c. search rules)
    (λ c. none_read _ (inl c.if-figure-eq0.true))
    (λ c. whole-read _ (omega arith) (omega arith))
    (λ c. trace-read _ c.if-figure-eq990.true)
    (λ c. tenths-read _ (omega arith) (omega arith))
    (λ c. none_read _ (inr (omega arith))))
