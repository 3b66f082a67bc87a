-- `scales::rain::rain_figure` meets its contract: each branch is a band of amounts.
-- Assumes nothing.
use mathlib.Core.Logic.{inl, inr}
use native.Mathlib.Omega.{arith}
use borrow.Author.Rules.{rules}
use Rattle.scales.proofs.RainLaws.{trace-written, tenths-written, whole-written, most-written, none_written}
use Rattle.scales.proofs.rain.rain_figure.Statement.{statement}
use Rattle.scales.proofs.rain.rain_figure.Tie as tie

pub rain_figure_spec : {M : Type 1} → statement M
rain_figure_spec =
    tie.close
    (tie.spec
    (λ c. search rules) (λ c. search rules) (λ c. search rules) (λ c. search rules)
    (λ c. rw c.in-Trace.is trace-written)
    (λ c. rw c.in-Tenths.is (none_written _ (inl c.if-tenths-eq0.true)))
    (λ c. rw c.in-Tenths.is (tenths-written _ (omega arith) (omega arith)))
    (λ c. rw c.in-Tenths.is (whole-written _ (omega arith) (omega arith)))
    (λ c. rw c.in-Tenths.is (most-written _ (omega arith) (omega arith)))
    (λ c. rw c.in-Tenths.is (none_written _ (inr (omega arith)))))
