-- `scales::metres::runway_reading` meets its contract: M and P have one class each, the rest is `exact_reading`'s.
-- Assumes nothing.
use Rattle.std.specs.Prelude.{None, Some}
use mathlib.Core.Path.{◌≡◌, sym}
use Prim.Native.Nat.{ℕ}
use borrow.Author.Rules.{rules}
use borrow.Author.Tests.{ne_eqb}
use Rattle.scales.specs.Scale.{run, read_in}
use Rattle.scales.specs.Metres.{runway, same_range, range_reading}
use Rattle.scales.specs.declared.kinds.Range.TheVariants.{Below, Above}
use Rattle.scales.proofs.metres.runway_reading.Statement.{statement}
use Rattle.scales.proofs.metres.runway_reading.Tie as tie

module _ (f : ℕ) where
  below : f ≡ 50 → Some 0 ≡ range_reading (Below f)
  unfolding range_reading runway run read_in same_range
  below e = rw e

  not-below : (f ≡ 50 → ⊥) → None ≡ range_reading (Below f)
  unfolding range_reading runway run read_in same_range
  not-below n = rw (ne_eqb 50 f (λ e. n (sym e)))

  above : f ≡ 2000 → Some 2001 ≡ range_reading (Above f)
  unfolding range_reading runway run read_in same_range
  above e = rw e

  not-above : (f ≡ 2000 → ⊥) → None ≡ range_reading (Above f)
  unfolding range_reading runway run read_in same_range
  not-above n = rw (ne_eqb 2000 f (λ e. n (sym e)))

pub runway_reading_spec : {M : Type 1} → statement M
runway_reading_spec =
    tie.close
    (tie.spec
    (λ c. search rules) (λ c. search rules) (λ c κs. search rules) (λ c. search rules)
    (λ c. rw c.in-Below.is (below _ c.if-figure-eq50.true))
    (λ c. rw c.in-Below.is (not-below _ c.if-figure-eq50.false))
    (λ c. rw c.in-Exact.is c.exact_reading.ensures)
    (λ c. rw c.in-Above.is (above _ c.if-figure-eq2000.true))
    (λ c. rw c.in-Above.is (not-above _ c.if-figure-eq2000.false)))
