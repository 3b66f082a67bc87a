-- `seen_values::pressure::pressure_seen` meets its contract: each branch is a case of the definition.
-- Assumes nothing.
use native.Mathlib.Omega.{arith}
use borrow.Author.Rules.{rules}
use Rattle.seen_values.proofs.Rounds.{pressure-whole, pressure-part, pressure-far}
use Rattle.seen_values.proofs.pressure.pressure_seen.Statement.{statement}
use Rattle.seen_values.proofs.pressure.pressure_seen.Tie as tie

pub pressure_seen_spec : {M : Type 1} → statement M
pressure_seen_spec =
    tie.close
    (tie.spec
    (λ c. search rules)
    (λ c. pressure-far _ c.if-tenths-gt99999.true)
    (λ c. pressure-whole _ (omega arith) c.if-tenths-eq0.true)
    (λ c. pressure-part _ (omega arith) c.if-tenths-eq0.false))
