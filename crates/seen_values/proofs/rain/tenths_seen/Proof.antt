-- `seen_values::rain::tenths_seen` meets its contract: each branch is a case of the definition.
-- Assumes nothing.
use native.Mathlib.Omega.{arith}
use borrow.Author.Rules.{rules}
use Rattle.seen_values.proofs.Rounds.{rain-zero, rain-tenth, rain-one, rain-last, rain-beyond, rain-whole, rain-part}
use Rattle.seen_values.proofs.rain.tenths_seen.Statement.{statement}
use Rattle.seen_values.proofs.rain.tenths_seen.Tie as tie

pub tenths_seen_spec : {M : Type 1} → statement M
tenths_seen_spec =
    tie.close
    (tie.spec
    (λ c. search rules) (λ c. search rules)
    (λ c. rain-zero _ c.if-tenths-eq0.true)
    (λ c. rain-tenth _ (omega arith) (omega arith))
    (λ c. rain-one _ c.if-tenths-eq10.true)
    (λ c. rain-last _ c.if-tenths-eq9890.true)
    (λ c. rain-beyond _ c.if-tenths-gt9890.true)
    (λ c. rain-whole _ (omega arith) (omega arith) c.if-tenths-eq0-2.true)
    (λ c. rain-part _ (omega arith) (omega arith) c.if-tenths-eq0-2.false))
