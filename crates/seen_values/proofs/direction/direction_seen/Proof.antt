-- `seen_values::direction::direction_seen` meets its contract: each branch is a case of the definition.
-- Assumes nothing.
use native.Mathlib.Omega.{arith}
use borrow.Author.Rules.{rules}
use Rattle.seen_values.proofs.Rounds.{direction-tens, direction-part, direction-out}
use Rattle.seen_values.proofs.direction.direction_seen.Statement.{statement}
use Rattle.seen_values.proofs.direction.direction_seen.Tie as tie

pub direction_seen_spec : {M : Type 1} → statement M
direction_seen_spec =
    tie.close
    (tie.spec
    (λ c. search rules) (λ c. search rules)
    (λ c. direction-out _ c.if-degrees-gt359.true)
    (λ c. direction-tens _ (omega arith) c.if-degrees-eq0.true)
    (λ c. direction-part _ (omega arith) c.if-degrees-eq0.false))
