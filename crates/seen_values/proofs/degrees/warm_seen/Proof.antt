-- `seen_values::degrees::warm_seen` meets its contract: each branch is a case of the definition.
-- Assumes nothing.
use mathlib.Core.Path.{◌∙◌}
use native.Mathlib.Omega.{arith}
use borrow.Author.Rules.{rules}
use Rattle.seen_values.proofs.DegreesLaws.{at_zero, near-zero, too_far, whole-degree, no-degree}
use Rattle.seen_values.proofs.degrees.warm_seen.Statement.{statement}
use Rattle.seen_values.proofs.degrees.warm_seen.Tie as tie

pub warm_seen_spec : {M : Type 1} → statement M
warm_seen_spec =
    tie.close
    (tie.spec
    (λ c κs. search rules) (λ c κs. search rules) (λ c κs. search rules) (λ c. search rules) (λ c. search rules) (λ c κs. search rules) (λ c κs. search rules)
    (λ c. c.spread.ensures ∙ at_zero _ _ _ _ c.if-m-eq0.true)
    (λ c. c.nothing.ensures ∙ near-zero _ _ _ _ c.if-m-eq0.false (omega arith))
    (λ c. c.nothing-then-m-gt990.ensures ∙ too_far _ _ _ _ (omega arith) (omega arith))
    (λ c. c.spread-then-m-eq0-2.ensures ∙ whole-degree _ _ _ _ (omega arith) (omega arith) (omega arith) c.if-m-eq0-2.true)
    (λ c. c.nothing-else-m-eq0-2.ensures ∙ no-degree _ _ _ _ (omega arith) (omega arith) (omega arith) c.if-m-eq0-2.false))
