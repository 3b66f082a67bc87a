-- `seen_values::metres::if_foot` meets its contract: the number is the foot, or it is not.
-- Assumes nothing.
use borrow.Author.Rules.{rules}
use borrow.Author.Tests.{eq-eqb, ne_eqb}
use Rattle.seen_values.proofs.metres.if_foot.Statement.{statement}
use Rattle.seen_values.proofs.metres.if_foot.Tie as tie

pub if_foot_spec : {M : Type 1} → statement M
if_foot_spec =
    tie.close
    (tie.spec
    (λ c. search rules) (λ c. search rules)
    (λ c. rw (c.in-Some.is, eq-eqb _ _ c.if-foot-metres.true))
    (λ c. rw (c.in-Some.is, ne_eqb _ _ c.if-foot-metres.false))
    (λ c. search rules))
