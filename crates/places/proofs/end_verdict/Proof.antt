-- `places::end_verdict` meets its contract: by what follows the "=".
-- Assumes nothing.
use borrow.Author.Rules.{rules}
use Rattle.places.proofs.end_verdict.Statement.{statement}
use Rattle.places.proofs.end_verdict.Tie as tie

pub end_verdict_spec : {M : Type 1} → statement M
end_verdict_spec =
    tie.close
    (tie.spec
    (λ c κs. search rules) (λ c. search rules) (λ c. search rules)
    (λ c. rw (← c.tail-tail.ensures, c.in-Some.is))
    (λ c. rw (← c.tail-tail.ensures, c.in-None.is, c.if-lacking.true))
    (λ c. rw (← c.tail-tail.ensures, c.in-None.is, c.if-lacking.false)))
