-- `places::turn_by` meets its contract, case by case.
-- Assumes nothing.
use borrow.Author.Rules.{rules}
use Rattle.places.proofs.turn_by.Statement.{statement}
use Rattle.places.proofs.turn_by.Tie as tie

pub turn_by_spec : {M : Type 1} → statement M
turn_by_spec =
    tie.close
    (tie.spec
    (λ c. search rules) (λ c. search rules) (λ c. search rules) (λ c. search rules) (λ c. search rules)
    (λ c. rw c.in-Take.is)
    (λ c. rw c.in-Skips.is)
    (λ c. rw c.in-Full.is)
    (λ c. rw c.in-Earlier.is)
    (λ c. rw c.in-Unknown.is))
