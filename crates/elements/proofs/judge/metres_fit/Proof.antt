-- `elements::judge::metres_fit` meets its contract, case by case.
-- Assumes nothing.
use borrow.Author.Rules.{rules}
use Rattle.elements.proofs.judge.metres_fit.Statement.{statement}
use Rattle.elements.proofs.judge.metres_fit.Tie as tie

pub metres_fit_spec : {M : Type 1} → statement M
metres_fit_spec =
    tie.close
    (tie.spec
    (λ c. search rules) (λ c. search rules) (λ c. search rules)
    (λ c. rw c.in-Some.is))
