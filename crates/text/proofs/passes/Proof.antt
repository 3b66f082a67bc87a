-- `text::passes` meets its contract: each arm's test is that of its kind of bytes.
-- Assumes nothing.
use borrow.Author.Rules.{rules}
use Rattle.text.proofs.passes.Statement.{statement}
use Rattle.text.proofs.passes.Tie as tie

pub passes_spec : {M : Type 1} → statement M
passes_spec =
    tie.close
    (tie.spec
    (λ c. search rules) (λ c κs. search rules) (λ c. search rules) (λ c κs. search rules) (λ c. search rules) (λ c. search rules)
    (λ c κs. search rules)
    (λ c. rw c.in-Parting.is c.is_parting.ensures)
    (λ c. rw c.in-Inner.is c.is_inner.ensures)
    (λ c. rw c.in-Other.is)
    (λ c. rw c.in-Allowed.is c.is_allowed.ensures))
