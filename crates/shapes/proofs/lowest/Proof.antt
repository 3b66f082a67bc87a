-- `shapes::lowest` meets its contract: the arms are the cases of `low`.
-- Assumes nothing.
use borrow.Author.Tests.{ne_eqb}
use Rattle.shapes.specs.Pattern.{low}
use Rattle.shapes.proofs.lowest.Statement.{statement}
use Rattle.shapes.proofs.lowest.Tie as tie

pub lowest_spec : {M : Type 1} → statement M
lowest_spec =
    tie.close
    (tie.spec
    (λ c. unfold low in rw c.in-35.is)
    (λ c. unfold low in rw c.in-64.is)
    (λ c. unfold low in rw c.in-63.is)
    (λ c. unfold low in simp (ne_eqb _ _ c.in_default.in_default-own.rest.0.0.1, ne_eqb _ _ c.in_default.in_default-own.rest.0.1, ne_eqb _ _ c.in_default.in_default-own.rest.1)))
