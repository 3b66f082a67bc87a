-- `shapes::highest` meets its contract: the arms are the cases of `high`.
-- Assumes nothing.
use borrow.Author.Tests.{ne_eqb}
use Rattle.shapes.specs.Pattern.{high}
use Rattle.shapes.proofs.highest.Statement.{statement}
use Rattle.shapes.proofs.highest.Tie as tie

pub highest_spec : {M : Type 1} → statement M
highest_spec =
    tie.close
    (tie.spec
    (λ c. unfold high in rw c.in-35.is)
    (λ c. unfold high in rw c.in-64.is)
    (λ c. unfold high in rw c.in-63.is)
    (λ c. unfold high in simp (ne_eqb _ _ c.in_default.in_default-own.rest.0.0.1, ne_eqb _ _ c.in_default.in_default-own.rest.0.1, ne_eqb _ _ c.in_default.in_default-own.rest.1)))
