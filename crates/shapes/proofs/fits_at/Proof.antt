-- `shapes::fits_at` meets its contract.
-- Assumes nothing.
use borrow.Author.Rules.{rules}
use Rattle.shapes.specs.Pattern.{fits}
use Rattle.shapes.proofs.fits_at.Statement.{statement}
use Rattle.shapes.proofs.fits_at.Tie as tie

pub fits_at_spec : {M : Type 1} → statement M
fits_at_spec =
    tie.close
    (tie.spec
    (λ c κs. search rules) (λ c κs. search rules)
    (λ c. unfold fits in rw (c.lowest-l.ensures, c.highest-h.ensures)))
