-- `places::standing_at` meets its contract.
-- Assumes nothing.
use borrow.Author.Tests.{eq-eqb, ne_eqb}
use Rattle.places.proofs.standing_at.Statement.{statement}
use Rattle.places.proofs.standing_at.Tie as tie

pub standing_at_spec : {M : Type 1} → statement M
standing_at_spec = tie.close (tie.spec (λ c. rw (eq-eqb _ _ c.if-later-place.true)) (λ c. rw (ne_eqb _ _ c.if-later-place.false)))
