-- `synop_groups::read::with_sign` meets its contract.
-- Assumes nothing.
use borrow.Author.Rules.{rules}
use Rattle.synop_groups.proofs.Readings.{signed, unsigned}
use Rattle.synop_groups.proofs.read.with_sign.Statement.{statement}
use Rattle.synop_groups.proofs.read.with_sign.Tie as tie

pub with_sign_spec : {M : Type 1} → statement M
with_sign_spec =
    tie.close
    (tie.spec
    (λ c κs. search rules) (λ c. search rules) (λ c. search rules)
    (λ c. signed _ _ c.requires c.signed_of-s.ensures c.in-Some.is)
    (λ c. absurd (unsigned _ _ c.requires c.signed_of-s.ensures c.in-None.is)))
