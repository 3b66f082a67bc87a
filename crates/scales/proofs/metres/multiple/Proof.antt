-- `scales::metres::multiple` meets its contract: the test of the definition is the code's.
-- Assumes nothing.
use borrow.Author.Rules.{rules}
use borrow.Author.Tests.{eq-eqb, ne_eqb}
use Rattle.scales.proofs.metres.multiple.Statement.{statement}
use Rattle.scales.proofs.metres.multiple.Tie as tie

pub multiple_spec : {M : Type 1} → statement M
multiple_spec =
    tie.close
    (tie.spec
    (λ c. search rules)
    (λ c. rw (eq-eqb _ _ c.if-figure-apart-eq0.true))
    (λ c. rw (ne_eqb _ _ c.if-figure-apart-eq0.false)))
