-- `shapes::scan::scanned` meets its contract.
-- Assumes nothing.
use borrow.Author.Rules.{rules}
use lib.ListN.{length}
use borrow.Author.Tests.{eq-eqb, ne_eqb}
use Rattle.shapes.proofs.scan.scanned.Statement.{statement}
use Rattle.shapes.proofs.scan.scanned.Tie as tie

pub scanned_spec : {M : Type 1} → statement M
scanned_spec =
    tie.close
    (tie.spec
    (λ c κs. search rules)
    (λ c.
    let known = c in
    let a = known.args in
    rw (eq-eqb a.past (length a.g.now) c.if-past-g.true, known.blank-none.ensures))
    (λ c. let a = c.args in rw (ne_eqb a.past (length a.g.now) c.if-past-g.false, c.blank-none.ensures)))
