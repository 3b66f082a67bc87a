-- `shapes::scan::word_or` meets its contract.
-- Assumes nothing.
use borrow.Author.Rules.{rules}
use native.Mathlib.Omega.{arith}
use Rattle.shapes.proofs.Scans.{begins-within}
use Rattle.shapes.proofs.scan.word_or.Statement.{statement}
use Rattle.shapes.proofs.scan.word_or.Tie as tie

pub word_or_spec : {M : Type 1} → statement M
word_or_spec =
    tie.close
    (tie.spec
    (λ c κs. search rules) (λ c κs. search rules)
    (λ c.
    let a = c.args in
    omega (arith, begins-within a.a.now a.g.now a.at (rw (← c.rest_from.ensures, ← c.begins_with.ensures) c.if-begins_with.true)))
    (λ c κs. search rules)
    (λ c. rw (← c.rest_from.ensures, ← c.begins_with.ensures, c.if-begins_with.true) c.nothing.ensures)
    (λ c. rw (← c.rest_from.ensures, ← c.begins_with.ensures, c.if-begins_with.false)))
