-- `places::found_at` meets its contract: by how many may stand there, and by what is owed before it.
-- Assumes nothing.
use borrow.Author.Rules.{rules}
use native.Mathlib.Omega.{arith}
use mathlib.Core.Path.{sym, ◌∙◌}
use mathlib.Core.Bool.{true, false}
use Rattle.places.proofs.Fits.{found-room, found-full}
use Rattle.places.proofs.found_at.Statement.{statement}
use Rattle.places.proofs.found_at.Tie as tie

pub found_at_spec : {M : Type 1} → statement M
found_at_spec =
    tie.close
    (tie.spec
    (λ c κs. search rules) (λ c κs. search rules) (λ c κs. search rules)
    (λ c.
    let a = c.args in
    found-room a.most.now a.must.now a.place a.count a.fit c.standing_at-standing.ensures c.most_at.ensures true (omega arith) (sym c.is_owed_before.ensures ∙ c.if-is_owed_before.true))
    (λ c.
    let a = c.args in
    found-room a.most.now a.must.now a.place a.count a.fit c.standing_at-standing.ensures c.most_at.ensures false (omega arith) (sym c.is_owed_before.ensures ∙ c.if-is_owed_before.false))
    (λ c.
    let a = c.args in
    found-full a.most.now a.must.now a.place a.count a.fit c.standing_at-standing.ensures c.most_at.ensures (omega arith)))
