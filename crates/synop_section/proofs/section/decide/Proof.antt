-- `section::decide` meets its contract: a group past the row, a stop word, and any other by where it goes.
-- Assumes nothing.
use borrow.Author.Rules.{rules}
use mathlib.Core.Path.{sym, ◌∙◌}
use native.Mathlib.Omega.{arith}
use Rattle.shapes.specs.Pattern.{has_any}
use Rattle.places.proofs.Loop.{turn-past, turn-halts, turn-found}
use Rattle.synop_row.specs.Row.{row, stop_words}
use Rattle.synop_row.proofs.Tests.{row-length}
use Rattle.synop_section.proofs.section.decide.Statement.{statement}
use Rattle.synop_section.proofs.section.decide.Tie as tie

pub decide_spec : {M : Type 1} → statement M
decide_spec =
    tie.close
    (tie.spec
    (λ c. let n = c.args.needs in turn-past (row n) (has_any stop_words) _ _ _ (rw (row-length n) c.if-place-ge10.true))
    (λ c κs. search rules)
    (λ c.
    let n = c.args.needs in
    turn-halts (row n) (has_any stop_words) _ _ _ (rw (row-length n) (omega (arith, c.if-place-ge10.false))) (sym c.is_stop_word.ensures ∙ c.if-is_stop_word.true))
    (λ c κs. search rules) (λ c κs. search rules)
    (λ c.
    let n = c.args.needs in
    turn-found (row n) (has_any stop_words) _ _ _ (rw (row-length n) (omega (arith, c.if-place-ge10.false))) (sym c.is_stop_word.ensures ∙ c.if-is_stop_word.false) c.find.ensures c.turn_by.ensures))
