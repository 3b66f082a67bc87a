-- `section3::row::decide` meets its contract: a group past the row, one that stops the reading, and any other by its shape.
-- Assumes nothing.
use borrow.Author.Rules.{rules}
use mathlib.Core.Path.{sym, ◌∙◌}
use native.Mathlib.Omega.{arith}
use Rattle.places.proofs.Loop.{turn-past}
use Rattle.section3.specs.Row.{row, halts}
use Rattle.section3.proofs.Turns.{row-length, halts-word, halts-none, goes}
use Rattle.section3.proofs.row.decide.Statement.{statement}
use Rattle.section3.proofs.row.decide.Tie as tie

pub decide_spec : {M : Type 1} → statement M
decide_spec =
    tie.close
    (tie.spec
    (λ c. turn-past row halts _ _ _ (rw row-length c.if-place-ge3.true))
    (λ c κs. search rules)
    (λ c. halts-word _ _ _ (omega (arith, c.if-place-ge3.false)) (sym c.is_stop_word.ensures ∙ c.if-is_stop_word.true))
    (λ c κs. search rules)
    (λ c. halts-none _ _ _ (omega (arith, c.if-place-ge3.false)) (sym c.shape_of-shape.ensures ∙ c.if-shape-eq3.true))
    (λ c κs. search rules)
    (λ c. goes _ _ _ (omega (arith, c.if-place-ge3.false)) (sym c.is_stop_word.ensures ∙ c.if-is_stop_word.false) (λ e. c.if-shape-eq3.false (c.shape_of-shape.ensures ∙ e)) (rw (← c.shape_of-shape.ensures) c.turn_of.ensures)))
