-- A group past the row, a word, and any other by where it goes.
use Rattle.std.proofs.Common.{sym, ◌∙◌, arith}
use Rattle.shapes.specs.Pattern.{has_any}
use Rattle.places.proofs.Loop.{turn-past, turn-halts, turn-found}
use Rattle.metar_row.specs.Row.{words}
use Rattle.trend_row.specs.Row.{row}
use Rattle.trend_row.proofs.Rows.{row-length}
use Rattle.trend.proofs.group.decide.Goals as goal

pub returns-then-place-ge8 : goal.returns-then-place-ge8
returns-then-place-ge8 c = turn-past (row _) (has_any words) _ _ _ (rw (row-length _) c.if-place-ge8.true)

pub returns-then-is_word : goal.returns-then-is_word
returns-then-is_word c =
    turn-halts (row _) (has_any words) _ _ _ (rw (row-length _) (omega (arith, c.if-place-ge8.false))) (sym c.is_word.ensures ∙ c.if-is_word.true)

pub returns : goal.returns
returns c =
    turn-found (row _) (has_any words) _ _ _ (rw (row-length _) (omega (arith, c.if-place-ge8.false))) (sym c.is_word.ensures ∙ c.if-is_word.false) c.find.ensures c.turn_by.ensures
