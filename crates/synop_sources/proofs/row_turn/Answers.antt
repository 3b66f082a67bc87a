-- A group past the row, a stop word, and any other by where it goes.
use Rattle.std.proofs.Common.{arith, sym, ◌∙◌}
use Rattle.shapes.specs.Pattern.{has_any}
use Rattle.places.proofs.Loop.{turn-past, turn-halts, turn-found}
use Rattle.synop_row.specs.Row.{row, stop_words}
use Rattle.synop_row.proofs.Tests.{row-length}
use Rattle.synop_sources.specs.Trail.{free}
use Rattle.synop_sources.proofs.row_turn.Goals as goal

pub returns-then-place-ge10 : goal.returns-then-place-ge10
returns-then-place-ge10 c = turn-past (row free) (has_any stop_words) _ _ _ (rw (row-length free) c.if-place-ge10.true)

pub returns-then-is_stop_word : goal.returns-then-is_stop_word
returns-then-is_stop_word c =
    turn-halts (row free) (has_any stop_words) _ _ _ (rw (row-length free) (omega (arith, c.if-place-ge10.false))) (sym c.is_stop_word.ensures ∙ c.if-is_stop_word.true)

pub returns : goal.returns
returns c =
    turn-found (row free) (has_any stop_words) _ _ _ (rw (row-length free) (omega (arith, c.if-place-ge10.false))) (sym c.is_stop_word.ensures ∙ c.if-is_stop_word.false) c.find.ensures c.turn_by.ensures
