-- A group past the row, a change word, and any other by where it goes.
use Rattle.std.proofs.Common.{sym, ◌∙◌, arith}
use Rattle.shapes.specs.Pattern.{has_any}
use Rattle.places.proofs.Loop.{turn-past, turn-halts, turn-found}
use Rattle.taf_row.specs.Row.{row, change_words}
use Rattle.taf_row.proofs.Rows.{row-length}
use Rattle.taf.proofs.group.decide.Goals as goal

pub returns-then-place-ge12 : goal.returns-then-place-ge12
returns-then-place-ge12 c = turn-past (row _ _) (has_any (change_words _)) _ _ _ (rw (row-length _ _) c.if-place-ge12.true)

pub returns-then-is_change_word : goal.returns-then-is_change_word
returns-then-is_change_word c = turn-halts (row _ _) (has_any (change_words _)) _ _ _ (rw (row-length _ _) (omega (arith, c.if-place-ge12.false))) (sym c.is_change_word.ensures ∙ c.if-is_change_word.true)

pub returns : goal.returns
returns c = turn-found (row _ _) (has_any (change_words _)) _ _ _ (rw (row-length _ _) (omega (arith, c.if-place-ge12.false))) (sym c.is_change_word.ensures ∙ c.if-is_change_word.false) c.find.ensures c.turn_by.ensures
