-- A group past the row, one whose shape no place has, and any other by where it goes.
use Rattle.std.proofs.Common.{sym, ap, ◌∙◌, arith}
use Rattle.shapes.specs.Pattern.{has_any}
use Rattle.places.specs.Turn.{turn_unknown}
use Rattle.places.proofs.Loop.{turn-past}
use Rattle.places.proofs.Words.{turn-nowhere, turn-somewhere}
use Rattle.metar_row.specs.Row.{row, words}
use Rattle.metar_row.proofs.Sound.{row-wordless, row-covered}
use Rattle.metar.proofs.Steps.{row-length}
use Rattle.metar.proofs.step.decide.Goals as goal

pub returns-then-place-ge19 : goal.returns-then-place-ge19
returns-then-place-ge19 c = turn-past row (has_any words) _ _ _ (rw row-length c.if-place-ge19.true)

pub returns-then-is_unknown : goal.returns-then-is_unknown
returns-then-is_unknown c =
    turn-nowhere row words _ _ _ (rw row-length (omega (arith, c.if-place-ge19.false))) c.find-found.ensures (sym c.is_unknown.ensures ∙ c.if-is_unknown.true) (c.turn_unknown.ensures ∙ ap turn_unknown c.is_word.ensures)

pub returns : goal.returns
returns c =
    turn-somewhere row words _ _ _ (rw row-length (omega (arith, c.if-place-ge19.false))) c.find-found.ensures row-wordless row-covered (sym c.is_unknown.ensures ∙ c.if-is_unknown.false) c.turn_by.ensures
