-- An absence, a stop word, NOSIG, or a change.
use Rattle.std.proofs.Common.{sym, ◌∙◌}
use Rattle.trend.proofs.Turns.{meets-lacking, meets-stop, meets-nosig, meets-change}
use Rattle.trend.proofs.word.meet_word.Goals as goal

pub returns-then-lacking : goal.returns-then-lacking
returns-then-lacking c = let a = c.args in rw (c.refuse.ensures, c.if-lacking.true) (meets-lacking a.g.now a.start a.end a.n a.nosig)

pub returns-then-is_stop_word : goal.returns-then-is_stop_word
returns-then-is_stop_word c =
    let a = c.args in rw c.if-lacking.false (meets-stop a.g.now a.start a.end a.n a.nosig (sym c.is_stop_word.ensures ∙ c.if-is_stop_word.true))

pub returns-then-has_pattern : goal.returns-then-has_pattern
returns-then-has_pattern c =
    let a = c.args in
    rw c.if-lacking.false (meets-nosig a.g.now a.start a.end a.n (sym c.is_stop_word.ensures ∙ c.if-is_stop_word.false) a.nosig (sym c.has_pattern.ensures ∙ c.if-has_pattern.true) c.meet_nosig.ensures)

pub returns-else-has_pattern : goal.returns-else-has_pattern
returns-else-has_pattern c =
    let a = c.args in
    rw c.if-lacking.false (meets-change a.g.now a.start a.end a.n (sym c.is_stop_word.ensures ∙ c.if-is_stop_word.false) a.nosig (sym c.has_pattern.ensures ∙ c.if-has_pattern.false) c.meet_change.ensures)
