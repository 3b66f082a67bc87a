-- By the word.
use Rattle.std.proofs.Common.{sym, ap, ◌∙◌}
use Rattle.taf.specs.Step.{begun_by}
use Rattle.taf.proofs.Turns.{opens-becoming, opens-temporary, opens-probable, opens-from}
use Rattle.taf.proofs.word.open_change.Goals as goal

pub returns-then-has_pattern : goal.returns-then-has_pattern
returns-then-has_pattern c = ap begun_by c.begin.ensures ∙ opens-becoming c.args.edition c.args.g.now (sym c.has_pattern.ensures ∙ c.if-has_pattern.true)

pub returns-then-has_pattern-2 : goal.returns-then-has_pattern-2
returns-then-has_pattern-2 c = ap begun_by c.begin-then-has_pattern-2.ensures ∙ opens-temporary c.args.edition c.args.g.now (sym c.has_pattern.ensures ∙ c.if-has_pattern.false) (sym c.has_pattern-2.ensures ∙ c.if-has_pattern-2.true)

pub returns-then-has_pattern-3 : goal.returns-then-has_pattern-3
returns-then-has_pattern-3 c = c.open_probable.ensures ∙ opens-probable c.args.edition c.args.g.now (sym c.has_pattern.ensures ∙ c.if-has_pattern.false) (sym c.has_pattern-2.ensures ∙ c.if-has_pattern-2.false) (sym c.has_pattern-3.ensures ∙ c.if-has_pattern-3.true)

pub returns-else-has_pattern-3 : goal.returns-else-has_pattern-3
returns-else-has_pattern-3 c = c.open_from.ensures ∙ opens-from c.args.edition c.args.g.now (sym c.has_pattern.ensures ∙ c.if-has_pattern.false) (sym c.has_pattern-2.ensures ∙ c.if-has_pattern-2.false) (sym c.has_pattern-3.ensures ∙ c.if-has_pattern-3.false)
