-- TEMPO joins PROB, or the part begins.
use Rattle.std.proofs.Common.{sym, ◌∙◌}
use Rattle.text.proofs.Groups.{when-group, when-end}
use Rattle.taf.proofs.Turns.{begins-last, begins-joined, begins-other}
use Rattle.taf.proofs.word.begin_part.Goals as goal

pub returns-in_default : goal.returns-in_default
returns-in_default c = let a = c.args in begins-last a.text.now a.opening a.at (when-end _ _ _ (sym c.in_default.is ∙ c.next_group.ensures))

pub returns-then-does_join : goal.returns-then-does_join
returns-then-does_join c = let a = c.args in begins-joined a.text.now a.opening a.at (when-group c.args.text.now c.args.at _ _ (sym c.in-Group.is ∙ c.next_group.ensures)) c.part.ensures (sym c.does_join.ensures ∙ c.if-does_join.true) c.after_probable.ensures

pub returns-else-does_join : goal.returns-else-does_join
returns-else-does_join c = let a = c.args in begins-other a.text.now a.opening a.at (when-group c.args.text.now c.args.at _ _ (sym c.in-Group.is ∙ c.next_group.ensures)) c.part.ensures (sym c.does_join.ensures ∙ c.if-does_join.false)
