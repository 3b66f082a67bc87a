-- `section::leave` meets its contract: a required group is owed, section 3 follows, or the unread rest begins.
-- Assumes nothing.
use borrow.Author.Rules.{rules}
use mathlib.Core.Path.{sym, ◌∙◌}
use Rattle.synop_section.proofs.SectionSteps.{leaves-owed, leaves-third, leaves-rest}
use Rattle.synop_section.proofs.section.leave.Statement.{statement}
use Rattle.synop_section.proofs.section.leave.Tie as tie

pub leave_spec : {M : Type 1} → statement M
leave_spec =
    tie.close
    (tie.spec
    (λ c κs. search rules) (λ c. search rules) (λ c κs. search rules)
    (λ c. let a = c.args in leaves-owed a.g.now a.start a.end a.needs a.place a.count (rw c.musts_of-must.ensures at c.is_owed.ensures) c.if-is_owed.true)
    (λ c κs. search rules)
    (λ c. let a = c.args in leaves-third a.g.now a.start a.end a.needs a.place a.count (rw c.musts_of-must.ensures at c.is_owed.ensures) c.if-is_owed.false (sym c.is_section3.ensures ∙ c.if-is_section3.true))
    (λ c. let a = c.args in leaves-rest a.g.now a.start a.end a.needs a.place a.count (rw c.musts_of-must.ensures at c.is_owed.ensures) c.if-is_owed.false (sym c.is_section3.ensures ∙ c.if-is_section3.false)))
