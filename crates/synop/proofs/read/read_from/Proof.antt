-- `read::read_from` meets its contract: a ship's call sign, then the groups known by position of a ship's report or a land station's.
-- Assumes nothing.
use borrow.Author.Rules.{rules}
use mathlib.Core.Path.{sym, ◌∙◌}
use Rattle.text.proofs.Groups.{Follows, when-group, when-end}
use Rattle.synop.proofs.TextSteps.{sign-over, sign-other, sign-stands, land-walks}
use Rattle.synop.proofs.read.read_from.Lts.{then-ship+in-Group+then-is_call_sign, else-ship}
use Rattle.synop.proofs.read.read_from.Statement.{statement}
use Rattle.synop.proofs.read.read_from.Tie as tie

-- past the next group's cut
follows : (c : tie.In-Group) → Follows c.args.text.now c.args.at c.in-Group.start c.in-Group.end
follows c = when-group _ _ _ _ (sym c.in-Group.is ∙ c.next_group.ensures)

pub read_from_spec : {M : Type 1} → statement M
read_from_spec =
    tie.close
    (tie.spec
    (λ c κs. search rules) (λ c κs. search rules) (λ c. search rules) (λ c. search rules) (λ c κs. search rules)
    (λ c. c.end_short.ensures ∙ sign-over _ _ _ c.if-ship.true (when-end _ _ _ (sym c.in_default.is ∙ c.next_group.ensures)))
    (λ c κs. search rules) (λ c κs. search rules) (λ c κs. search rules) (λ c κs. search rules)
    (λ c. c.refuse.ensures ∙ sign-other _ _ _ _ _ c.if-ship.true (follows c.before.before.before.before) c.part-g.ensures (sym c.is_call_sign.ensures ∙ c.if-is_call_sign.false))
    (λ c κs. search rules)
    (λ c.
    c.read_posts.ensures
    ∙ elim c.if-ship.branch [
      | then-ship+in-Group+then-is_call_sign w ↦ sign-stands _ _ _ _ _ w.if-ship.true (when-group _ _ _ _ (sym w.in-Group.is ∙ w.next_group.ensures)) w.part-g.ensures (sym w.is_call_sign.ensures ∙ w.if-is_call_sign.true) c.begin-report.ensures w.sign_of-sign.ensures w.report-is w.from-is
      | else-ship w ↦ land-walks _ _ _ w.if-ship.false c.begin-report.ensures w.report-is w.from-is
    ]))
