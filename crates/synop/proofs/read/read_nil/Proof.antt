-- `read::read_nil` meets its contract.
-- Assumes nothing.
use borrow.Author.Rules.{rules}
use mathlib.Core.Path.{sym, ◌∙◌}
use Rattle.text.proofs.Groups.{when-group, when-end}
use Rattle.synop.proofs.TextSteps.{nil-then, nil-over}
use Rattle.synop.proofs.read.read_nil.Statement.{statement}
use Rattle.synop.proofs.read.read_nil.Tie as tie

pub read_nil_spec : {M : Type 1} → statement M
read_nil_spec =
    tie.close
    (tie.spec
    (λ c κs. search rules) (λ c. search rules) (λ c κs. search rules) (λ c. search rules) (λ c κs. search rules) (λ c. search rules)
    (λ c κs. search rules) (λ c. search rules) (λ c κs. search rules)
    (λ c.
    let a = c.args in
    c.refuse.ensures ∙ nil-then a.text.now a.at a.report _ _ (when-group _ _ _ _ (sym c.in-Group.is ∙ c.next_group-next.ensures)))
    (λ c.
    let a = c.args in
    c.refuse-in-Some.ensures
    ∙ nil-over a.text.now a.at a.report _ (when-end _ _ _ (sym c.in-End.is ∙ c.next_group-next.ensures)) (sym c.in-Some.is ∙ c.tail-tail.ensures))
    (λ c.
    let a = c.args in
    c.accept.ensures
    ∙ nil-over a.text.now a.at a.report _ (when-end _ _ _ (sym c.in-End.is ∙ c.next_group-next.ensures)) (sym c.in-None.is ∙ c.tail-tail.ensures)))
