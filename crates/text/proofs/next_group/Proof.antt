-- `text::next_group` meets its contract: each return is one of the four cases of `next_of`.
-- Assumes nothing.
use borrow.Author.Rules.{rules}
use mathlib.Core.Path.{sym, ap, ◌∙◌}
use Rattle.text.specs.declared.kinds.Cut.TheVariants.{Group}
use Rattle.text.proofs.Groups.{next_past, next-end, next-stop, next-group}
use Rattle.text.proofs.next_group.Statement.{statement}
use Rattle.text.proofs.next_group.Tie as tie

pub next_group_spec : {M : Type 1} → statement M
next_group_spec =
    tie.close
    (tie.spec
    (λ c. sym (next_past c.args.text.now _ c.if-text-at.true))
    (λ c κs. search rules)
    (λ c.
    let a = c.args in
    sym (next-end a.text.now a.at _ c.if-text-at.false c.reach-start.ensures c.if-text-start.true))
    (λ c. search rules) (λ c κs. search rules) (λ c κs. search rules)
    (λ c.
    let d = c in
    let a = d.args in
    ap (Group d.reach-start.result) c.reach-end.ensures
    ∙ sym (next-group a.text.now a.at _ d.if-text-at.false d.reach-start.ensures d.if-text-start.false (sym c.is_inner.ensures ∙ c.if-is_inner.true)))
    (λ c.
    let d = c in
    let a = d.args in
    sym (next-stop a.text.now a.at _ d.if-text-at.false d.reach-start.ensures d.if-text-start.false (sym c.is_inner.ensures ∙ c.if-is_inner.false))))
