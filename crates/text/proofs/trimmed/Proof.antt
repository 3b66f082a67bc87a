-- `text::trimmed` meets its contract: each return is the part from `trimmed_start` up to `trimmed_end`, by its cases.
-- Assumes nothing.
use mathlib.Core.Path.{◌∙◌}
use native.Mathlib.Nat.{zero-add}
use borrow.Author.Rules.{rules}
use Rattle.text.proofs.Texts.{trimmed-none, trimmed-start, trimmed-equals, trimmed-last}
use Rattle.text.proofs.trimmed.Statement.{statement}
use Rattle.text.proofs.trimmed.Tie as tie

pub trimmed_spec : {M : Type 1} → statement M
trimmed_spec =
    tie.close
    (tie.spec
    (λ c κs. search rules) (λ c κs. search rules) (λ c κs. search rules)
    (λ c.
    let d = c in
    let none = trimmed-none d.args.text.now _ d.find_equals-equals.ensures _ (d.reach-start.ensures ∙ zero-add _) c.if-equals-start.true in
    rw (none.0, none.1) c.no_part.ensures)
    (λ c. search rules) (λ c κs. search rules) (λ c κs. search rules) (λ c κs. search rules)
    (λ c.
    let d = c in
    let text = d.args.text.now in
    let equals = d.find_equals-equals.ensures in
    let first = d.reach-start.ensures ∙ zero-add _ in
    rw (trimmed-start text _ equals _ first c.if-equals-start.false, trimmed-equals text _ equals _ first c.if-equals-start.false c.if-equals-text.true)
    c.part_at.ensures)
    (λ c.
    let d = c in
    let text = d.args.text.now in
    let equals = d.find_equals-equals.ensures in
    let first = d.reach-start.ensures ∙ zero-add _ in
    rw (trimmed-start text _ equals _ first c.if-equals-start.false, trimmed-last text _ equals _ first c.if-equals-start.false c.if-equals-text.false, ← c.find_last_end.ensures)
    c.part_at-else-equals-text.ensures))
