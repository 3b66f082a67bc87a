-- `text::part_at` meets its contract: the part that is cut where there is one, and the empty part at the end elsewhere.
-- Assumes nothing.
use mathlib.Core.Path.{refl}
use borrow.Author.Rules.{rules}
use lib.ListN.{length}
use Rattle.text.proofs.Parts.{ends-early, ends-late, cut_at, no-part-at}
use Rattle.text.proofs.part_at.Statement.{statement}
use Rattle.text.proofs.part_at.Lts.{then-start-end+else-end-text, else-start-end}
use Rattle.text.proofs.part_at.Tie as tie

pub part_at_spec : {M : Type 1} → statement M
part_at_spec =
    tie.close
    (tie.spec
    (λ c. search rules) (λ c. search rules)
    (λ c. cut_at _ _ _ _ c.if-start-end.true c.if-end-text.true refl refl refl)
    (λ c κs. search rules)
    (λ c.
    let a = c.args in
    let n = length a.text.now in
    no-part-at a.text c.no_part.result a.start a.end
    (elim c.if-start-end.branch [
      | then-start-end+else-end-text w ↦ ends-late n a.start a.end w.if-start-end.true w.if-end-text.false
      | else-start-end w ↦ ends-early n a.start a.end w.if-start-end.false
    ]) c.no_part.ensures))
