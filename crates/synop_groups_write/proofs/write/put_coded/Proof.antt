-- `synop_groups_write::write::put_coded` meets its contract: the parts are put one after the other.
-- Assumes nothing.
use borrow.Author.Rules.{rules}
use Rattle.figures.proofs.Puts.{then}
use Rattle.text.proofs.Writes.{write-group}
use Rattle.synop_groups_write.proofs.write.put_coded.Statement.{statement}
use Rattle.synop_groups_write.proofs.write.put_coded.Tie as tie

pub put_coded_spec : {M : Type 1} → statement M
put_coded_spec =
    tie.close
    (tie.spec
    (λ c κs. tt) (λ c κs. tt) (λ c κs. tt) (λ c. search rules)
    (λ c.
    let second = c in
    let first = second in
    let opened = first in
    write-group opened.open_group-opened.ensures (then first.put_text-begun.ensures second.put_number.ensures)))
