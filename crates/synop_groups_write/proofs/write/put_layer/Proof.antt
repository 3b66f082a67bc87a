-- `synop_groups_write::write::put_layer` meets its contract: the parts are put one after the other.
-- Assumes nothing.
use borrow.Author.Rules.{rules}
use Rattle.figures.proofs.Puts.{then}
use Rattle.text.proofs.Writes.{write-group}
use Rattle.synop_groups.specs.Shows.{show_layer}
use Rattle.synop_groups_write.proofs.write.put_layer.Statement.{statement}
use Rattle.synop_groups_write.proofs.write.put_layer.Tie as tie

pub put_layer_spec : {M : Type 1} → statement M
put_layer_spec =
    tie.close
    (tie.spec
    (λ c κs. tt) (λ c κs. tt) (λ c κs. tt) (λ c κs. tt) (λ c κs. tt) (λ c κs. tt) (λ c. search rules)
    (λ c.
    let fourth = c in
    let third = fourth in
    let second = third in
    let first = second in
    let opened = first in
    unfold show_layer in
    rw fourth.height_field.ensures
    at (write-group opened.open_group-opened.ensures
    (then (then (then first.put_byte-begun.ensures second.put_part-covered.ensures) third.put_part-named.ensures) fourth.put_field.ensures))))
