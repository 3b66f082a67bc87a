-- `section3::write::put_section3` meets its contract: the groups are put one after the other.
-- Assumes nothing.
use borrow.Author.Rules.{rules}
use mathlib.Core.List.{append-nil, map}
use lib.ListN.{take}
use Rattle.text.proofs.Writes.{write-groups}
use Rattle.synop_groups.specs.Shows.{show_layer}
use Rattle.section3.specs.Row.{show_layers, row}
use Rattle.section3.specs.Write.{show_section3}
use Rattle.section3.proofs.write.put_section3.Statement.{statement}
use Rattle.section3.proofs.write.put_section3.Tie as tie

pub put_section3_spec : {M : Type 1} → statement M
put_section3_spec =
    tie.close
    (tie.spec
    (λ c κs. search rules) (λ c κs. search rules) (λ c κs. search rules) (λ c κs. search rules) (λ c κs. search rules) (λ c. search rules)
    (λ c.
    let s = c.args.s in
    unfold show_section3 row show_layers in
    rw (append-nil (map show_layer (take s.layers.count s.layers.items)))
    (write-groups _ _ (rw c.is_silent.ensures at c.put_if-opened.ensures)
    (write-groups _ _ c.put_air-highest.ensures (write-groups _ _ c.put_minimum-lowest.ensures c.put_layers.ensures)))))
