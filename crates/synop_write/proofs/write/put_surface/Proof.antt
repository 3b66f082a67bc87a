-- `synop_write::write::put_surface` meets its contract: the groups are put one after the other.
-- Assumes nothing.
use borrow.Author.Rules.{rules}
use Rattle.text.proofs.Writes.{write-groups}
use Rattle.synop.specs.Write.{surface_groups}
use Rattle.synop_write.proofs.write.put_surface.Statement.{statement}
use Rattle.synop_write.proofs.write.put_surface.Tie as tie

pub put_surface_spec : {M : Type 1} → statement M
put_surface_spec =
    tie.close
    (tie.spec
    (λ c κs. tt) (λ c κs. tt) (λ c κs. tt) (λ c κs. tt) (λ c. search rules)
    (λ c.
    unfold surface_groups in
    write-groups _ _ c.put_indicators-indicated.ensures
    (write-groups _ _ c.put_wind-blown.ensures (rw c.needs_of-needs.ensures at c.put_section.ensures))))
