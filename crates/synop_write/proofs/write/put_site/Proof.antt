-- `synop_write::write::put_site` meets its contract, by the kind.
-- Assumes nothing.
use borrow.Author.Rules.{rules}
use Rattle.synop.specs.Write.{site_groups}
use Rattle.synop_write.proofs.write.put_site.Statement.{statement}
use Rattle.synop_write.proofs.write.put_site.Tie as tie

pub put_site_spec : {M : Type 1} → statement M
put_site_spec =
    tie.close
    (tie.spec
    (λ c κs. tt) (λ c κs. tt) (λ c. search rules)
    (λ c. unfold site_groups in rw c.if-ship.true c.put_ship.ensures)
    (λ c. search rules)
    (λ c. unfold site_groups in rw c.if-ship.false c.put_land.ensures))
