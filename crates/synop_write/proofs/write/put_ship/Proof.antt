-- `synop_write::write::put_ship` meets its contract: the groups are put one after the other.
-- Assumes nothing.
use borrow.Author.Rules.{rules}
use Rattle.text.proofs.Writes.{write-groups}
use Rattle.synop_write.proofs.write.put_ship.Statement.{statement}
use Rattle.synop_write.proofs.write.put_ship.Tie as tie

pub put_ship_spec : {M : Type 1} → statement M
put_ship_spec =
    tie.close
    (tie.spec
    (λ c κs. tt) (λ c κs. tt) (λ c κs. tt) (λ c κs. tt) (λ c κs. tt) (λ c. search rules)
    (λ c.
    write-groups _ _ c.put_group-named.ensures
    (write-groups _ _ c.put_sign-called.ensures
    (write-groups _ _ c.put_time-timed.ensures (write-groups _ _ c.put_latitude-placed.ensures c.put_longitude.ensures)))))
