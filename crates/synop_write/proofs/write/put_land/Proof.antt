-- `synop_write::write::put_land` meets its contract: the groups are put one after the other.
-- Assumes nothing.
use borrow.Author.Rules.{rules}
use Rattle.text.proofs.Writes.{write-groups}
use Rattle.synop_write.proofs.write.put_land.Statement.{statement}
use Rattle.synop_write.proofs.write.put_land.Tie as tie

pub put_land_spec : {M : Type 1} → statement M
put_land_spec =
    tie.close
    (tie.spec
    (λ c κs. tt) (λ c κs. tt) (λ c κs. tt) (λ c. search rules)
    (λ c. write-groups _ _ c.put_group-named.ensures (write-groups _ _ c.put_time-timed.ensures c.put_station.ensures)))
