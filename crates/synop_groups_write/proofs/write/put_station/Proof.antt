-- `synop_groups_write::write::put_station` meets its contract: the parts are put one after the other.
-- Assumes nothing.
use borrow.Author.Rules.{rules}
use Rattle.text.proofs.Writes.{write-group}
use Rattle.synop_groups.specs.Shows.{show_station}
use Rattle.synop_groups_write.proofs.write.put_station.Statement.{statement}
use Rattle.synop_groups_write.proofs.write.put_station.Tie as tie

pub put_station_spec : {M : Type 1} → statement M
put_station_spec =
    tie.close
    (tie.spec
    (λ c κs. tt) (λ c κs. tt) (λ c. search rules)
    (λ c. unfold show_station in write-group c.open_group-opened.ensures c.put_part.ensures))
