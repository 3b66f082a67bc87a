-- `synop_groups_write::write::put_latitude` meets its contract: a coded group.
-- Assumes nothing.
use borrow.Author.Rules.{rules}
use Rattle.figures.specs.Figures.{number_text}
use Rattle.synop_groups.specs.Shows.{show_latitude}
use Rattle.synop_groups_write.proofs.write.put_latitude.Statement.{statement}
use Rattle.synop_groups_write.proofs.write.put_latitude.Tie as tie

pub put_latitude_spec : {M : Type 1} → statement M
put_latitude_spec =
    tie.close
    (tie.spec
    (λ c κs. tt) (λ c κs. tt) (λ c. search rules)
    (λ c. unfold show_latitude number_text in rw c.magnitude_of.ensures at c.put_coded.ensures))
