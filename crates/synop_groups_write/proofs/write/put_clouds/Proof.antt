-- `synop_groups_write::write::put_clouds` meets its contract, by its test.
-- Assumes nothing.
use borrow.Author.Rules.{rules}
use Rattle.text.proofs.Writes.{write-none}
use Rattle.synop_groups.specs.Shows.{show_clouds}
use Rattle.synop_groups_write.proofs.write.put_clouds.Statement.{statement}
use Rattle.synop_groups_write.proofs.write.put_clouds.Tie as tie

pub put_clouds_spec : {M : Type 1} → statement M
put_clouds_spec =
    tie.close
    (tie.spec
    (λ c κs. tt) (λ c κs. tt)
    (λ c. unfold show_clouds in rw (← c.is_blank.ensures, c.if-is_blank.true) (write-none _ _))
    (λ c. search rules)
    (λ c.
    let d = c in
    let e = d in
    unfold show_clouds in
    rw (← e.is_blank.ensures, d.if-is_blank.false) c.put_clouds_group.ensures))
