-- `synop_groups_write::write::put_air` meets its contract, case by case.
-- Assumes nothing.
use borrow.Author.Rules.{rules}
use mir.Syntax.{w32}
use mir.ValLaws.{to_z-of_z}
use Rattle.text.proofs.Writes.{write-none}
use Rattle.synop_groups.specs.Shows.{show_air}
use Rattle.synop_groups_write.proofs.write.put_air.Statement.{statement}
use Rattle.synop_groups_write.proofs.write.put_air.Tie as tie

pub put_air_spec : {M : Type 1} → statement M
put_air_spec =
    tie.close
    (tie.spec
    (λ c. search rules) (λ c. search rules) (λ c κs. tt)
    (λ c. unfold show_air in rw c.in-None.is (write-none _ _))
    (λ c. search rules)
    (λ c.
    let d = c in
    let back = to_z-of_z w32 d.in-Some.t (search rules) in
    unfold show_air in
    rw d.in-Some.is (rw back at c.put_signed.ensures)))
