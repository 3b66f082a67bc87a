-- `synop_groups_write::write::put_moisture` meets its contract, case by case.
-- Assumes nothing.
use borrow.Author.Rules.{rules}
use mir.Syntax.{w32}
use mir.ValLaws.{to_z-of_z}
use Rattle.figures.specs.Figures.{number_text}
use Rattle.text.proofs.Writes.{write-none}
use Rattle.synop_groups.specs.Shows.{show_moisture}
use Rattle.synop_groups_write.proofs.write.put_moisture.Statement.{statement}
use Rattle.synop_groups_write.proofs.write.put_moisture.Tie as tie

pub put_moisture_spec : {M : Type 1} → statement M
put_moisture_spec =
    tie.close
    (tie.spec
    (λ c. search rules) (λ c. search rules) (λ c κs. tt) (λ c. search rules) (λ c κs. tt)
    (λ c. unfold show_moisture in rw c.in-Missing.is (write-none _ _))
    (λ c. search rules)
    (λ c.
    let d = c in
    let back = to_z-of_z w32 d.in-DewPoint.t (search rules) in
    unfold show_moisture in
    rw d.in-DewPoint.is (rw back at c.put_signed.ensures))
    (λ c. search rules)
    (λ c. unfold show_moisture number_text in rw c.in-Humidity.is c.put_coded.ensures))
