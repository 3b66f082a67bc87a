-- `synop_groups_write::write::put_pressure` meets its contract, case by case.
-- Assumes nothing.
use borrow.Author.Rules.{rules}
use Rattle.figures.specs.Figures.{number_text}
use Rattle.text.proofs.Writes.{write-none}
use Rattle.synop_groups.specs.Shows.{show_pressure}
use Rattle.synop_groups_write.proofs.write.put_pressure.Statement.{statement}
use Rattle.synop_groups_write.proofs.write.put_pressure.Tie as tie

pub put_pressure_spec : {M : Type 1} → statement M
put_pressure_spec =
    tie.close
    (tie.spec
    (λ c. search rules) (λ c. search rules) (λ c κs. tt)
    (λ c. unfold show_pressure in rw c.in-None.is (write-none _ _))
    (λ c. search rules)
    (λ c. unfold show_pressure number_text in rw c.in-Some.is c.put_coded.ensures))
