-- `synop_groups_write::write::put_level` meets its contract, case by case.
-- Assumes nothing.
use borrow.Author.Rules.{rules}
use Rattle.figures.specs.Figures.{number_text}
use Rattle.text.proofs.Writes.{write-none}
use Rattle.synop_groups.specs.Shows.{show_level}
use Rattle.synop_groups_write.proofs.write.put_level.Statement.{statement}
use Rattle.synop_groups_write.proofs.write.put_level.Tie as tie

pub put_level_spec : {M : Type 1} → statement M
put_level_spec =
    tie.close
    (tie.spec
    (λ c. search rules) (λ c. search rules) (λ c κs. tt) (λ c. search rules) (λ c κs. tt)
    (λ c. unfold show_level in rw c.in-Missing.is (write-none _ _))
    (λ c. search rules)
    (λ c. unfold show_level number_text in rw c.in-Pressure.is c.put_coded.ensures)
    (λ c. search rules)
    (λ c. unfold show_level number_text in rw c.in-Isobaric.is c.put_two.ensures))
