-- Case by case; the change that the code hands on is that of its bits.
use borrow.Author.Rules.{rules}
use mir.Syntax.{w32}
use mir.ValLaws.{to_z-of_z}
use Rattle.figures.specs.Figures.{number_text}
use Rattle.text.proofs.Writes.{write-none}
use Rattle.synop_groups.specs.Shows.{show_tendency}
use Rattle.synop_groups_write.proofs.write.put_tendency.Goals as goal

pub returns-in-None : goal.returns-in-None
unfolding show_tendency
returns-in-None c = rw c.in-None.is (write-none _ _)

pub returns-in-Some : goal.returns-in-Some
unfolding show_tendency number_text
returns-in-Some c =
    let back = to_z-of_z w32 c.in-Some.field-0.change (search rules) in
    rw c.in-Some.is (rw (c.magnitude.ensures, back) at c.put_two.ensures)
