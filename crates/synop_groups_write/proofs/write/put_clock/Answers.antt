-- Case by case.
use Rattle.figures.specs.Figures.{number_text}
use Rattle.text.proofs.Writes.{write-none}
use Rattle.synop_groups.specs.Shows.{show_clock}
use Rattle.synop_groups_write.proofs.write.put_clock.Goals as goal

pub returns-in-None : goal.returns-in-None
unfolding show_clock
returns-in-None c = rw c.in-None.is (write-none _ _)

pub returns-in-Some : goal.returns-in-Some
unfolding show_clock number_text
returns-in-Some c = rw c.in-Some.is c.put_two.ensures
