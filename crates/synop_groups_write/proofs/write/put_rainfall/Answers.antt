-- Case by case.
use Rattle.synop_groups.specs.Shows.{show_rainfall}
use Rattle.synop_groups_write.proofs.write.put_rainfall.Goals as goal

pub returns-in-None : goal.returns-in-None
unfolding show_rainfall
returns-in-None c = rw c.in-None.is c.put_if.ensures

pub returns-in-Some : goal.returns-in-Some
unfolding show_rainfall
returns-in-Some c = rw c.in-Some.is c.put_fall.ensures
