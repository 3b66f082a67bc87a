-- The main part alone, or with the changes read ahead.
use Rattle.std.proofs.Common.{◌∙◌}
use Rattle.taf.proofs.Turns.{main-ends, main-goes}
use Rattle.taf.proofs.read.read_from_in.Goals as goal

pub returns-in-End : goal.returns-in-End
returns-in-End c = c.answer_alone.ensures ∙ main-ends (rw c.blank_leg.ensures at c.read_part-read.ensures) c.in-End.is

pub returns-in-Change : goal.returns-in-Change
returns-in-Change c = c.answer_all.ensures ∙ main-goes (rw c.blank_leg.ensures at c.read_part-read.ensures) c.in-Change.is c.read_change.ensures
