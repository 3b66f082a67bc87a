-- The verdict at the text's end.
use Rattle.metar.proofs.read.after_groups.Goals as goal

pub returns : goal.returns
returns c o = rw (c.end_verdict.ensures, c.owes.ensures o)
