-- What follows depends on what the observation owes, whichever it is.
use Rattle.metar.proofs.read.follow.Goals as goal

pub returns-in-Over : goal.returns-in-Over
returns-in-Over c = λ o. rw (c.in-Over.is, c.after_groups.ensures o)
