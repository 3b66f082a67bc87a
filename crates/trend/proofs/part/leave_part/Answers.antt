-- What the change lacks is asked of it.
use Rattle.std.proofs.Common.{refl}
use Rattle.trend.proofs.part.leave_part.Goals as goal

pub returns : goal.returns
returns c = (refl, rw (c.lacks-lacking.ensures, c.is_change.ensures) at c.meet_word-next.ensures)
