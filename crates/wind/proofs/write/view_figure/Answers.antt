-- What is out of range is 10,000 m or more.
use Rattle.wind.proofs.VisibilityLaws.{figure-or-far}
use Rattle.wind.proofs.write.view_figure.Goals as goal

pub returns : goal.returns
returns c = rw (c.unwrap_or.ensures, c.visibility_figure.ensures) (figure-or-far _)
