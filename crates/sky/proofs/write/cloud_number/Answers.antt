-- The last class is open above.
use Rattle.sky.proofs.Heights.{number-or-last}
use Rattle.sky.proofs.write.cloud_number.Goals as goal

pub returns : goal.returns
returns c = rw (c.unwrap_or.ensures, c.cloud_figure.ensures) (number-or-last _)
