-- Every figure that is written has a reading.
use Rattle.sky.proofs.Heights.{foot-told}
use Rattle.sky.proofs.judge.written_height.Goals as goal

pub returns : goal.returns
returns c = rw (c.in_ok-h.was, c.cloud_reading.ensures, c.cloud_number.ensures) (foot-told _)
