-- In the place of layers nothing is put where there are layers.
use Rattle.text.proofs.Writes.{write-none}
use Rattle.sky.proofs.write.put_cover.Goals as goal

pub returns-in-Layers : goal.returns-in-Layers
returns-in-Layers c = rw c.in-Layers.is (write-none _ _)
