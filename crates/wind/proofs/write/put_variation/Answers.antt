-- Nothing is put where there is no variation.
use Rattle.text.proofs.Writes.{write-none}
use Rattle.elements.specs.Wind.{show_variation}
use Rattle.wind.proofs.write.put_variation.Goals as goal

pub returns-in-None : goal.returns-in-None
unfolding show_variation
returns-in-None c = rw c.in-None.is (write-none _ _)
