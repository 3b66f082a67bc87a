-- The cover and then the layers.
use Rattle.text.proofs.Writes.{write-groups}
use Rattle.elements.specs.Sky.{show_sky}
use Rattle.sky.proofs.write.put_sky.Goals as goal

pub returns : goal.returns
unfolding show_sky
returns c = write-groups _ _ c.put_cover-covered.ensures c.put_layers.ensures
