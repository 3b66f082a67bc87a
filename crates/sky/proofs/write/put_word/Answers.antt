-- The word is put after what opens its group.
use Rattle.text.proofs.Writes.{write-group}
use Rattle.sky.proofs.write.put_word.Goals as goal

pub returns : goal.returns
returns c = write-group c.open_group-opened.ensures c.put_text.ensures
