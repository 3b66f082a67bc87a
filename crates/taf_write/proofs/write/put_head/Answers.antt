-- Of the first eight places a change's part has its period alone, and none under FM.
use Rattle.taf_write.proofs.Writing.{under-change, under-from}
use Rattle.taf_write.proofs.write.put_head.Goals as goal

pub returns-in-Changing : goal.returns-in-Changing
returns-in-Changing c = rw c.in-Changing.is (under-change _ _ (rw c.change_form.ensures at c.put_valid.ensures))

pub returns-in-From : goal.returns-in-From
returns-in-From c = rw c.in-From.is (under-from _ _)
