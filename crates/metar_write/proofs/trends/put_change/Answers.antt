-- Its word, its times and then its body.
use Rattle.std.proofs.Common.{true, false}
use Rattle.text.proofs.Writes.{write-groups}
use Rattle.metar_write.proofs.Writing.{change-in-parts}
use Rattle.metar_write.proofs.trends.put_change.Goals as goal

pub returns : goal.returns
returns c =
    rw (change-in-parts c.args.c)
    (write-groups _ _ c.put_word-opened.ensures (write-groups _ _ c.put_times-timed.ensures (c.put_body.ensures false true false false)))
