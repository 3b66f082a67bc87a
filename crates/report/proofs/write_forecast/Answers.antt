-- Its own part is written, where the others are blank.
use Rattle.taf.specs.Write.{judge_in, canonical_of, written_in, buffer_in}
use Rattle.report.proofs.Writes.{own-written}
use Rattle.report.proofs.write_forecast.Goals as goal

pub returns-then-is_blank : goal.returns-then-is_blank
unfolding written_in buffer_in
returns-then-is_blank c =
    let r = c.args.report in
    own-written (judge_in c.args.edition r.forecast) (canonical_of r.forecast) c.args.out.now _ _ c.is_blank.ensures c.is_blank-2.ensures c.if-is_blank.true c.write_in.ensures
