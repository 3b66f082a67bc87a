-- Its own part is written, where the others are blank.
use Rattle.metar.specs.Write.{judge_of, canonical_of, written_of, buffer_of}
use Rattle.report.proofs.Writes.{own-written}
use Rattle.report.proofs.write_observed.Goals as goal

pub returns-then-is_blank : goal.returns-then-is_blank
unfolding written_of buffer_of
returns-then-is_blank c e =
    let r = c.args.report in
    own-written (judge_of r.observed) (canonical_of r.observed) c.args.out.now _ _ c.is_blank.ensures c.is_blank-2.ensures c.if-is_blank.true c.write.ensures
