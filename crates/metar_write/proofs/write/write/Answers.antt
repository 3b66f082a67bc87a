-- A record that is refused leaves the lent buffer as it is.
use Rattle.std.proofs.Common.{sym, ◌∙◌}
use Rattle.std.proofs.lemmas.Result.{err_from_is_err_and}
use Rattle.places.proofs.Delivered.{not-delivered}
use Rattle.metar.specs.Write.{canonical_of, written_of, buffer_of}
use Rattle.metar_write.proofs.write.write.Goals as goal

pub returns-in_err-judge : goal.returns-in_err-judge
unfolding written_of buffer_of
returns-in_err-judge c =
    let p = err_from_is_err_and c.from_residual.result c.from_residual.ensures.1 in
    rw (p.1, p.2) (not-delivered (canonical_of c.args.r) c.args.out.now (sym c.judge.ensures ∙ c.in_err-judge.was))
