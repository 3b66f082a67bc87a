-- By the verdict.
use Rattle.std.proofs.Common.{◌≡◌, ◌∙◌, Err, sym, refl, arith}
use Rattle.std.proofs.lemmas.Grind.{common_steps}
use Rattle.places.proofs.Delivered.{delivered, not-delivered}
use Rattle.taf.specs.Write.{canonical_of, written_in, buffer_in}
use Rattle.taf_write.proofs.Writing.{own-fine}
use Rattle.taf_write.proofs.write.write_in.Goals as goal

pub returns-in_err-judge : goal.returns-in_err-judge
unfolding written_in buffer_in
returns-in_err-judge c =
    let a = c.args in
    let handed : c.from_residual.result ≡ Err c.in_err-judge.field-0.0 = grind (arith, common_steps) in
    rw handed (not-delivered (canonical_of a.t) a.out.now (sym c.judge.ensures ∙ c.in_err-judge.was))

pub write_fine-requires : goal.write_fine-requires
write_fine-requires c = own-fine c.args.edition c.args.t (sym c.judge.ensures ∙ c.in_ok-judge.was)

pub returns : goal.returns
unfolding written_in buffer_in
returns c = delivered c.args.out.now (sym c.judge.ensures ∙ c.in_ok-judge.was) refl c.write_fine.ensures
