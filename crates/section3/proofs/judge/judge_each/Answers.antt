-- One layer more is judged, or is at fault, or none is left.
use Rattle.std.proofs.Common.{◌≡◌, length, arith, rules}
use Rattle.std.proofs.lemmas.Result.{err_from_is_err_and}
use Rattle.section3.proofs.Judging.{each_next, each-stop, each-end}
use Rattle.section3.proofs.judge.judge_each.Goals as goal

pub returns-in_err-judge : goal.returns-in_err-judge
returns-in_err-judge c =
    let items = c.args.layers.items in
    let four : length items ≡ 4 = search rules in
    let p = err_from_is_err_and c.from_residual.result c.from_residual.ensures.1 in
    rw (p.1, p.2)
    (each-stop items c.args.n (omega (arith, four, c.requires)) c.loop-i.i c.loop-i.invariant _ (omega arith) (rw (c.layer_fits.ensures, c.may_follow.ensures) at c.judge.ensures) c.in_err-judge.was)

pub loop-i-preserved : goal.loop-i-preserved
loop-i-preserved c =
    let items = c.args.layers.items in
    let four : length items ≡ 4 = search rules in
    each_next items c.args.n (omega (arith, four, c.requires)) c.loop-i.i c.loop-i.invariant _ (omega arith) (rw (c.layer_fits.ensures, c.may_follow.ensures) at c.judge.ensures) c.in_ok-judge.was

pub returns : goal.returns
returns c =
    let items = c.args.layers.items in
    let four : length items ≡ 4 = search rules in
    each-end items c.args.n (omega (arith, four, c.requires)) c.loop-i.i c.loop-i.invariant (omega arith)
