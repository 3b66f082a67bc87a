-- The layer of this iteration is the next of the first `count`.
use Rattle.std.proofs.Common.{take, length, arith}
use Rattle.std.proofs.lemmas.Iterator.{YieldsList-from_slice, YieldsList-from_take}
use Rattle.std.proofs.lemmas.Iterator.Consumers.{YieldsList-turn, YieldsList-end}
use Rattle.std.proofs.lemmas.List.{length_push}
use Rattle.std.proofs.lemmas.Result.{err_from_is_err_and}
use lib.ListN.{drop_of_length-le}
use Rattle.figures.proofs.Loops.{next_of}
use Rattle.sky.proofs.Judging.{start, finish, halt, on}
use Rattle.sky.proofs.judge.judge_layers.Goals as goal

pub loop-l-init : goal.loop-l-init
loop-l-init c = start _ _ _

pub returns-in_err-judge_layer : goal.returns-in_err-judge_layer
returns-in_err-judge_layer c =
    let first = take c.args.count c.args.layers in
    let turn = YieldsList-turn (YieldsList-from_take c.args.count (YieldsList-from_slice c.args.layers (cc)) (cc)) c.loop-l.yielded _ c.loop-l.yielded_by _ _ c.in-Some.l c.in-Some.is c.next.ensures.steps in
    let judgement = rw c.written_height-height.ensures at c.judge_layer.ensures in
    let p = err_from_is_err_and c.from_residual.result c.from_residual.ensures.1 in
    rw (p.1, p.2)
    (halt c.args.forecast c.args.beside c.in-Some.l.now (rw (next_of first (length c.loop-l.yielded) c.in-Some.l.now turn) at c.loop-l.invariant) judgement c.in_err-judge_layer.was)

pub loop-l-preserved : goal.loop-l-preserved
loop-l-preserved c =
    let first = take c.args.count c.args.layers in
    let turn = YieldsList-turn (YieldsList-from_take c.args.count (YieldsList-from_slice c.args.layers (cc)) (cc)) c.loop-l.yielded _ c.loop-l.yielded_by _ _ c.in-Some.l c.in-Some.is c.next.ensures.steps in
    let judgement = rw c.written_height-height.ensures at c.judge_layer.ensures in
    rw (length_push c.loop-l.yielded c.in-Some.l, c.last_height-last.ensures, c.written_height-height.ensures)
    (on c.args.forecast c.args.beside c.in-Some.l.now (rw (next_of first (length c.loop-l.yielded) c.in-Some.l.now turn) at c.loop-l.invariant) judgement c.in_ok-judge_layer.was)

pub returns : goal.returns
returns c =
    let first = take c.args.count c.args.layers in
    let end = YieldsList-end (YieldsList-from_take c.args.count (YieldsList-from_slice c.args.layers (cc)) (cc)) c.loop-l.yielded _ c.loop-l.yielded_by _ _ c.in-None.is c.next.ensures.steps in
    finish _ _ (rw (drop_of_length-le first {i = length c.loop-l.yielded} (omega (arith, end.1))) at c.loop-l.invariant)
