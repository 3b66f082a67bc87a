-- The change of this iteration is the next of the first `count`.
use Rattle.std.proofs.Common.{◌≡◌, ◌∙◌, Err, sym, refl, take, length, arith}
use Rattle.std.proofs.lemmas.Iterator.{YieldsList-from_slice, YieldsList-from_take}
use Rattle.std.proofs.lemmas.Iterator.Consumers.{YieldsList-turn, YieldsList-end}
use Rattle.std.proofs.lemmas.Grind.{common_steps}
use Rattle.std.proofs.lemmas.List.{length_push}
use lib.ListN.{drop_of_length-le}
use Rattle.figures.proofs.Loops.{next_of}
use Rattle.taf_write.proofs.judge.judge_each.Goals as goal

pub loop-change-init : goal.loop-change-init
loop-change-init c = refl

pub returns-in_err-judge_change : goal.returns-in_err-judge_change
returns-in_err-judge_change c =
    let first = take c.args.count c.args.items.now in
    let turn = YieldsList-turn (YieldsList-from_take c.args.count (YieldsList-from_slice c.args.items.now (cc)) (cc)) c.loop-change.yielded _ c.loop-change.yielded_by _ _ c.in-Some.field-0 c.in-Some.is c.next.ensures.steps in
    let left = rw (next_of first (length c.loop-change.yielded) c.in-Some.field-0.now turn) at c.loop-change.invariant in
    let handed : c.from_residual.result ≡ Err c.in_err-judge_change.field-0.0 = grind (arith, common_steps) in
    handed ∙ sym (rw (← c.judge_change.ensures, c.in_err-judge_change.was) at left)

pub loop-change-preserved : goal.loop-change-preserved
loop-change-preserved c =
    let first = take c.args.count c.args.items.now in
    let turn = YieldsList-turn (YieldsList-from_take c.args.count (YieldsList-from_slice c.args.items.now (cc)) (cc)) c.loop-change.yielded _ c.loop-change.yielded_by _ _ c.in-Some.field-0 c.in-Some.is c.next.ensures.steps in
    let left = rw (next_of first (length c.loop-change.yielded) c.in-Some.field-0.now turn) at c.loop-change.invariant in
    rw (length_push c.loop-change.yielded c.in-Some.field-0) (rw (← c.judge_change.ensures, c.in_ok-judge_change.was) at left)

pub returns : goal.returns
returns c =
    let first = take c.args.count c.args.items.now in
    let end = YieldsList-end (YieldsList-from_take c.args.count (YieldsList-from_slice c.args.items.now (cc)) (cc)) c.loop-change.yielded _ c.loop-change.yielded_by _ _ c.in-None.is c.next.ensures.steps in
    sym (rw (drop_of_length-le first {i = length c.loop-change.yielded} (omega (arith, end.1))) at c.loop-change.invariant)
