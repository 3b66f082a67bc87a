-- The state of this iteration is the next of the first n.
use Rattle.std.proofs.Common.{◌≡◌, ◌∙◌, Err, sym, refl, take, length, arith}
use Rattle.std.proofs.lemmas.Iterator.{YieldsList-from_slice, YieldsList-from_take}
use Rattle.std.proofs.lemmas.Iterator.Consumers.{YieldsList-turn, YieldsList-end}
use Rattle.std.proofs.lemmas.Grind.{common_steps}
use Rattle.std.proofs.lemmas.List.{length_push}
use lib.ListN.{drop_of_length-le}
use Rattle.figures.proofs.Loops.{next_of}
use Rattle.runway_states.proofs.judge.judge_each.Goals as goal

pub loop-s-init : goal.loop-s-init
loop-s-init c = refl

pub returns-in_err-judge : goal.returns-in_err-judge
returns-in_err-judge c =
    let turn = YieldsList-turn (YieldsList-from_take c.args.n (YieldsList-from_slice c.args.ss.items (cc)) (cc)) c.loop-s.yielded _ c.loop-s.yielded_by _ _ c.in-Some.s c.in-Some.is c.next.ensures.steps in
    let left = rw (next_of (take c.args.n c.args.ss.items) (length c.loop-s.yielded) c.in-Some.s.now turn) at c.loop-s.invariant in
    let asked = rw c.state_fits.ensures at c.judge.ensures in
    let judged : c.judge.result ≡ Err c.in_err-judge.field-0.0 = c.in_err-judge.was in
    let handed : c.from_residual.result ≡ Err c.in_err-judge.field-0.0 = grind (arith, common_steps) in
    handed ∙ sym (rw (← asked, judged) at left)

pub loop-s-preserved : goal.loop-s-preserved
loop-s-preserved c =
    let turn = YieldsList-turn (YieldsList-from_take c.args.n (YieldsList-from_slice c.args.ss.items (cc)) (cc)) c.loop-s.yielded _ c.loop-s.yielded_by _ _ c.in-Some.s c.in-Some.is c.next.ensures.steps in
    let left = rw (next_of (take c.args.n c.args.ss.items) (length c.loop-s.yielded) c.in-Some.s.now turn) at c.loop-s.invariant in
    let asked = rw c.state_fits.ensures at c.judge.ensures in
    rw (length_push c.loop-s.yielded c.in-Some.s) (rw (← asked, c.in_ok-judge.was) at left)

pub returns : goal.returns
returns c =
    let first = take c.args.n c.args.ss.items in
    let end = YieldsList-end (YieldsList-from_take c.args.n (YieldsList-from_slice c.args.ss.items (cc)) (cc)) c.loop-s.yielded _ c.loop-s.yielded_by _ _ c.in-None.is c.next.ensures.steps in
    sym (rw (drop_of_length-le first {i = length c.loop-s.yielded} (omega (arith, end.1))) at c.loop-s.invariant)
