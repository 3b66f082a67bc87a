-- The limit and the span of this iteration stand at the number of those passed.
use Rattle.std.proofs.Common.{length, arith, sym, ◌∙◌}
use Rattle.std.proofs.lemmas.List.{length_push}
use Rattle.std.proofs.lemmas.Slice.Zip.{zip_turn, zip_end}
use borrow.Author.Tests.{lt-ltb, le-ltb}
use Rattle.seen_values.proofs.Classes.{here, over}
use Rattle.seen_values.proofs.metres.class_by.Goals as goal

pub returns-then-foot-limit : goal.returns-then-foot-limit
returns-then-foot-limit c =
    let limits = c.args.limits.now in
    let spans = c.args.spans.now in
    let turn = zip_turn limits spans c.loop-limit.yielded c.into_iter-limit-iterator.result c.loop-limit.limit-iterator c.next.new.self c.next.result (cc) (cc) c.loop-limit.yielded_by _ c.in-Some.is c.next.ensures.steps in
    sym (c.loop-limit.invariant ∙ here limits spans c.args.foot (length c.loop-limit.yielded) turn.0 turn.1 ∙ rw (← turn.2 0, ← turn.3 0, lt-ltb _ _ c.if-foot-limit.true))

pub loop-limit-preserved : goal.loop-limit-preserved
loop-limit-preserved c =
    let limits = c.args.limits.now in
    let spans = c.args.spans.now in
    let turn = zip_turn limits spans c.loop-limit.yielded c.into_iter-limit-iterator.result c.loop-limit.limit-iterator c.next.new.self c.next.result (cc) (cc) c.loop-limit.yielded_by _ c.in-Some.is c.next.ensures.steps in
    rw (length_push c.loop-limit.yielded (c.in-Some.limit, c.in-Some.span))
    (c.loop-limit.invariant ∙ here limits spans c.args.foot (length c.loop-limit.yielded) turn.0 turn.1 ∙ rw (← turn.2 0, le-ltb _ _ c.if-foot-limit.false))

pub returns : goal.returns
returns c =
    let limits = c.args.limits.now in
    let spans = c.args.spans.now in
    let end = zip_end limits spans c.loop-limit.yielded c.into_iter-limit-iterator.result c.loop-limit.limit-iterator c.next.new.self c.next.result (cc) (cc) c.loop-limit.yielded_by c.in-None.is c.next.ensures.steps in
    sym (c.loop-limit.invariant ∙ over limits spans c.args.foot (length c.loop-limit.yielded) (omega (arith, end)))
