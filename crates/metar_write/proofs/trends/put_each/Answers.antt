-- The changes that the loop passes are the first n.
use Rattle.std.proofs.Common.{take, length, refl, arith}
use Rattle.std.proofs.lemmas.Iterator.{YieldsList-from_slice, YieldsList-from_take}
use Rattle.std.proofs.lemmas.Iterator.Consumers.{YieldsList-turn, YieldsList-end}
use Rattle.std.proofs.lemmas.List.{length_push}
use Rattle.std.proofs.Math.Seq.{take_all}
use Rattle.text.proofs.Writes.{write-none}
use Rattle.places.proofs.Delivered.{one_more}
use Rattle.trend.specs.Write.{show_change, show_each}
use Rattle.metar_write.proofs.trends.put_each.Goals as goal

pub loop-change-init : goal.loop-change-init
loop-change-init c = write-none _ _

pub loop-change-preserved : goal.loop-change-preserved
loop-change-preserved c =
    let first = take c.args.n c.args.t.items in
    let turn = YieldsList-turn (YieldsList-from_take c.args.n (YieldsList-from_slice c.args.t.items (cc)) (cc)) c.loop-change.yielded _ c.loop-change.yielded_by _ _ c.in-Some.field-0 c.in-Some.is c.next.ensures.steps in
    rw (length_push c.loop-change.yielded c.in-Some.field-0)
    (one_more show_change show_each refl (λ x xs. refl) first (length c.loop-change.yielded) c.in-Some.field-0.now turn.0 c.loop-change.invariant (rw turn.1 at c.put_change-next.ensures))

pub returns : goal.returns
returns c =
    let first = take c.args.n c.args.t.items in
    let end = YieldsList-end (YieldsList-from_take c.args.n (YieldsList-from_slice c.args.t.items (cc)) (cc)) c.loop-change.yielded _ c.loop-change.yielded_by _ _ c.in-None.is c.next.ensures.steps in
    rw (take_all (length c.loop-change.yielded) first (omega (arith, end.1))) at c.loop-change.invariant
