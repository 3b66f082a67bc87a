-- The slots that the loop passes are the first `count`.
use Rattle.std.proofs.Common.{◌∷◌, [], map, take, length, refl, arith}
use Rattle.std.proofs.lemmas.Iterator.{YieldsList-from_slice, YieldsList-from_take}
use Rattle.std.proofs.lemmas.Iterator.Consumers.{YieldsList-turn, YieldsList-end}
use Rattle.std.proofs.lemmas.List.{length_push}
use Rattle.std.proofs.Math.Seq.{take_all}
use Rattle.text.proofs.Writes.{write-none}
use Rattle.places.proofs.Delivered.{one_more}
use Rattle.record.specs.declared.aerodrome.RunwayState.{RunwayState}
use Rattle.runway_states.specs.State.{show_state}
use Rattle.runway_states.proofs.write.put_each.Goals as goal

pub loop-s-init : goal.loop-s-init
loop-s-init c = write-none _ _

pub loop-s-preserved : goal.loop-s-preserved
loop-s-preserved c =
    let first = take c.args.count c.args.items in
    let turn = YieldsList-turn (YieldsList-from_take c.args.count (YieldsList-from_slice c.args.items (cc)) (cc)) c.loop-s.yielded _ c.loop-s.yielded_by _ _ c.in-Some.s c.in-Some.is c.next.ensures.steps in
    rw (length_push c.loop-s.yielded c.in-Some.s)
    (one_more (λ (a : RunwayState). show_state a ∷ []) (map show_state) refl (λ a rest. refl) first (length c.loop-s.yielded) c.in-Some.s.now turn.0 c.loop-s.invariant (rw turn.1 at c.put_state-next.ensures))

pub returns : goal.returns
returns c =
    let first = take c.args.count c.args.items in
    let end = YieldsList-end (YieldsList-from_take c.args.count (YieldsList-from_slice c.args.items (cc)) (cc)) c.loop-s.yielded _ c.loop-s.yielded_by _ _ c.in-None.is c.next.ensures.steps in
    rw (take_all (length c.loop-s.yielded) first (omega (arith, end.1))) at c.loop-s.invariant
