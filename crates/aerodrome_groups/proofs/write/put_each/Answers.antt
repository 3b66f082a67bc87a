-- The slots that the loop passes are the first `count`.
use Rattle.std.proofs.Common.{◌∷◌, [], map, take, length, refl, arith}
use Rattle.std.proofs.lemmas.Iterator.{YieldsList-from_slice, YieldsList-from_take}
use Rattle.std.proofs.lemmas.Iterator.Consumers.{YieldsList-turn, YieldsList-end}
use Rattle.std.proofs.lemmas.List.{length_push}
use Rattle.std.proofs.Math.Seq.{take_all}
use Rattle.text.proofs.Writes.{write-none}
use Rattle.places.proofs.Delivered.{one_more}
use Rattle.record.specs.declared.aerodrome.Runway.{Runway}
use Rattle.aerodrome_groups.specs.Runway.{show_runway}
use Rattle.aerodrome_groups.proofs.write.put_each.Goals as goal

pub loop-w-init : goal.loop-w-init
loop-w-init c = write-none _ _

pub loop-w-preserved : goal.loop-w-preserved
loop-w-preserved c =
    let first = take c.args.count c.args.items in
    let turn = YieldsList-turn (YieldsList-from_take c.args.count (YieldsList-from_slice c.args.items (cc)) (cc)) c.loop-w.yielded _ c.loop-w.yielded_by _ _ c.in-Some.w c.in-Some.is c.next.ensures.steps in
    rw (length_push c.loop-w.yielded c.in-Some.w)
    (one_more (λ (a : Runway). show_runway a ∷ []) (map show_runway) refl (λ a rest. refl) first (length c.loop-w.yielded) c.in-Some.w.now turn.0 c.loop-w.invariant (rw turn.1 at c.put_runway-next.ensures))

pub returns : goal.returns
returns c =
    let first = take c.args.count c.args.items in
    let end = YieldsList-end (YieldsList-from_take c.args.count (YieldsList-from_slice c.args.items (cc)) (cc)) c.loop-w.yielded _ c.loop-w.yielded_by _ _ c.in-None.is c.next.ensures.steps in
    rw (take_all (length c.loop-w.yielded) first (omega (arith, end.1))) at c.loop-w.invariant
