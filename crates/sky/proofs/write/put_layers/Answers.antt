-- The layers that the loop passes are the first `count`.
use Rattle.std.proofs.Common.{◌∷◌, [], map, take, length, refl, arith}
use Rattle.std.proofs.lemmas.Iterator.{YieldsList-from_slice, YieldsList-from_take}
use Rattle.std.proofs.lemmas.Iterator.Consumers.{YieldsList-turn, YieldsList-end}
use Rattle.std.proofs.lemmas.List.{length_push}
use Rattle.std.proofs.Math.Seq.{take_all}
use Rattle.text.proofs.Writes.{write-none}
use Rattle.places.proofs.Delivered.{one_more}
use Rattle.record.specs.declared.aerodrome.Layer.{Layer}
use Rattle.elements.specs.Sky.{show_layer}
use Rattle.sky.proofs.write.put_layers.Goals as goal

pub loop-l-init : goal.loop-l-init
loop-l-init c = write-none _ _

pub loop-l-preserved : goal.loop-l-preserved
loop-l-preserved c =
    let first = take c.args.count c.args.layers in
    let turn = YieldsList-turn (YieldsList-from_take c.args.count (YieldsList-from_slice c.args.layers (cc)) (cc)) c.loop-l.yielded _ c.loop-l.yielded_by _ _ c.in-Some.l c.in-Some.is c.next.ensures.steps in
    rw (length_push c.loop-l.yielded c.in-Some.l)
    (one_more (λ (a : Layer). show_layer a ∷ []) (map show_layer) refl (λ a rest. refl) first (length c.loop-l.yielded) c.in-Some.l.now turn.0 c.loop-l.invariant (rw turn.1 at c.put_layer-next.ensures))

pub returns : goal.returns
returns c =
    let first = take c.args.count c.args.layers in
    let end = YieldsList-end (YieldsList-from_take c.args.count (YieldsList-from_slice c.args.layers (cc)) (cc)) c.loop-l.yielded _ c.loop-l.yielded_by _ _ c.in-None.is c.next.ensures.steps in
    rw (take_all (length c.loop-l.yielded) first (omega (arith, end.1))) at c.loop-l.invariant
