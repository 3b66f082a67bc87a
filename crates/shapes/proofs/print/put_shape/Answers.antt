-- One part more is put; at the end the items were all parts, each with its value.
use Rattle.std.proofs.Common.{◌≡◌, Option, None, List, map, eqb, rules}
use Rattle.std.specs.Iterator.{Yields}
use Rattle.std.proofs.lemmas.Iterator.{YieldsList, YieldsList-from_slice, YieldsList-from_zip}
use Rattle.std.proofs.lemmas.Iterator.Consumers.{YieldsList-end, YieldsList-at}
use Rattle.std.proofs.lemmas.Iterator.Splits.{YieldsList-from_slice_split}
use Rattle.figures.proofs.Puts.{put-none, then}
use Rattle.shapes.specs.Shape.{parts_of, print_of}
use Rattle.shapes.proofs.Splits.{split-slice_split}
use Rattle.shapes.proofs.Prints.{texts-push, texts-zip}
use Rattle.shapes.proofs.print.put_shape.Goals as goal

pub loop-part-init : goal.loop-part-init
loop-part-init c = put-none _ _

pub loop-part-preserved : goal.loop-part-preserved
loop-part-preserved c = rw texts-push (then c.loop-part.invariant (rw c.alternative.ensures at c.put_filled-next.ensures))

-- `YieldsList-end`, with the list last, so that antt knows the closure of `split` there
all_yielded : {S A B : Type 0} {steps : S → Option A → S → Type 0} {v : A → B} {s : S} {all : List B} (xs : List A) (t : S) (r : Option A) (u : S)
    → Yields steps s xs t → r ≡ None → steps t r u → YieldsList steps v s all → map v xs ≡ all
all_yielded xs t r u y none step e = (YieldsList-end e xs t y r u none step).0

pub returns : goal.returns
unfolding print_of parts_of
returns c =
    let s = c.args.shape.now in
    let all =
    all_yielded c.loop-part.yielded c.loop-part.part-iterator c.next.result c.next.new.self c.loop-part.yielded_by c.in-None.is c.next.ensures.steps
    (YieldsList-at c.into_iter-part-iterator.ensures.into_iter_gives
    (YieldsList-from_zip
    (YieldsList-at c.zip-part-items.ensures.first
    (YieldsList-from_slice_split _ (λ b. eqb b 32) s c.split.ensures.rest c.split.ensures.done c.split.ensures.closure (λ x b q k. search rules)))
    (YieldsList-from_slice c.args.values (cc))))
    in
    rw (split-slice_split 32 s, ← texts-zip, ← all) c.loop-part.invariant
