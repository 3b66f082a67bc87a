-- std's `count` answers how many are taken while the test passes.
use Rattle.std.proofs.Common.{◌≡◌, ◌∙◌, eqb, sym, rules, tests}
use Rattle.std.proofs.lemmas.Iterator.{YieldsList-from_slice}
use Rattle.std.proofs.lemmas.Iterator.Search.{YieldsList-from_take_while}
use Rattle.std.proofs.lemmas.Iterator.Consumers.{count_from_yields_List, YieldsList-at}
use Rattle.std.proofs.lemmas.List.Folds.{length-prefix_len}
use Rattle.shapes.specs.Shape.{run_length}
use Rattle.shapes.proofs.Splits.{leading-prefix_len, lead-le}
use Rattle.shapes.proofs.print.run_length.Goals as goal

pub returns : goal.returns
returns c =
    let s = c.args.pattern.now in
    let taken =
    count_from_yields_List c.take_while.result _ c.count.ensures.ran
    (YieldsList-from_take_while _ (λ b. eqb b 35) (YieldsList-at c.take_while.ensures.source (YieldsList-from_slice s (cc)))
    c.take_while.ensures.closure c.take_while.ensures.done (λ x b q k. search (rules, tests)))
    in
    let e : c.count.result ≡ run_length s = rw length-prefix_len at taken ∙ sym (leading-prefix_len _ s) in
    (e, rw e (lead-le _ s))
