-- `rises` recurses as a test of all layers does.
use Rattle.std.proofs.Common.{◌&&◌, ◌∙◌, take, refl, rules, tests}
use Rattle.std.specs.List.{list_all}
use Rattle.std.proofs.lemmas.Iterator.{YieldsList-from_slice, YieldsList-from_take}
use Rattle.std.proofs.lemmas.Iterator.Search.{all_from_yields_List}
use Rattle.std.proofs.lemmas.List.Recursion.{same_from_clauses}
use Rattle.record.specs.declared.aerodrome.Layer.{Layer}
use Rattle.elements.specs.Sky.{not_above, rises}
use Rattle.sky.proofs.read.rises.Goals as goal

pub returns : goal.returns
returns c =
    let h = c.args.h in
    let below = λ (l : Layer). not_above l.height h in
    all_from_yields_List below _ _ c.all.result c.all.ensures.ran (YieldsList-from_take c.args.k (YieldsList-from_slice c.args.layers (cc)) (cc)) (λ x b q k. search (rules, tests))
    ∙ same_from_clauses (list_all below) (λ ls. rises ls h) (λ l rest. not_above l.height h && rest) refl (λ _ _. refl) (λ _ _. refl) (take c.args.k c.args.layers)
