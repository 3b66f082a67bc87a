-- `every` recurses as `list_all` does, and `all` answers the latter.
use Rattle.std.proofs.Common.{◌&&◌, ◌∙◌, refl, rules, tests}
use Rattle.std.specs.List.{list_all}
use Rattle.std.proofs.lemmas.Iterator.{YieldsList-from_slice}
use Rattle.std.proofs.lemmas.Iterator.Search.{all_from_yields_List}
use Rattle.std.proofs.lemmas.List.Recursion.{same_from_clauses}
use Rattle.figures.specs.Figures.{every}
use Rattle.synop_groups.specs.Judge.{slot_fits}
use Rattle.synop_groups.proofs.sign.slots_fit.Goals as goal

pub returns : goal.returns
returns c =
    let s = c.args.s.now in
    let fits = slot_fits c.args.filled in
    all_from_yields_List fits _ _ c.all.result c.all.ensures.ran (YieldsList-from_slice s cc) (λ x b q k. search (rules, tests))
    ∙ same_from_clauses (list_all fits) (every fits) (λ x rest. fits x && rest) refl (λ _ _. refl) (λ _ _. refl) s
