-- `every` recurses as `list_all` does, and `all` answers the latter.
use Rattle.std.proofs.Common.{◌&&◌, ◌∙◌, take, refl, rules, tests}
use Rattle.std.specs.List.{list_all}
use Rattle.std.proofs.lemmas.Iterator.{YieldsList-from_slice, YieldsList-from_take}
use Rattle.std.proofs.lemmas.Iterator.Search.{all_from_yields_List}
use Rattle.std.proofs.lemmas.List.Recursion.{same_from_clauses}
use Rattle.figures.specs.Figures.{every}
use Rattle.record.specs.declared.surface.CloudLayer.{CloudLayer}
use Rattle.synop_groups.specs.Classes.{class_height}
use Rattle.section3.specs.Row.{not_above}
use Rattle.section3.proofs.heights.may_follow.Goals as goal

pub returns : goal.returns
returns c =
    let below = λ (a : CloudLayer). not_above (class_height a.height) (class_height c.args.layer.height) in
    all_from_yields_List below _ _ c.all.result c.all.ensures.ran (YieldsList-from_take c.args.count (YieldsList-from_slice c.args.items (cc)) (cc)) (λ x b q k. search (rules, tests))
    ∙ same_from_clauses (list_all below) (every below) (λ a rest. below a && rest) refl (λ _ _. refl) (λ _ _. refl) (take c.args.count c.args.items)
