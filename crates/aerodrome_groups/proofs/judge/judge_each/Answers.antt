-- `judge_each_runway` recurses as a test of all runways does.
use Rattle.std.proofs.Common.{◌≡◌, Bool, true, false, ◌&&◌, ◌∙◌, take, refl, ap, rules, tests}
use Rattle.std.specs.List.{list_all}
use Rattle.std.proofs.lemmas.Iterator.{YieldsList-from_slice, YieldsList-from_take}
use Rattle.std.proofs.lemmas.Iterator.Search.{all_from_yields_List}
use Rattle.std.proofs.lemmas.List.Recursion.{same_from_clauses}
use Rattle.text.specs.Judge.{judge, and_then}
use Rattle.aerodrome_groups.specs.Runway.{judge_each_runway}
use Rattle.aerodrome_groups.proofs.RunwayBack.{runway_fits}
use Rattle.aerodrome_groups.proofs.judge.judge_each.Goals as goal

judge-both : (a b : Bool) → judge (a && b) true ≡ and_then (judge a true) (judge b true)
judge-both true b = refl
judge-both false b = refl

pub returns : goal.returns
returns c =
    let ws = take c.args.count c.args.items in
    c.judge.ensures
    ∙ ap (λ t. judge t true) (all_from_yields_List runway_fits _ _ c.all.result c.all.ensures.ran (YieldsList-from_take c.args.count (YieldsList-from_slice c.args.items (cc)) (cc)) (λ x b q k. search (rules, tests)))
    ∙ same_from_clauses (λ l. judge (list_all runway_fits l) true) judge_each_runway (λ w r. and_then (judge (runway_fits w) true) r) refl (λ w l. judge-both (runway_fits w) (list_all runway_fits l)) (λ _ _. refl) ws
