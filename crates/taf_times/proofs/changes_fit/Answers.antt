-- `every` recurses as `list_all` does, and `all` answers the latter.
use Rattle.std.proofs.Common.{◌&&◌, ◌∙◌, take, refl, rules, tests}
use Rattle.std.specs.List.{list_all}
use Rattle.std.proofs.lemmas.Iterator.{YieldsList-from_slice, YieldsList-from_take}
use Rattle.std.proofs.lemmas.Iterator.Search.{all_from_yields_List}
use Rattle.std.proofs.lemmas.List.Recursion.{same_from_clauses}
use Rattle.figures.specs.Figures.{every}
use Rattle.record.specs.declared.aerodrome.Change.{Change}
use Rattle.taf_times.specs.Move.{span_fits, change_of}
use Rattle.taf_times.proofs.changes_fit.Goals as goal

pub returns : goal.returns
returns c =
    let fits = λ (a : Change). span_fits c.args.w (change_of c.args.edition c.args.days c.args.w a) in
    all_from_yields_List fits _ _ c.all.result c.all.ensures.ran (YieldsList-from_take c.args.count (YieldsList-from_slice c.args.items (cc)) (cc)) (λ x b q k. search (rules, tests))
    ∙ same_from_clauses (list_all fits) (every fits) (λ a rest. fits a && rest) refl (λ _ _. refl) (λ _ _. refl) (take c.args.count c.args.items)
