-- The chain gives the items from number `from` on, and its test is each one's `blank`.
use Rattle.std.proofs.Common.{◌≡◌, Bool, drop, List, [], ◌∷◌, ◌&&◌, rules, refl, ap, ◌∙◌}
use borrow.Author.Tests.{tests}
use Rattle.std.specs.List.{list_all}
use Rattle.std.proofs.lemmas.Iterator.{YieldsList-from_slice}
use Rattle.std.proofs.lemmas.Iterator.Adapters.{YieldsList-from_skip}
use Rattle.std.proofs.lemmas.Iterator.Search.{all_from_yields_List}
use Rattle.figures.specs.Figures.{every}
use Rattle.record.proofs.blank.are_blank_from.Goals as goal

every-all : {A : Type 0} (P : A → Bool) (l : List A) → list_all P l ≡ every P l
every-all P [] = refl
every-all P (x ∷ l) = ap (λ b. P x && b) (every-all P l)

pub returns : goal.returns
returns g c =
    all_from_yields_List g.T.Blank.blank _ _ _ c.all.ensures.ran
    (YieldsList-from_skip c.args.from (YieldsList-from_slice c.args.items.now cc) c.skip.ensures.count)
    (λ x b q k. search (rules, tests))
    ∙ every-all g.T.Blank.blank (drop c.args.from c.args.items.now)
