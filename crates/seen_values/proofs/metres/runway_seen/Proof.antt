-- `seen_values::metres::runway_seen` meets its contract: the limits and spans are those of its scale.
-- Assumes nothing.
use mathlib.Core.Path.{◌∙◌}
use borrow.Author.Rules.{rules}
use Rattle.seen_values.proofs.Classes.{by-range, by-no-range, runway-follows}
use Rattle.seen_values.proofs.metres.runway_seen.Statement.{statement}
use Rattle.seen_values.proofs.metres.runway_seen.Tie as tie

pub runway_seen_spec : {M : Type 1} → statement M
runway_seen_spec =
    tie.close
    (tie.spec
    (λ c κs. search rules) (λ c κs. search rules) (λ c. search rules) (λ c κs. search rules) (λ c κs. search rules) (λ c. search rules)
    (λ c. c.if_foot.ensures ∙ by-range _ _ runway-follows _ c.runway_figure.ensures c.in-Some.is c.runway_reading.ensures c.class_by-class.ensures)
    (λ c. by-no-range _ _ runway-follows _ c.runway_figure.ensures c.in-None.is))
