-- `seen_values::metres::depth_seen` meets its contract: the limits and spans are those of its scale.
-- Assumes nothing.
use mathlib.Core.Path.{◌∙◌}
use borrow.Author.Rules.{rules}
use Rattle.scales.specs.Depth.{depth}
use Rattle.scales.proofs.DepthLaws.{depth-laws, depth-rounds}
use Rattle.seen_values.proofs.Classes.{by-figure, by-none, depth-follows}
use Rattle.seen_values.proofs.metres.depth_seen.Statement.{statement}
use Rattle.seen_values.proofs.metres.depth_seen.Tie as tie

pub depth_seen_spec : {M : Type 1} → statement M
depth_seen_spec =
    tie.close
    (tie.spec
    (λ c κs. search rules) (λ c κs. search rules) (λ c. search rules) (λ c κs. search rules) (λ c κs. search rules) (λ c. search rules)
    (λ c. c.if_foot.ensures ∙ by-figure depth depth-laws depth-rounds _ _ depth-follows _ c.depth_figure.ensures c.in-Some.is c.depth_reading.ensures c.class_by-class.ensures)
    (λ c. by-none depth depth-laws depth-rounds _ _ depth-follows _ c.depth_figure.ensures c.in-None.is))
