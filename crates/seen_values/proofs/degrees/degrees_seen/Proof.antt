-- `seen_values::degrees::degrees_seen` meets its contract: below zero, or from zero on. The callees speak of the value as its bits give it back.
-- Assumes nothing.
use mathlib.Core.Path.{◌∙◌}
use mir.Facts.{to_z-of_z}
use borrow.Author.Rules.{rules}
use Rattle.seen_values.proofs.DegreesLaws.{below-zero, from_zero}
use Rattle.seen_values.proofs.degrees.degrees_seen.Statement.{statement}
use Rattle.seen_values.proofs.degrees.degrees_seen.Tie as tie

pub degrees_seen_spec : {M : Type 1} → statement M
degrees_seen_spec =
    tie.close
    (tie.spec
    (λ c κs. search rules) (λ c κs. search rules) (λ c κs. search rules) (λ c κs. search rules)
    (λ c.
    c.cold_seen.ensures
    ∙ below-zero (to_z-of_z c.ranges.tenths) c.magnitude-m.ensures c.is_negative.ensures c.if-is_negative.true)
    (λ c.
    c.warm_seen.ensures
    ∙ from_zero (to_z-of_z c.ranges.tenths) c.magnitude-m.ensures c.is_negative.ensures c.if-is_negative.false))
