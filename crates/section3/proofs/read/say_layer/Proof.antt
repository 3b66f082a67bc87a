-- `section3::read::say_layer` meets its contract, test by test.
-- Assumes nothing.
use borrow.Author.Rules.{rules}
use mathlib.Core.Path.{sym, ◌∙◌}
use native.Mathlib.Omega.{arith}
use Rattle.section3.proofs.Steps.{layer-none, layer-fifth, layer-follows, layer-falls, layer-other}
use Rattle.section3.proofs.read.say_layer.Statement.{statement}
use Rattle.section3.proofs.read.say_layer.Tie as tie

pub say_layer_spec : {M : Type 1} → statement M
say_layer_spec =
    tie.close
    (tie.spec
    (λ c κs. search rules)
    (λ c. layer-none _ _ (sym c.has_pattern.ensures ∙ c.if-has_pattern.true))
    (λ c. layer-fifth c.args.layers _ (sym c.has_pattern.ensures ∙ c.if-has_pattern.false) (omega (arith, c.if-count-ge4.true)))
    (λ c κs. search rules) (λ c κs. search rules) (λ c. search rules) (λ c κs. search rules)
    (λ c. layer-follows c.args.layers _ (sym c.has_pattern.ensures ∙ c.if-has_pattern.false) (omega (arith, c.if-count-ge4.false)) (rw c.read_layer.ensures at c.told_by-told.ensures) _ c.in-Layer.is (sym c.may_follow.ensures ∙ c.if-may_follow.true))
    (λ c. layer-falls c.args.layers _ (sym c.has_pattern.ensures ∙ c.if-has_pattern.false) (omega (arith, c.if-count-ge4.false)) (rw c.read_layer.ensures at c.told_by-told.ensures) _ c.in-Layer.is (sym c.may_follow.ensures ∙ c.if-may_follow.false))
    (λ c. layer-other c.args.layers _ (sym c.has_pattern.ensures ∙ c.if-has_pattern.false) (omega (arith, c.if-count-ge4.false)) (rw c.read_layer.ensures at c.told_by-told.ensures) c.in_default.in_default-own.keys2))
