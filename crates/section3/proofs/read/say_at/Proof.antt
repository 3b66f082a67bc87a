-- `section3::read::say_at` meets its contract, place by place.
-- Assumes nothing.
use borrow.Author.Rules.{rules}
use Prim.Native.Nat.{zero-le}
use mathlib.Core.Path.{refl, ap}
use Rattle.places.proofs.Rows.{beyond}
use Rattle.record.specs.declared.surface.CloudLayers.{CloudLayers}
use Rattle.section3.specs.Row.{layer_at, with_told, row}
use Rattle.section3.proofs.Steps.{says_at, says_nothing}
use Rattle.section3.proofs.read.say_at.Statement.{statement}
use Rattle.section3.proofs.read.say_at.Tie as tie

pub say_at_spec : {M : Type 1} → statement M
say_at_spec =
    tie.close
    (tie.spec
    (λ c κs. search rules) (λ c κs. search rules) (λ c κs. search rules) (λ c κs. search rules) (λ c κs. search rules)
    (λ c. let a = c.args in says_at 0 a.g.now a.layers c.in-0.is (rw c.read_air.ensures at c.told_by.ensures) (λ k s is. unfold row in refl))
    (λ c. let a = c.args in says_at 1 a.g.now a.layers c.in-1.is (rw c.read_minimum.ensures at c.told_by-in-1.ensures) (λ k s is. unfold row in refl))
    (λ c. let a = c.args in says_at 2 a.g.now a.layers c.in-2.is c.say_layer.ensures (λ k s is. unfold row in ap (λ (x : CloudLayers). with_told (layer_at x a.g.now) s) is))
    (λ c. let a = c.args in says_nothing a.place a.g.now a.layers (beyond 0 3 a.place zero-le c.in_default.in_default-own.rest)))
