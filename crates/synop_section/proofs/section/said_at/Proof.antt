-- `section::said_at` meets its contract.
-- Assumes nothing.
use borrow.Author.Rules.{rules}
use mathlib.Core.Path.{refl}
use Rattle.synop_row.specs.Row.{row}
use Rattle.synop_section.proofs.SectionSteps.{says_at, says_nothing}
use Rattle.synop_section.proofs.section.said_at.Statement.{statement}
use Rattle.synop_section.proofs.section.said_at.Tie as tie

pub said_at_spec : {M : Type 1} → statement M
said_at_spec =
    tie.close
    (tie.spec
    (λ c κs. search rules) (λ c κs. search rules) (λ c κs. search rules) (λ c κs. search rules) (λ c κs. search rules)
    (λ c κs. search rules) (λ c κs. search rules) (λ c κs. search rules) (λ c κs. search rules) (λ c κs. search rules)
    (λ c. says_at c.args.needs 0 c.args.g.now c.in-0.is c.read_speed.ensures (λ k s. unfold row in refl))
    (λ c. says_at c.args.needs 1 c.args.g.now c.in-1.is c.read_air.ensures (λ k s. unfold row in refl))
    (λ c. says_at c.args.needs 2 c.args.g.now c.in-2.is c.read_moisture.ensures (λ k s. unfold row in refl))
    (λ c. says_at c.args.needs 3 c.args.g.now c.in-3.is c.read_pressure.ensures (λ k s. unfold row in refl))
    (λ c. says_at c.args.needs 4 c.args.g.now c.in-4.is c.read_level.ensures (λ k s. unfold row in refl))
    (λ c. says_at c.args.needs 5 c.args.g.now c.in-5.is c.read_tendency.ensures (λ k s. unfold row in refl))
    (λ c. says_at c.args.needs 6 c.args.g.now c.in-6.is c.read_rainfall.ensures (λ k s. unfold row in refl))
    (λ c. says_at c.args.needs 7 c.args.g.now c.in-7.is c.read_weather.ensures (λ k s. unfold row in refl))
    (λ c. says_at c.args.needs 8 c.args.g.now c.in-8.is c.read_clouds.ensures (λ k s. unfold row in refl))
    (λ c. says_at c.args.needs 9 c.args.g.now c.in-9.is c.read_clock.ensures (λ k s. unfold row in refl))
    (λ c. says_nothing c.args.needs c.args.place c.args.g.now c.in_default.in_default-own.rest))
