-- `section::with_said` meets its contract, case by case.
-- Assumes nothing.
use borrow.Author.Rules.{rules}
use Prim.Native.Nat.{ℕ}
use mathlib.Core.Path.{◌≡◌, refl}
use mathlib.Core.List.{List, [], ◌∷◌}
use types.Run.{OneOf, miss}
use denote.Enum.Declared.{tag_of}
use Rattle.record.specs.declared.surface.Surface.{Surface}
use Rattle.synop_groups.specs.declared.kinds.Said.{Said}
use Rattle.synop_groups.specs.declared.kinds.Said.TheVariants as said
use Rattle.synop_groups.specs.contracts.kinds.Said as says
use Rattle.synop_row.specs.Row.{with_said}
use Rattle.synop_section.specs.Section.{said_onto}
use Rattle.synop_section.proofs.section.with_said.Statement.{statement}
use Rattle.synop_section.proofs.section.with_said.Tie as tie

-- by what the group was found to say
by : (s : Surface) {x y : Said} → x ≡ y → said_onto y s ≡ said_onto x s
by s q = rw q

-- a refusal, what names the time and place, and a layer of section 3 leave the surface as it is
abbrev elsewhere : List ℕ
elsewhere = 0 ∷ 1 ∷ 2 ∷ 3 ∷ 16 ∷ []

others : (x : Said) → OneOf elsewhere (tag_of says.the_type x) → (s : Surface) → s ≡ said_onto x s
unfolding with_said
others (said.Refused f) told s = refl
others (said.Time t) told s = refl
others (said.Station n) told s = refl
others (said.Position p) told s = refl
others (said.Indicators i) told s = absurd (miss elsewhere 4 tt told)
others (said.Wind w) told s = absurd (miss elsewhere 5 tt told)
others (said.Speed n) told s = absurd (miss elsewhere 6 tt told)
others (said.Air a) told s = absurd (miss elsewhere 7 tt told)
others (said.Moisture m) told s = absurd (miss elsewhere 8 tt told)
others (said.Pressure p) told s = absurd (miss elsewhere 9 tt told)
others (said.Level l) told s = absurd (miss elsewhere 10 tt told)
others (said.Tendency t) told s = absurd (miss elsewhere 11 tt told)
others (said.Rainfall r) told s = absurd (miss elsewhere 12 tt told)
others (said.Weather w) told s = absurd (miss elsewhere 13 tt told)
others (said.Clouds c) told s = absurd (miss elsewhere 14 tt told)
others (said.Clock c) told s = absurd (miss elsewhere 15 tt told)
others (said.Layer l) told s = refl

pub with_said_spec : {M : Type 1} → statement M
with_said_spec =
    tie.close
    (tie.spec
    (λ c. search rules) (λ c. search rules) (λ c. search rules) (λ c. search rules) (λ c. search rules) (λ c. search rules)
    (λ c. search rules) (λ c. search rules) (λ c. search rules) (λ c. search rules) (λ c. search rules) (λ c. search rules)
    (λ c. unfold with_said in by c.args.surface c.in-Indicators.is)
    (λ c. unfold with_said in by c.args.surface c.in-Wind.is)
    (λ c. unfold with_said in by c.args.surface c.in-Speed.is)
    (λ c. unfold with_said in by c.args.surface c.in-Air.is)
    (λ c. unfold with_said in by c.args.surface c.in-Moisture.is)
    (λ c. unfold with_said in by c.args.surface c.in-Pressure.is)
    (λ c. unfold with_said in by c.args.surface c.in-Level.is)
    (λ c. unfold with_said in by c.args.surface c.in-Tendency.is)
    (λ c. unfold with_said in by c.args.surface c.in-Rainfall.is)
    (λ c. unfold with_said in by c.args.surface c.in-Weather.is)
    (λ c. unfold with_said in by c.args.surface c.in-Clouds.is)
    (λ c. unfold with_said in by c.args.surface c.in-Clock.is)
    (λ c. others c.args.said c.in_default.in_default-own.keys13 c.args.surface))
