-- The rounded parts of SYNOP and SHIP: h and VV. What is in range has a figure of its width, the figure is read as the class, and the class
-- is written as the same figure.
-- Assumes nothing.
use Rattle.std.specs.Prelude.{None, Option, Some}
use mathlib.Core.Path.{◌≡◌, refl}
use mathlib.Core.Bool.{true}
use Prim.Native.Nat.{ℕ, ◌≤◌}
use native.Mathlib.Omega.{arith}
use borrow.Author.Tests.{le-leb, lt-leb}
use Rattle.figures.specs.declared.kinds.Field.{Field}
use Rattle.figures.specs.Figures.{Fits}
use Rattle.scales.specs.Scale.{run, figure_of}
use Rattle.scales.specs.Metres.{land, sea, base}
use Rattle.scales.proofs.Laws.{figure-such}
use Rattle.scales.proofs.Answers.{foot-low, metres-read, metres-again, metres-written}
use Rattle.scales.proofs.MetresLaws.{land-laws, sea-laws, base-laws}
use Rattle.record.specs.declared.surface.Sight.{Sight}
use Rattle.record.specs.declared.surface.Sight.TheVariants as sight
use Rattle.synop_groups.specs.declared.kinds.Said.{Said}
use Rattle.synop_groups.specs.Reads.{base_of, sight_of}
use Rattle.synop_groups.specs.Shows.{base_field, sight_field}
use Rattle.synop_groups.specs.Judge.{metres, sight_fits}
use Rattle.record.specs.Missing.{between, optional}
use Rattle.synop_groups.specs.Classes.{class_base, class_sight}
use Rattle.synop_groups.proofs.RoundTripFields.{in-range}

-- ---- h

base-figure : (m : ℕ) → figure_of base m ≤ 9
base-figure m = (in-range 0 9 (figure_of base m) (figure-such (between 0 9) base m (unfold base in refl))).1

pub base-fits : (b : Option ℕ) → optional metres b ≡ true → Fits 1 (base_field b)
base-fits None e = tt
base-fits (Some m) e = rw (metres-written base m e) (omega (arith, base-figure m))

pub base-is : (f : Field) (b : Option ℕ) (k : Option ℕ → Said) → optional metres b ≡ true → f ≡ base_field b → base_of f k ≡ k (class_base b)
base-is f None k h e = rw e
base-is f (Some m) k h e = rw (e, metres-written base m h, metres-read base-laws m)

pub base-again : (b : Option ℕ) → optional metres b ≡ true → base_field (class_base b) ≡ base_field b
base-again None e = refl
base-again (Some m) e = rw (metres-again base-laws m e)

pub base-classed : (b : Option ℕ) → optional metres b ≡ true → optional metres (class_base b) ≡ true
base-classed None e = refl
base-classed (Some m) e = foot-low base-laws m e

-- ---- VV

land-figure : (m : ℕ) → figure_of land m ≤ 89
land-figure m = (in-range 0 89 (figure_of land m) (figure-such (between 0 89) land m (unfold land run in refl))).1

sea-figure : (m : ℕ) → (90 ≤ figure_of sea m) × (figure_of sea m ≤ 99)
sea-figure m = in-range 90 99 (figure_of sea m) (figure-such (between 90 99) sea m (unfold sea in refl))

pub sight-fits : (v : Sight) → sight_fits v ≡ true → Fits 2 (sight_field v)
sight-fits sight.Missing e = tt
sight-fits (sight.Land m) e = rw (metres-written land m e) (omega (arith, land-figure m))
sight-fits (sight.Sea m) e = rw (metres-written sea m e) (omega (arith, sea-figure m))

pub sight-is : (f : Field) (v : Sight) (k : Sight → Said) → sight_fits v ≡ true → f ≡ sight_field v → sight_of f k ≡ k (class_sight v)
sight-is f sight.Missing k h e = rw e
sight-is f (sight.Land m) k h e =
    rw (e, metres-written land m h, lt-leb 90 (figure_of land m) (omega (arith, land-figure m)), metres-read land-laws m)
sight-is f (sight.Sea m) k h e =
    rw (e, metres-written sea m h, le-leb 90 (figure_of sea m) (sea-figure m).0, metres-read sea-laws m)

pub sight-again : (v : Sight) → sight_fits v ≡ true → sight_field (class_sight v) ≡ sight_field v
sight-again sight.Missing e = refl
sight-again (sight.Land m) e = rw (metres-again land-laws m e)
sight-again (sight.Sea m) e = rw (metres-again sea-laws m e)

pub sight-classed : (v : Sight) → sight_fits v ≡ true → sight_fits (class_sight v) ≡ true
sight-classed sight.Missing e = refl
sight-classed (sight.Land m) e = foot-low land-laws m e
sight-classed (sight.Sea m) e = foot-low sea-laws m e
