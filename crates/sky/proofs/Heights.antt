-- Heights by table 1690: every height has a figure of three figures, the figure is read as the foot of its class, and the foot is written as the same
-- figure.
-- Assumes nothing.
use Rattle.std.specs.Prelude.{None, Ok, Option, Some, unwrap_or}
use Prim.Native.Nat.{ℕ, ◌≤◌}
use native.Mathlib.Omega.{arith}
use mathlib.Core.Path.{◌≡◌, refl, sym, ap}
use mathlib.Core.Bool.{Bool, true}
use lib.Dec.{leb}
use borrow.Author.Tests.{leb-true}
use Rattle.figures.specs.declared.kinds.Field.TheVariants as field
use Rattle.figures.specs.Figures.{Fits}
use Rattle.scales.specs.Scale.{Class, run, last_in, figure_of, foot_of}
use Rattle.scales.specs.Metres.{cloud, metres_figure, metres_reading}
use Rattle.scales.proofs.Laws.{figure-such}
use Rattle.scales.proofs.Answers.{figure-told, figure-beyond, foot-low, metres-read}
use Rattle.scales.proofs.MetresLaws.{cloud-laws}
use Rattle.elements.specs.Judge.{metres_fit}
use Rattle.elements.specs.Sky.{height_of, height_field, written_height}

-- ---- the figure, as the code comes to it

pub open_above : (m : ℕ) → metres_figure cloud m ≡ None → 999 ≡ figure_of cloud m
unfolding cloud run last_in
open_above m e = sym (ap (λ (c : Class ℕ). c.figure) (cloud-laws.last m (omega (arith, figure-beyond cloud m e))))

pub number-or-last : (m : ℕ) → unwrap_or (metres_figure cloud m) 999 ≡ figure_of cloud m
number-or-last m = go (metres_figure cloud m) refl
  where
    go : (r : Option ℕ) → metres_figure cloud m ≡ r → unwrap_or r 999 ≡ figure_of cloud m
    go (Some f) e = figure-told cloud m e
    go None e = open_above m e

-- ---- the reading of the figure

pub foot-told : (m : ℕ) → metres_reading cloud (figure_of cloud m) ≡ Some (foot_of cloud m)
foot-told = metres-read cloud-laws

-- ---- a height and its field

three-figures : (m : ℕ) → figure_of cloud m ≤ 999
three-figures m = leb-true (figure_of cloud m) 999 (figure-such (λ f. leb f 999) cloud m (unfold cloud run in refl))

pub height-fits : (h : Option ℕ) → Fits 3 (height_field h)
height-fits None = tt
height-fits (Some m) = omega (arith, three-figures m)

pub height-back : (forecast : Bool) (h : Option ℕ) → metres_fit forecast h ≡ true → height_of forecast (height_field h) ≡ Ok (written_height h)
height-back forecast None e = rw e
height-back forecast (Some m) e = rw (metres-read cloud-laws m)

pub height-again : (h : Option ℕ) → height_field (written_height h) ≡ height_field h
height-again None = refl
height-again (Some m) = ap field.Number (cloud-laws.again m)

-- the foot of a class is in the class
foot-twice : (m : ℕ) → foot_of cloud (foot_of cloud m) ≡ foot_of cloud m
foot-twice m =
    let e = cloud-laws.reads-back (foot_of cloud m) in
    let f = cloud-laws.reads-back m in
    let g = cloud-laws.again m in
    cc

pub height-twice : (h : Option ℕ) → written_height (written_height h) ≡ written_height h
height-twice None = refl
height-twice (Some m) = ap Some (foot-twice m)

pub height-classed : (forecast : Bool) (h : Option ℕ) → metres_fit forecast h ≡ true → metres_fit forecast (written_height h) ≡ true
height-classed forecast None e = e
height-classed forecast (Some m) e = foot-low cloud-laws m e
