-- The figures of a visibility: four at most, and 9999 from 10,000 m on.
-- Assumes nothing.
use Rattle.std.specs.Prelude.{None, Option, Some, unwrap_or}
use Prim.Native.Nat.{ℕ, ◌≤◌}
use native.Mathlib.Omega.{arith}
use mathlib.Core.Path.{◌≡◌, refl, sym, ap}
use lib.Dec.{leb}
use borrow.Author.Tests.{leb-true}
use Rattle.scales.specs.Scale.{Class, run, last_in, figure_of}
use Rattle.scales.specs.Metres.{visibility, metres_figure}
use Rattle.scales.proofs.Laws.{figure-such}
use Rattle.scales.proofs.Answers.{figure-told, figure-beyond}
use Rattle.scales.proofs.MetresLaws.{visibility-laws}

pub figure-small : (m : ℕ) → figure_of visibility m ≤ 9999
figure-small m = leb-true (figure_of visibility m) 9999 (figure-such (λ f. leb f 9999) visibility m (unfold visibility run in refl))

pub figure-far : (m : ℕ) → 10000 ≤ m → 9999 ≡ figure_of visibility m
unfolding visibility run last_in
figure-far m h = sym (ap (λ (c : Class ℕ). c.figure) (visibility-laws.last m h))

-- as the code comes to it
pub figure-or-far : (m : ℕ) → unwrap_or (metres_figure visibility m) 9999 ≡ figure_of visibility m
figure-or-far m = go (metres_figure visibility m) refl
  where
    go : (r : Option ℕ) → metres_figure visibility m ≡ r → unwrap_or r 9999 ≡ figure_of visibility m
    go (Some f) e = figure-told visibility m e
    go None e = figure-far m (omega (arith, figure-beyond visibility m e))
