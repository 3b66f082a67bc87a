-- The answers of the code, from the class of a value and the reading of a figure.
-- Assumes nothing.
use Rattle.std.specs.Prelude.{None, Option, Some}
use mathlib.Core.Path.{◌≡◌, refl, sym, ap, ◌∙◌}
use mathlib.Core.Bool.{Bool, true, false, cond}
use Prim.Native.Nat.{ℕ, ◌≤◌, ◌<◌}
use native.Mathlib.Omega.{arith}
use lib.Dec.{leb, eqb}
use borrow.Author.Tests.{le-leb, lt-leb, leb-true, leb-false}
use Rattle.figures.proofs.Impossible.{impossible}
use Rattle.scales.specs.Scale.{Class, Scale, class_of, figure_of, foot_of, read_of}
use Rattle.scales.specs.Metres.{runway, same_range, metres_figure, metres_reading, range_figure, range_reading}
use Rattle.scales.specs.declared.kinds.Range.{Range}
use Rattle.scales.proofs.Laws.{Lawful}

-- what is equal has equal figures
abbrev pub figured : {F : Type 0} {c d : Class F} → c ≡ d → c.figure ≡ d.figure
figured {F} e = ap (λ (c : Class F). c.figure) e

module _ (s : Scale ℕ) (v : ℕ) where
  pub class-is : {d : Class ℕ} {x : ℕ} → v ≤ 99999 → class_of s v ≡ d → d.figure ≡ x → Some x ≡ metres_figure s v
  unfolding metres_figure
  class-is l e f = rw (le-leb v 99999 l) (ap Some (sym (figured e ∙ f)))

  pub too_far : 99999 < v → None ≡ metres_figure s v
  unfolding metres_figure
  too_far h = rw (lt-leb v 99999 h)

module _ (v : ℕ) where
  pub range-is : {d : Class Range} {x : Range} → v ≤ 99999 → class_of runway v ≡ d → d.figure ≡ x → Some x ≡ range_figure v
  unfolding range_figure
  range-is l e f = rw (le-leb v 99999 l) (ap Some (sym (figured e ∙ f)))

  pub range-too-far : 99999 < v → None ≡ range_figure v
  unfolding range_figure
  range-too-far h = rw (lt-leb v 99999 h)

-- the reading of a figure, where r is what the scale has for it
pub read_is : (s : Scale ℕ) (f : ℕ) {r : Option ℕ} → read_of eqb s f ≡ r → r ≡ metres_reading s f
unfolding metres_reading
read_is s f e = sym e

-- a figure that is g is read as g is
pub read_same : (s : Scale ℕ) {f g : ℕ} → f ≡ g → metres_reading s g ≡ metres_reading s f
read_same s e = ap (metres_reading s) (sym e)

pub foot-is : (s : Scale ℕ) (f : ℕ) {m x : ℕ} → read_of eqb s f ≡ Some m → m ≡ x → Some x ≡ metres_reading s f
foot-is s f e g = ap Some (sym g) ∙ read_is s f e

pub range-read-is : (f : Range) {r : Option ℕ} → read_of same_range runway f ≡ r → r ≡ range_reading f
unfolding range_reading
range-read-is f e = sym e

-- ---- the answers from outside: the figure of a value's class, or that the value may not be written, whatever the answers are made with

module _ {F A : Type 0} (is : F → A) (out : A) (never : (a : F) → out ≡ is a → ⊥) (x : F) (m : ℕ) where
  told : (f : F) → cond (leb m 99999) (is x) out ≡ is f → is f ≡ is x
  told f e = go (leb m 99999) e
    where
      go : (b : Bool) → cond b (is x) out ≡ is f → is f ≡ is x
      go true e = sym e
      go false e = absurd (never f e)

  beyond : cond (leb m 99999) (is x) out ≡ out → 99999 < m
  beyond e = go (leb m 99999) refl e
    where
      go : (b : Bool) → leb m 99999 ≡ b → cond b (is x) out ≡ out → 99999 < m
      go true l e = absurd (never x (sym e))
      go false l e = leb-false m 99999 l

no-figure : (f : ℕ) → None ≡ Some f → ⊥
no-figure f e = impossible (cc)

no-range : (r : Range) → None ≡ Some r → ⊥
no-range r e = impossible (cc)

module _ (s : Scale ℕ) (m : ℕ) where
  pub figure-told : {f : ℕ} → metres_figure s m ≡ Some f → f ≡ figure_of s m
  unfolding metres_figure
  figure-told {f} e = let i = told Some None no-figure (figure_of s m) m f e in cc

  pub figure-beyond : metres_figure s m ≡ None → 99999 < m
  unfolding metres_figure
  figure-beyond e = beyond Some None no-figure (figure_of s m) m e

module _ (m : ℕ) where
  pub range-told : {f : Range} → range_figure m ≡ Some f → f ≡ figure_of runway m
  unfolding range_figure
  range-told {f} e = let i = told Some None no-range (figure_of runway m) m f e in cc

  pub range-beyond : range_figure m ≡ None → 99999 < m
  unfolding range_figure
  range-beyond e = beyond Some None no-range (figure_of runway m) m e

-- ---- what may be written has the figure of its class, which is read as the foot, and the foot may be written and has the same figure

pub foot-low : {F : Type 0} {same : F → F → Bool} {s : Scale F} → Lawful same s → (m : ℕ) → leb m 99999 ≡ true → leb (foot_of s m) 99999 ≡ true
foot-low {s = s} laws m h = le-leb (foot_of s m) 99999 (omega (arith, laws.not-above m, leb-true m 99999 h))

module _ {s : Scale ℕ} (laws : Lawful eqb s) (m : ℕ) where
  pub metres-read : metres_reading s (figure_of s m) ≡ Some (foot_of s m)
  unfolding metres_reading
  metres-read = rw (laws.reads-back m)

  pub metres-again : leb m 99999 ≡ true → metres_figure s (foot_of s m) ≡ metres_figure s m
  unfolding metres_figure
  metres-again h = rw (foot-low laws m h, h, laws.again m)

pub metres-written : (s : Scale ℕ) (m : ℕ) → leb m 99999 ≡ true → metres_figure s m ≡ Some (figure_of s m)
unfolding metres_figure
metres-written s m h = rw h
