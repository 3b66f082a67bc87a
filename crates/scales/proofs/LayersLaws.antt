-- The laws of the two scales of table 1677: each passes the tests of `lawful`, and all their feet may be written. And what a scale with raised figures has of
-- the scale that it is made of: its classes, so its figures and readings, and how long its classes are.
-- Assumes nothing.
use Rattle.std.specs.Prelude.{None, Some}
use mathlib.Core.Path.{◌≡◌, refl, sym, ap, ◌∙◌}
use mathlib.Core.Bool.{Bool, true, false, false≢true}
use mathlib.Core.List.{List, [], ◌∷◌, map}
use mathlib.Core.Logic.{⊎_elim}
use Prim.Native.Nat.{ℕ, ◌+◌, ◌-◌, ◌≤◌, ◌<◌}
use native.Mathlib.Omega.{arith}
use lib.Dec.{eqb}
use borrow.Author.Tests.{le-leb, lt-leb, eqb-true, eq-eqb, ne_eqb}
use Rattle.scales.specs.Scale.{Class, Scale, run, class_in, length_in, read_in, class_of, length_of, read_of, rising, unlike, distinct}
use Rattle.figures.proofs.Impossible.{impossible}
use Rattle.scales.specs.Metres.{base, metres_figure, metres_reading}
use Rattle.scales.specs.Layers.{layer_steps, raised_class, raised, layer_bands}
use Rattle.scales.proofs.Laws.{Lawful, lawful, reached}
use Rattle.scales.proofs.Answers.{class-is, figure-told, figure-beyond, too_far}
use Rattle.scales.proofs.MetresLaws.{numbers}
use Rattle.scales.proofs.MetresRounds.{low, MetresRounds, metres}

pub steps-laws : Lawful eqb layer_steps
unfolding layer_steps run rising unlike distinct
steps-laws = lawful eqb layer_steps numbers refl refl refl

pub steps-rounds : MetresRounds layer_steps
unfolding layer_steps run low
steps-rounds = metres layer_steps steps-laws refl

pub bands-laws : Lawful eqb layer_bands
unfolding layer_bands base rising unlike distinct
bands-laws = lawful eqb layer_bands numbers refl refl refl

pub bands-rounds : MetresRounds layer_bands
unfolding layer_bands base low
bands-rounds = metres layer_bands bands-laws refl

-- ---- raised figures

module _ (n : ℕ) where
  class-in : (c : Class ℕ) (ds : List (Class ℕ)) (v : ℕ) → class_in (raised_class n c) (map (raised_class n) ds) v ≡ raised_class n (class_in c ds v)
  unfolding class_in
  class-in c [] v = refl
  class-in c (d ∷ ds) v =
      ⊎_elim (λ h. rw (le-leb d.foot v h) (class-in d ds v)) (λ h. rw (lt-leb d.foot v h)) (reached d.foot v)

  length-in : (c : Class ℕ) (ds : List (Class ℕ)) (v : ℕ) → length_in (raised_class n c) (map (raised_class n) ds) v ≡ length_in c ds v
  unfolding length_in
  length-in c [] v = refl
  length-in c (d ∷ ds) v =
      ⊎_elim (λ h. rw (le-leb d.foot v h) (length-in d ds v)) (λ h. rw (lt-leb d.foot v h)) (reached d.foot v)

  raised-same : (a f : ℕ) → eqb (n + a) (n + f) ≡ eqb a f
  raised-same a f = go (eqb a f) refl
    where
      go : (b : Bool) → eqb a f ≡ b → eqb (n + a) (n + f) ≡ b
      go true e = eq-eqb (n + a) (n + f) (ap (λ (x : ℕ). n + x) (eqb-true a f e))
      go false e = ne_eqb (n + a) (n + f) (λ h. let g : a ≡ f = omega arith in absurd (false≢true (rw g at (sym e) ∙ eq-eqb f f refl)))

  read-in : (cs : List (Class ℕ)) (f : ℕ) → read_in eqb (map (raised_class n) cs) (n + f) ≡ read_in eqb cs f
  unfolding read_in
  read-in [] f = refl
  read-in (c ∷ cs) f = rw (raised-same c.figure f, read-in cs f)

  none_below : (cs : List (Class ℕ)) (f : ℕ) → f < n → read_in eqb (map (raised_class n) cs) f ≡ None
  unfolding read_in
  none_below [] f h = refl
  none_below (c ∷ cs) f h = rw (ne_eqb (n + c.figure) f (λ e. omega arith)) (none_below cs f h)

  -- A SCALE WITH RAISED FIGURES: its classes have the same feet and lengths, figures from n on are read as those of the scale, and below n none is used.
  module _ (s : Scale ℕ) where
    pub class-raised : (v : ℕ) → class_of (raised n s) v ≡ raised_class n (class_of s v)
    class-raised = class-in s.lowest s.above

    pub length-raised : (v : ℕ) → length_of (raised n s) v ≡ length_of s v
    length-raised = length-in s.lowest s.above

    pub read-raised : (f : ℕ) → read_of eqb (raised n s) (n + f) ≡ read_of eqb s f
    read-raised = read-in (s.lowest ∷ s.above)

    pub read_below : (f : ℕ) → f < n → read_of eqb (raised n s) f ≡ None
    read_below = none_below (s.lowest ∷ s.above)

-- ---- what the code answers by bands

out-never : (v : ℕ) {f : ℕ} → 99999 < v → metres_figure base v ≡ Some f → ⊥
out-never v h e = let o : None ≡ metres_figure base v = too_far base v h in impossible (cc)

pub figure-bands : (v : ℕ) {f : ℕ} → metres_figure base v ≡ Some f → Some (90 + f) ≡ metres_figure layer_bands v
unfolding layer_bands
figure-bands v {f} e =
    ⊎_elim
    (λ h. class-is layer_bands v h (class-raised 90 base v) (ap (λ (x : ℕ). 90 + x) (sym (figure-told base v e))))
    (λ h. absurd (out-never v h e))
    (reached v 99999)

pub out-bands : (v : ℕ) → metres_figure base v ≡ None → None ≡ metres_figure layer_bands v
out-bands v e = too_far layer_bands v (figure-beyond base v e)

pub read-bands : (f : ℕ) → 90 ≤ f → metres_reading base (f - 90) ≡ metres_reading layer_bands f
unfolding metres_reading layer_bands
read-bands f h = let e : f ≡ 90 + (f - 90) = omega arith in sym (ap (read_of eqb (raised 90 base)) e ∙ read-raised 90 base (f - 90))

pub unused-bands : (f : ℕ) → f < 90 → None ≡ metres_reading layer_bands f
unfolding metres_reading layer_bands
unused-bands f h = rw (read_below 90 base f h)
