-- Heights by table 1677 as the code comes to them: the foot of a height's class, and that layers which do not fall still do not fall as they are read back.
-- Assumes nothing.
use Rattle.std.specs.Prelude.{None, Option, Some}
use Prim.Native.Nat.{ℕ}
use native.Mathlib.Omega.{arith}
use mathlib.Core.Path.{◌≡◌, refl, sym, ap, ◌∙◌}
use mathlib.Core.List.{List, [], ◌∷◌, map}
use lib.Dec.{eqb}
use Rattle.figures.proofs.Impossible.{impossible}
use Rattle.scales.specs.Scale.{Class, Scale, run, last_in, foot_of}
use Rattle.scales.specs.Metres.{base, metres_figure, metres_reading}
use Rattle.scales.specs.Layers.{layer_steps, layer_bands}
use Rattle.scales.proofs.Laws.{Lawful}
use Rattle.scales.proofs.Answers.{figure-told, figure-beyond, metres-read}
use Rattle.scales.proofs.LayersLaws.{steps-laws, bands-laws}
use Rattle.record.specs.declared.surface.CloudLayer.{CloudLayer}
use Rattle.synop_groups.specs.Classes.{class_layer}
use Rattle.synop_groups.proofs.RoundTripLayer.{height-twice}
use Rattle.section3.specs.Row.{follows, rises}

-- ---- the foot, from the figure and its reading

module _ {s : Scale ℕ} (laws : Lawful eqb s) (m : ℕ) {w : Option ℕ} (is : w ≡ metres_figure s m) {f : ℕ} (figured : w ≡ Some f) {r : Option ℕ}
    (asked : r ≡ metres_reading s f) where
  told : r ≡ Some (foot_of s m)
  told = asked ∙ rw (figure-told s m (sym is ∙ figured)) (metres-read laws m)

  pub foot-told : {n : ℕ} → r ≡ Some n → n ≡ foot_of s m
  foot-told e = let t = told in cc

  pub always-told : r ≡ None → ⊥
  always-told e = let t = told in impossible (cc)

-- a height that may not be written is of the last class
pub open-steps : (m : ℕ) → metres_figure layer_steps m ≡ None → 21001 ≡ foot_of layer_steps m
unfolding layer_steps run last_in
open-steps m e = sym (ap (λ (c : Class ℕ). c.foot) (steps-laws.last m (omega (arith, figure-beyond layer_steps m e))))

pub open-bands : (m : ℕ) → metres_figure layer_bands m ≡ None → 2500 ≡ foot_of layer_bands m
unfolding layer_bands base last_in
open-bands m e = sym (ap (λ (c : Class ℕ). c.foot) (bands-laws.last m (omega (arith, figure-beyond layer_bands m e))))

-- ---- as they are read back

follows-classed : (a l : CloudLayer) → follows (class_layer a) (class_layer l) ≡ follows a l
follows-classed a l = rw (height-twice a.height, height-twice l.height)

pub rises-classed : (before : List CloudLayer) (l : CloudLayer) → rises (map class_layer before) (class_layer l) ≡ rises before l
rises-classed [] l = refl
rises-classed (a ∷ before) l = rw (follows-classed a l, rises-classed before l)
