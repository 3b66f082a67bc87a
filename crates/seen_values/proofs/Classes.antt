-- What may have been seen on the six scales in metres, of the heights of layers and of the depth of deposits. The laws of the loop that finds a class by its
-- limits; that it finds the classes of each scale, by a test that is computed over the whole scale; and that the values of the class are exactly those that
-- come back as its reading.
-- Assumes nothing.
use Rattle.std.specs.Prelude.{None, Option, Some}
use mathlib.Core.Path.{◌≡◌, refl, sym, ap, ◌∙◌}
use mathlib.Core.Bool.{Bool, true, false, cond, ◌&&◌, and-eq-true_iff, false≢true}
use mathlib.Core.List.{List, [], ◌∷◌}
use mathlib.Core.Logic.{⊎_elim}
use Prim.Native.Nat.{ℕ, ◌+◌, ◌-◌, ◌≤◌, ◌<◌, min}
use native.Mathlib.Omega.{arith}
use native.Mathlib.Numerals.{add-one}
use lib.Dec.{ltb, eqb}
use lib.ListN.{length, drop, get_or, drop_of_length-le}
use lib.Seq.{drop-cons}
use borrow.Author.Tests.{le-leb, lt-leb, eqb-true, ne_eqb}
use Rattle.figures.proofs.Impossible.{impossible}
use Rattle.scales.specs.Scale.{Class, Scale, Length, class_in, length_in, length_of, figure_of, foot_of, rising, run}
use Rattle.scales.specs.Metres.{metres_figure, metres_reading, range_figure, range_reading, land, sea, base, visibility, runway, cloud}
use Rattle.scales.specs.Depth.{depth}
use Rattle.scales.specs.Layers.{raised, layer_steps, layer_bands}
use Rattle.scales.specs.declared.kinds.Range.{Range}
use Rattle.scales.proofs.Laws.{Lawful, reached}
use Rattle.scales.proofs.Runs.{under, onto, rises}
use Rattle.scales.proofs.LayersLaws.{class-raised, length-raised}
use Rattle.scales.proofs.Answers.{figure-told, range-told, metres-read}
use Rattle.scales.proofs.MetresLaws.{runway-laws}
use Rattle.scales.proofs.MetresRounds.{MetresRounds, runway-rounds}
use Rattle.seen_values.specs.Seen.{from_foot, seen_on}
use Rattle.seen_values.specs.Steps.{if_foot, class_by}
use Rattle.seen_values.specs.declared.kinds.Seen.{Seen}
use Rattle.seen_values.specs.declared.kinds.Seen.TheVariants as seen

-- ---- the loop: one limit after the other
module _ (limits spans : List ℕ) (m i : ℕ) where
  pub here : i < length limits → i < length spans
      → class_by (drop i limits) (drop i spans) m ≡ cond (ltb m (get_or limits i 0)) (seen.Between m (m + get_or spans i 0)) (class_by (drop (i + 1) limits) (drop (i + 1) spans) m)
  unfolding class_by
  here h k = rw (add-one, drop-cons limits i 0 h, drop-cons spans i 0 k)

  pub over : min (length limits) (length spans) ≤ i → class_by (drop i limits) (drop i spans) m ≡ seen.From m
  over e =
      ⊎_elim
      (λ h. rw (drop_of_length-le limits {i = i} h) (unfold class_by in refl))
      (λ k. rw (drop_of_length-le spans {i = i} (omega arith)) (no_span (drop i limits)))
      (reached (length limits) i)
    where
      no_span : (ls : List ℕ) → class_by ls [] m ≡ seen.From m
      no_span [] = unfold class_by in refl
      no_span (l ∷ ls) = unfold class_by in refl

-- ---- the class of each foot, by a test over the whole scale
abbrev pub is_between : Seen → ℕ → ℕ → Bool
is_between (seen.Between a b) least greatest = eqb a least && eqb b greatest
is_between (seen.From a) least greatest = false
is_between seen.Nothing least greatest = false

abbrev pub is_from : Seen → ℕ → Bool
is_from (seen.Between a b) least = false
is_from (seen.From a) least = eqb a least
is_from seen.Nothing least = false

between_is : (x : Seen) (a b : ℕ) → is_between x a b ≡ true → x ≡ seen.Between a b
between_is (seen.Between c d) a b e =
    let p = (and-eq-true_iff (eqb c a) (eqb d b)).0 e in
    rw (eqb-true c a p.0, eqb-true d b p.1)
between_is (seen.From c) a b e = absurd (false≢true e)
between_is seen.Nothing a b e = absurd (false≢true e)

from_is : (x : Seen) (a : ℕ) → is_from x a ≡ true → x ≡ seen.From a
from_is (seen.Between c d) a e = absurd (false≢true e)
from_is (seen.From c) a e = rw (eqb-true c a e)
from_is seen.Nothing a e = absurd (false≢true e)

module _ {F : Type 0} (of : ℕ → Seen) where
  -- `of` gives each class from its foot to the last value before the next foot
  unfoldable pub follows : Class F → List (Class F) → Bool
  follows c [] = is_from (of c.foot) c.foot
  follows c (d ∷ ds) = is_between (of c.foot) c.foot (d.foot - 1) && follows d ds

  -- then it gives at every foot what the length of its class says
  begins : (c : Class F) (ds : List (Class F)) (m : ℕ) → rising c ds ≡ true → follows c ds ≡ true → (class_in c ds m).foot ≡ m → from_foot m (length_in c ds m) ≡ of m
  unfolding follows length_in
  begins c [] m r t e =
      let f : c.foot ≡ m = unfold class_in in e in
      sym (from_is (of m) m (rw f at t))
  begins c (d ∷ ds) m r t e =
      let p = (and-eq-true_iff (is_between (of c.foot) c.foot (d.foot - 1)) (follows d ds)).0 t in
      ⊎_elim
      (λ h. rw (le-leb d.foot m h) (begins d ds m (rises c d ds r).1 p.1 (rw (onto d ds m h c) at e)))
      (λ h.
      let f : c.foot ≡ m = rw (under d ds m h c) at e in
      let b : of m ≡ seen.Between m (d.foot - 1) = between_is (of m) m (d.foot - 1) (rw f at p.0) in
      let g : m + (d.foot - c.foot) - 1 ≡ d.foot - 1 = omega (arith, f, h) in
      rw (lt-leb d.foot m h, b, g))
      (reached d.foot m)

-- ---- the code's answers
module _ {F : Type 0} {same : F → F → Bool} {s : Scale F} (laws : Lawful same s) (of : ℕ → Seen) (t : follows of s.lowest s.above ≡ true) (m : ℕ) where
  -- the reading of its own figure is the foot of its class
  foot-seen : if_foot m (Some (foot_of s m)) (of m) ≡ seen_on s m
  unfolding seen_on
  foot-seen = go (eqb (foot_of s m) m) refl
    where
      go : (b : Bool) → eqb (foot_of s m) m ≡ b → cond b (of m) seen.Nothing ≡ cond b (from_foot m (length_of s m)) seen.Nothing
      go true e = sym (begins of s.lowest s.above m laws.feet-rise t (eqb-true (foot_of s m) m e))
      go false e = refl

  -- what may not be written is no foot
  none_seen : (foot_of s m ≡ m → ⊥) → seen.Nothing ≡ seen_on s m
  unfolding seen_on
  none_seen n = rw (ne_eqb (foot_of s m) m n)

-- a scale with whole numbers for figures, its limits and its spans
module _ (s : Scale ℕ) (laws : Lawful eqb s) (rounds : MetresRounds s) (limits spans : List ℕ) (t : follows (class_by limits spans) s.lowest s.above ≡ true) (m : ℕ) {w : Option ℕ} (is : w ≡ metres_figure s m) where
  pub by-figure : {own : Option ℕ} {class : Seen} {f : ℕ} → w ≡ Some f → own ≡ metres_reading s f → class ≡ class_by limits spans m → if_foot m own class ≡ seen_on s m
  by-figure e o c =
      let f = figure-told s m (sym is ∙ e) in
      rw (o, c, f, metres-read laws m) (foot-seen laws (class_by limits spans) t m)

  pub by-none : w ≡ None → seen.Nothing ≡ seen_on s m
  by-none e =
      none_seen laws (class_by limits spans) t m
      (λ g. let o : metres_figure s m ≡ Some (figure_of s m) = rounds.own (figure_of s m) m (metres-read laws m ∙ ap Some g) in impossible (cc))

-- the same of runway ranges
range-read : (m : ℕ) → range_reading (figure_of runway m) ≡ Some (foot_of runway m)
unfolding range_reading
range-read m = rw (runway-laws.reads-back m)

module _ (limits spans : List ℕ) (t : follows (class_by limits spans) runway.lowest runway.above ≡ true) (m : ℕ) {w : Option Range} (is : w ≡ range_figure m) where
  pub by-range : {own : Option ℕ} {class : Seen} {f : Range} → w ≡ Some f → own ≡ range_reading f → class ≡ class_by limits spans m → if_foot m own class ≡ seen_on runway m
  by-range e o c =
      let f = range-told m (sym is ∙ e) in
      rw (o, c, f, range-read m) (foot-seen runway-laws (class_by limits spans) t m)

  pub by-no-range : w ≡ None → seen.Nothing ≡ seen_on runway m
  by-no-range e =
      none_seen runway-laws (class_by limits spans) t m
      (λ g. let o : range_figure m ≡ Some (figure_of runway m) = runway-rounds.own (figure_of runway m) m (range-read m ∙ ap Some g) in impossible (cc))

-- ---- the limits and spans of each scale
pub land-follows : follows (class_by (5000 ∷ 30000 ∷ 70000 ∷ 70001 ∷ []) (99 ∷ 999 ∷ 4999 ∷ 0 ∷ [])) land.lowest land.above ≡ true
unfolding land run follows class_by
land-follows = refl

pub sea-follows : follows (class_by (50 ∷ 200 ∷ 500 ∷ 1000 ∷ 2000 ∷ 4000 ∷ 10000 ∷ 20000 ∷ 50000 ∷ []) (49 ∷ 149 ∷ 299 ∷ 499 ∷ 999 ∷ 1999 ∷ 5999 ∷ 9999 ∷ 29999 ∷ [])) sea.lowest sea.above ≡ true
unfolding sea follows class_by
sea-follows = refl

pub base-follows : follows (class_by (50 ∷ 100 ∷ 200 ∷ 300 ∷ 600 ∷ 1000 ∷ 1500 ∷ 2000 ∷ 2500 ∷ []) (49 ∷ 49 ∷ 99 ∷ 99 ∷ 299 ∷ 399 ∷ 499 ∷ 499 ∷ 499 ∷ [])) base.lowest base.above ≡ true
unfolding base follows class_by
base-follows = refl

pub visibility-follows : follows (class_by (800 ∷ 5000 ∷ 10000 ∷ []) (49 ∷ 99 ∷ 999 ∷ [])) visibility.lowest visibility.above ≡ true
unfolding visibility run follows class_by
visibility-follows = refl

pub runway-follows : follows (class_by (50 ∷ 400 ∷ 800 ∷ 2000 ∷ 2001 ∷ []) (49 ∷ 24 ∷ 49 ∷ 99 ∷ 0 ∷ [])) runway.lowest runway.above ≡ true
unfolding runway run follows class_by
runway-follows = refl

pub cloud-follows : follows (class_by (3000 ∷ 30000 ∷ []) (29 ∷ 299 ∷ [])) cloud.lowest cloud.above ≡ true
unfolding cloud run follows class_by
cloud-follows = refl

pub depth-follows : follows (class_by (90 ∷ 100 ∷ 400 ∷ []) (0 ∷ 9 ∷ 49 ∷ [])) depth.lowest depth.above ≡ true
unfolding depth run follows class_by
depth-follows = refl

pub steps-follows : follows (class_by (1500 ∷ 1800 ∷ 9000 ∷ 21000 ∷ 21001 ∷ []) (29 ∷ 299 ∷ 299 ∷ 1499 ∷ 0 ∷ [])) layer_steps.lowest layer_steps.above ≡ true
unfolding layer_steps run follows class_by
steps-follows = refl

-- what may have been seen by bands is what may have been seen on 1600 h: the figures alone are others
raised-seen : (n : ℕ) (s : Scale ℕ) (m : ℕ) → seen_on s m ≡ seen_on (raised n s) m
unfolding seen_on
raised-seen n s m =
    let foot : foot_of s m ≡ foot_of (raised n s) m = ap (λ (c : Class ℕ). c.foot) (sym (class-raised n s m)) in
    ap (λ (f : ℕ). cond (eqb f m) (from_foot m (length_of s m)) seen.Nothing) foot
    ∙ ap (λ (l : Length). cond (eqb (foot_of (raised n s) m) m) (from_foot m l) seen.Nothing) (sym (length-raised n s m))

pub bands-seen : (m : ℕ) → seen_on base m ≡ seen_on layer_bands m
unfolding layer_bands
bands-seen m = raised-seen 90 base m
