-- The laws of a scale, once over any list of classes whose feet rise and whose figures differ; each scale has them by `lawful`.
-- Assumes nothing.
use Rattle.std.specs.Prelude.{None, Some}
use mathlib.Core.Path.{◌≡◌, refl, sym, ap, ◌∙◌}
use mathlib.Core.Bool.{Bool, true, false, not, ◌&&◌, and-eq-true_iff, false≢true}
use mathlib.Core.List.{List, [], ◌∷◌}
use mathlib.Core.Logic.{◌⊎◌, inl, inr, ⊎_elim}
use Prim.Native.Nat.{ℕ, ◌+◌, ◌-◌, ◌≤◌, ◌<◌}
use native.Mathlib.Omega.{arith}
use lib.Dec.{leb}
use borrow.Author.Tests.{le-leb, lt-leb, leb-true, leb-false, not-true}
use Rattle.figures.proofs.Impossible.{impossible}
use Rattle.scales.specs.Scale.{Class, Of, Open, Scale, class_in, length_in, last_in, read_in, class_of, length_of, figure_of, foot_of, read_of, rising, unlike, distinct}
use Rattle.scales.proofs.Runs.{under, onto, rises}

-- a test that decides whether two figures are one
pub record Decides {F : Type 0} (same : F → F → Bool) : Type 0 where
  pub one : (a b : F) → same a b ≡ true → a ≡ b
  pub itself : (a : F) → same a a ≡ true

pub record Lawful {F : Type 0} (same : F → F → Bool) (s : Scale F) : Type 0 where
  -- the feet rise
  pub feet-rise : rising s.lowest s.above ≡ true
  -- the reading is not above the value
  pub not-above : (v : ℕ) → foot_of s v ≤ v
  -- the value less its reading is smaller than the class's length
  pub within : (v l : ℕ) → length_of s v ≡ Of l → v < foot_of s v + l
  -- and only the last class is open above
  pub open-last : (v : ℕ) → length_of s v ≡ Open → class_of s v ≡ last_in s.lowest s.above
  -- which every value has from its foot on
  pub last : (v : ℕ) → (last_in s.lowest s.above).foot ≤ v → class_of s v ≡ last_in s.lowest s.above
  -- the greater value never reads smaller
  pub order : (v w : ℕ) → v ≤ w → foot_of s v ≤ foot_of s w
  -- a value is read as the greatest foot not above it
  pub greatest : (f : F) (m v : ℕ) → read_of same s f ≡ Some m → m ≤ v → m ≤ foot_of s v
  -- what is written reads back as the class's foot
  pub reads-back : (v : ℕ) → read_of same s (figure_of s v) ≡ Some (foot_of s v)
  -- each used figure is the one written for its own reading
  pub own : (f : F) (m : ℕ) → read_of same s f ≡ Some m → figure_of s m ≡ f
  -- so writing the reading gives the same figure
  pub again : (v : ℕ) → figure_of s (foot_of s v) ≡ figure_of s v
  -- a figure without a reading is written for no value
  pub unused : (f : F) → read_of same s f ≡ None → (v : ℕ) → figure_of s v ≡ f → ⊥

-- a foot is reached, or it is above
pub reached : (a v : ℕ) → (a ≤ v) ⊎ (v < a)
reached a v = elim (leb a v) as (λ b. leb a v ≡ b → (a ≤ v) ⊎ (v < a)) [ true ↦ λ e. inl (leb-true a v e) | false ↦ λ e. inr (leb-false a v e) ] refl

module _ {F : Type 0} where
  -- ---- whatever the feet
  below_in : (c : Class F) (ds : List (Class F)) (v : ℕ) → c.foot ≤ v → (class_in c ds v).foot ≤ v
  below_in c [] v h = unfold class_in in h
  below_in c (d ∷ ds) v h =
      ⊎_elim (λ w. rw (onto d ds v w c) (below_in d ds v w)) (λ w. rw (under d ds v w c) h) (reached d.foot v)

  within_in : (c : Class F) (ds : List (Class F)) (v l : ℕ) → c.foot ≤ v → length_in c ds v ≡ Of l → v < (class_in c ds v).foot + l
  unfolding length_in
  within_in c [] v l h e = impossible (cc)
  within_in c (d ∷ ds) v l h e =
      ⊎_elim
      (λ w. rw (onto d ds v w c) (within_in d ds v l w (rw (le-leb d.foot v w) at e)))
      (λ w. let f : Of (d.foot - c.foot) ≡ Of l = rw (lt-leb d.foot v w) at e in let g : d.foot - c.foot ≡ l = cc in rw (under d ds v w c) (omega arith))
      (reached d.foot v)

  open_in : (c : Class F) (ds : List (Class F)) (v : ℕ) → length_in c ds v ≡ Open → class_in c ds v ≡ last_in c ds
  unfolding length_in last_in
  open_in c [] v e = unfold class_in in refl
  open_in c (d ∷ ds) v e =
      ⊎_elim
      (λ w. onto d ds v w c ∙ open_in d ds v (rw (le-leb d.foot v w) at e))
      (λ w. let f : Of (d.foot - c.foot) ≡ Open = rw (lt-leb d.foot v w) at e in impossible (cc))
      (reached d.foot v)

  -- ---- where the feet rise
  pub above_in : (c : Class F) (ds : List (Class F)) (v : ℕ) → rising c ds ≡ true → c.foot ≤ (class_in c ds v).foot
  above_in c [] v r = unfold class_in in omega arith
  above_in c (d ∷ ds) v r =
      ⊎_elim
      (λ w. rw (onto d ds v w c) (omega (arith, (rises c d ds r).0, above_in d ds v (rises c d ds r).1)))
      (λ w. rw (under d ds v w c) (omega arith))
      (reached d.foot v)

  last-above : (c : Class F) (ds : List (Class F)) → rising c ds ≡ true → c.foot ≤ (last_in c ds).foot
  unfolding last_in
  last-above c [] r = omega arith
  last-above c (d ∷ ds) r = omega (arith, (rises c d ds r).0, last-above d ds (rises c d ds r).1)

  last-in : (c : Class F) (ds : List (Class F)) (v : ℕ) → rising c ds ≡ true → (last_in c ds).foot ≤ v → class_in c ds v ≡ last_in c ds
  unfolding last_in
  last-in c [] v r h = unfold class_in in refl
  last-in c (d ∷ ds) v r h =
      let t = (rises c d ds r).1 in
      onto d ds v (omega (arith, last-above d ds t)) c ∙ last-in d ds v t h

  order-in : (c : Class F) (ds : List (Class F)) (v w : ℕ) → rising c ds ≡ true → v ≤ w → (class_in c ds v).foot ≤ (class_in c ds w).foot
  order-in c [] v w r h = unfold class_in in omega arith
  order-in c (d ∷ ds) v w r h =
      ⊎_elim
      (λ g. let i : d.foot ≤ w = omega arith in rw (onto d ds v g c, onto d ds w i c) (order-in d ds v w (rises c d ds r).1 h))
      (λ g. rw (under d ds v g c) (above_in c (d ∷ ds) w r))
      (reached d.foot v)

  module _ (same : F → F → Bool) (dec : Decides same) where
    -- a reading is that of the first class, whose figure it is then, or one in the rest
    pub read_head : (c : Class F) (cs : List (Class F)) (f : F) (m : ℕ) → read_in same (c ∷ cs) f ≡ Some m
        → ((c.figure ≡ f) × (c.foot ≡ m)) ⊎ (read_in same cs f ≡ Some m)
    unfolding read_in
    read_head c cs f m e =
        elim (same c.figure f) as (λ b. same c.figure f ≡ b → ((c.figure ≡ f) × (c.foot ≡ m)) ⊎ (read_in same cs f ≡ Some m)) [
          | true ↦ λ t. let g : Some c.foot ≡ Some m = rw t at e in inl (dec.one c.figure f t, (cc))
          | false ↦ λ t. inr (rw t at e)
        ]
        refl

    pub none_left : (f : F) (m : ℕ) → read_in same [] f ≡ Some m → ⊥
    unfolding read_in
    none_left f m e = impossible (cc)

    -- no reading is below the lowest foot
    read_above : (c : Class F) (ds : List (Class F)) (f : F) (m : ℕ) → rising c ds ≡ true → read_in same (c ∷ ds) f ≡ Some m → c.foot ≤ m
    read_above c [] f m r e =
        ⊎_elim (λ p. omega (arith, p.1)) (λ g. absurd (none_left f m g)) (read_head c [] f m e)
    read_above c (d ∷ ds) f m r e =
        ⊎_elim
        (λ p. omega (arith, p.1))
        (λ g. omega (arith, (rises c d ds r).0, read_above d ds f m (rises c d ds r).1 g))
        (read_head c (d ∷ ds) f m e)

    greatest-in : (c : Class F) (ds : List (Class F)) (f : F) (m v : ℕ) → rising c ds ≡ true → read_in same (c ∷ ds) f ≡ Some m → m ≤ v
        → m ≤ (class_in c ds v).foot
    greatest-in c [] f m v r e h =
        ⊎_elim
        (λ p. omega (arith, p.1, above_in c [] v r))
        (λ g. absurd (none_left f m g))
        (read_head c [] f m e)
    greatest-in c (d ∷ ds) f m v r e h =
        ⊎_elim
        (λ p. omega (arith, p.1, above_in c (d ∷ ds) v r))
        (λ g. let t = (rises c d ds r).1 in rw (onto d ds v (omega (arith, read_above d ds f m t g)) c) (greatest-in d ds f m v t g h))
        (read_head c (d ∷ ds) f m e)

    at-foot : (c : Class F) (ds : List (Class F)) → rising c ds ≡ true → class_in c ds c.foot ≡ c
    at-foot c [] r = unfold class_in in refl
    at-foot c (d ∷ ds) r = under d ds c.foot (rises c d ds r).0 c

    own_in : (c : Class F) (ds : List (Class F)) (f : F) (m : ℕ) → rising c ds ≡ true → read_in same (c ∷ ds) f ≡ Some m → (class_in c ds m).figure ≡ f
    own_in c [] f m r e =
        ⊎_elim
        (λ p. rw (← p.1, at-foot c [] r) p.0)
        (λ g. absurd (none_left f m g))
        (read_head c [] f m e)
    own_in c (d ∷ ds) f m r e =
        ⊎_elim
        (λ p. rw (← p.1, at-foot c (d ∷ ds) r) p.0)
        (λ g. let t = (rises c d ds r).1 in rw (onto d ds m (read_above d ds f m t g) c) (own_in d ds f m t g))
        (read_head c (d ∷ ds) f m e)

    -- ---- where the figures differ
    turned : (a b : F) → same a b ≡ false → same b a ≡ false
    turned a b e =
        elim (same b a) as (λ t. same b a ≡ t → t ≡ false) [
          | true ↦ λ t. absurd (false≢true (sym e ∙ ap (λ (x : F). same a x) (dec.one b a t) ∙ dec.itself a))
          | false ↦ λ t. refl
        ]
        refl

    unlike-head : (g : F) (c : Class F) (cs : List (Class F)) → unlike same g (c ∷ cs) ≡ true
        → (same c.figure g ≡ false) × (unlike same g cs ≡ true)
    unfolding unlike
    unlike-head g c cs u =
        let p = (and-eq-true_iff (not (same c.figure g)) (unlike same g cs)).0 u in
        (not-true (same c.figure g) p.0, p.1)

    unlike-in : (g : F) (c : Class F) (ds : List (Class F)) (v : ℕ) → unlike same g (c ∷ ds) ≡ true → same (class_in c ds v).figure g ≡ false
    unlike-in g c [] v u = unfold class_in in (unlike-head g c [] u).0
    unlike-in g c (d ∷ ds) v u =
        ⊎_elim
        (λ w. rw (onto d ds v w c) (unlike-in g d ds v (unlike-head g c (d ∷ ds) u).1))
        (λ w. rw (under d ds v w c) (unlike-head g c (d ∷ ds) u).0)
        (reached d.foot v)

    read_first : (c : Class F) (cs : List (Class F)) → read_in same (c ∷ cs) c.figure ≡ Some c.foot
    unfolding read_in
    read_first c cs = rw (dec.itself c.figure)

    read-later : (c : Class F) (cs : List (Class F)) (f : F) → same f c.figure ≡ false → read_in same (c ∷ cs) f ≡ read_in same cs f
    unfolding read_in
    read-later c cs f e = rw (turned f c.figure e)

    back_in : (c : Class F) (ds : List (Class F)) (v : ℕ) → distinct same (c ∷ ds) ≡ true
        → read_in same (c ∷ ds) (class_in c ds v).figure ≡ Some (class_in c ds v).foot
    unfolding distinct
    back_in c [] v u = unfold class_in in read_first c []
    back_in c (d ∷ ds) v u =
        let p = (and-eq-true_iff (unlike same c.figure (d ∷ ds)) (distinct same (d ∷ ds))).0 u in
        ⊎_elim
        (λ w. rw (onto d ds v w c) (read-later c (d ∷ ds) (class_in d ds v).figure (unlike-in c.figure d ds v p.0) ∙ back_in d ds v p.1))
        (λ w. rw (under d ds v w c) (read_first c (d ∷ ds)))
        (reached d.foot v)

-- ---- what the figures of all classes are, by a test, the figure of every value is

module _ {F : Type 0} (ok : F → Bool) where
  abbrev pub each_figure : List (Class F) → Bool
  each_figure [] = true
  each_figure (c ∷ cs) = ok c.figure && each_figure cs

  figure-in : (c : Class F) (ds : List (Class F)) (v : ℕ) → each_figure (c ∷ ds) ≡ true → ok (class_in c ds v).figure ≡ true
  figure-in c [] v e = unfold class_in in ((and-eq-true_iff (ok c.figure) true).0 e).0
  figure-in c (d ∷ ds) v e =
      let t = (and-eq-true_iff (ok c.figure) (each_figure (d ∷ ds))).0 e in
      ⊎_elim (λ w. rw (onto d ds v w c) (figure-in d ds v t.1)) (λ w. rw (under d ds v w c) t.0) (reached d.foot v)

  pub figure-such : (s : Scale F) (v : ℕ) → each_figure (s.lowest ∷ s.above) ≡ true → ok (figure_of s v) ≡ true
  figure-such s v e = figure-in s.lowest s.above v e

-- Every scale whose lowest foot is 0, whose feet rise and whose figures differ has all of these.
pub lawful : {F : Type 0} (same : F → F → Bool) (s : Scale F) → Decides same → s.lowest.foot ≡ 0 → rising s.lowest s.above ≡ true
    → distinct same (s.lowest ∷ s.above) ≡ true → Lawful same s
lawful {F} same s dec z r u =
    record {
      feet-rise = r;
      not-above = λ v. below_in s.lowest s.above v (omega arith);
      within = λ v l e. within_in s.lowest s.above v l (omega arith) e;
      open-last = open_in s.lowest s.above;
      last = λ v h. last-in s.lowest s.above v r h;
      order = λ v w h. order-in s.lowest s.above v w r h;
      greatest = λ f m v e h. greatest-in same dec s.lowest s.above f m v r e h;
      reads-back = back;
      own = mine;
      again = λ v. mine (figure_of s v) (foot_of s v) (back v);
      unused = λ f e v g. let h : None ≡ Some (foot_of s v) = sym e ∙ ap (read_of same s) (sym g) ∙ back v in impossible (cc);
    }
  where
    back : (v : ℕ) → read_of same s (figure_of s v) ≡ Some (foot_of s v)
    back v = back_in same dec s.lowest s.above v u

    mine : (f : F) (m : ℕ) → read_of same s f ≡ Some m → figure_of s m ≡ f
    mine f m e = own_in same dec s.lowest s.above f m r e
