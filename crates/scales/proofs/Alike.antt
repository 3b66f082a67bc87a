-- What is read alike, once over any list of rising feet: the values that come back as a reading are those from its foot to the next foot, all from its
-- foot on where the class is the last, and no others.
-- Assumes nothing.
use mathlib.Core.Path.{◌≡◌, refl, sym, ◌∙◌}
use mathlib.Core.Bool.{Bool, true}
use mathlib.Core.List.{List, [], ◌∷◌}
use mathlib.Core.Logic.{◌↔◌, ⊎_elim}
use Prim.Native.Nat.{ℕ, ◌+◌, ◌-◌, ◌≤◌, ◌<◌}
use native.Mathlib.Omega.{arith}
use borrow.Author.Tests.{le-leb, lt-leb}
use Rattle.figures.proofs.Impossible.{impossible}
use Rattle.scales.specs.Scale.{Class, Length, Of, Open, Scale, class_in, length_in, length_of, foot_of, rising}
use Rattle.scales.proofs.Runs.{under, onto, rises}
use Rattle.scales.proofs.Laws.{Lawful, reached, above_in}

-- from a foot up to a length, or without end
abbrev pub FromFoot : ℕ → Length → ℕ → Type 0
FromFoot m (Of l) v = (m ≤ v) × (v < m + l)
FromFoot m Open v = m ≤ v

module _ {F : Type 0} where
  short : (c d : Class F) (ds : List (Class F)) (w : ℕ) → w < d.foot → length_in c (d ∷ ds) w ≡ Of (d.foot - c.foot)
  unfolding length_in
  short c d ds w h = rw (lt-leb d.foot w h)

  past : (c d : Class F) (ds : List (Class F)) (w : ℕ) → d.foot ≤ w → length_in c (d ∷ ds) w ≡ length_in d ds w
  unfolding length_in
  past c d ds w h = rw (le-leb d.foot w h)

  -- a value from the foot of w's class up to its length is read as w is
  from-foot : (c : Class F) (ds : List (Class F)) (v w : ℕ) → rising c ds ≡ true → (class_in c ds w).foot ≤ v
      → ((l : ℕ) → length_in c ds w ≡ Of l → v < (class_in c ds w).foot + l) → (class_in c ds v).foot ≡ (class_in c ds w).foot
  from-foot c [] v w r h k = unfold class_in in refl
  from-foot c (d ∷ ds) v w r h k =
      ⊎_elim
      (λ g.
      let h' : (class_in d ds w).foot ≤ v = rw (onto d ds w g c) at h in
      let a = above_in d ds w (rises c d ds r).1 in
      rw (onto d ds v (omega (arith, a, h')) c, onto d ds w g c)
      (from-foot d ds v w (rises c d ds r).1 h' (λ l e. rw (onto d ds w g c) at (k l (past c d ds w g ∙ e)))))
      (λ g.
      let k' : v < c.foot + (d.foot - c.foot) = rw (under d ds w g c) at (k (d.foot - c.foot) (short c d ds w g)) in
      rw (under d ds v (omega (arith, k', (rises c d ds r).0)) c, under d ds w g c))
      (reached d.foot w)

  -- and one that is read as w is has that length above the foot at most
  to-next : (c : Class F) (ds : List (Class F)) (v w l : ℕ) → rising c ds ≡ true → (class_in c ds v).foot ≡ (class_in c ds w).foot → length_in c ds w ≡ Of l
      → v < (class_in c ds w).foot + l
  unfolding length_in
  to-next c [] v w l r e k = impossible (cc)
  to-next c (d ∷ ds) v w l r e k =
      ⊎_elim
      (λ g.
      let a = above_in d ds w (rises c d ds r).1 in
      ⊎_elim
      (λ i. rw (onto d ds w g c) (to-next d ds v w l (rises c d ds r).1 (rw (onto d ds v i c, onto d ds w g c) at e) (sym (past c d ds w g) ∙ k)))
      (λ i. let f : c.foot ≡ (class_in d ds w).foot = rw (under d ds v i c, onto d ds w g c) at e in absurd (omega (arith, f, a, (rises c d ds r).0)))
      (reached d.foot v))
      (λ g.
      let m : Of (d.foot - c.foot) ≡ Of l = sym (short c d ds w g) ∙ k in
      let n : d.foot - c.foot ≡ l = cc in
      ⊎_elim
      (λ i.
      let f : (class_in d ds v).foot ≡ c.foot = rw (onto d ds v i c, under d ds w g c) at e in
      absurd (omega (arith, f, above_in d ds v (rises c d ds r).1, (rises c d ds r).0)))
      (λ i. rw (under d ds w g c) (omega (arith, i, n, (rises c d ds r).0)))
      (reached d.foot v))
      (reached d.foot w)

module _ {F : Type 0} {same : F → F → Bool} {s : Scale F} (laws : Lawful same s) (m : ℕ) (foot : foot_of s m ≡ m) (v : ℕ) where
  by_length : (n : Length) → length_of s m ≡ n → (foot_of s v ≡ m) ↔ FromFoot m n v
  by_length (Of l) is = (seen, λ (h, k). read h k)
    where
      seen : foot_of s v ≡ m → (m ≤ v) × (v < m + l)
      seen e =
          let a = laws.not-above v in
          let b = to-next s.lowest s.above v m l laws.feet-rise (e ∙ sym foot) is in
          (omega (arith, a, e), omega (arith, b, foot))

      read : m ≤ v → v < m + l → foot_of s v ≡ m
      read h k =
          from-foot s.lowest s.above v m laws.feet-rise (omega (arith, foot, h))
          (λ j e. let f : Of l ≡ Of j = sym is ∙ e in let g : l ≡ j = cc in omega (arith, foot, g, k))
          ∙ foot
  by_length Open is = (
    λ e. omega (arith, laws.not-above v, e),
    λ h. from-foot s.lowest s.above v m laws.feet-rise (omega (arith, foot, h)) (λ j e. let f : Open ≡ Of j = sym is ∙ e in impossible (cc)) ∙ foot,
  )

  -- The values that come back as m, where m is a reading: those of its class, and no others.
  pub alike : (foot_of s v ≡ m) ↔ FromFoot m (length_of s m) v
  alike = by_length (length_of s m) refl
