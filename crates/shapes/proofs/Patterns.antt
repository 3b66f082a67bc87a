-- The laws of patterns: the steps of the test, a pattern of pieces, the pattern of a printed field, and patterns that exclude each other.
-- Assumes nothing.
use mathlib.Core.Path.{◌≡◌, refl, sym, ap, ◌∙◌}
use mathlib.Core.Bool.{Bool, true, false, not, ◌&&◌, ◌||◌, and_assoc, and-false, and-eq-true_iff, false≢true}
use mathlib.Core.List.{List, [], ◌∷◌, ◌++◌}
use Prim.Native.Nat.{ℕ, suc, ◌+◌, ◌≤◌, ◌<◌}
use native.Mathlib.Nat.{suc_inj}
use native.Mathlib.Omega.{arith}
use lib.ListN.{length, drop, get_or, replicate}
use lib.Dec.{leb, ltb, eqb}
use borrow.Author.Tests.{le-leb, lt-leb, leb-true, ltb-true, ne_eqb, eq-eqb, eqb-true, not-true}
use Rattle.figures.specs.declared.kinds.Field.{Field}
use Rattle.figures.specs.declared.kinds.Field.TheVariants.{Number, Missing, Mixed, Other}
use Rattle.figures.specs.Figures.{is_figure, is_slash, every, figures, slashes, field_text, Fits}
use Rattle.std.proofs.lemmas.List.{drop_all, nil_from_length}
use Rattle.figures.proofs.Fields.{next}
use Rattle.figures.proofs.Figures.{length-figures, length-field, number-text, all-figures, all-slashes}
use Rattle.shapes.specs.Pattern.{Pattern, low, high, fits, more, has_pattern, has_any, apart, clash, clash_each, all_apart}

-- ---- truth

-- either of two tests
pub or_cases : {X : Type 0} (a b : Bool) → a || b ≡ true → (a ≡ true → X) → (b ≡ true → X) → X
or_cases true b e f g = f refl
or_cases false b e f g = g e

pub or_right : (a b : Bool) → b ≡ true → a || b ≡ true
or_right true b e = refl
or_right false b e = e

pub both : (a b : Bool) → a && b ≡ true → (a ≡ true) × (b ≡ true)
both a b e = (and-eq-true_iff a b).0 e

pub both_false : (a b : Bool) → (a || b) ≡ false → (a ≡ false) × (b ≡ false)
both_false true b e = absurd (false≢true (sym e))
both_false false b e = (refl, e)

pub neither : (a b : Bool) → not (a || b) ≡ true → (a ≡ false) × (b ≡ false)
neither true b e = absurd (false≢true e)
neither false b e = (refl, not-true b e)

-- ---- the steps of the test

star : (g ps : List ℕ) → has_pattern g (42 ∷ ps) ≡ true
unfolding has_pattern
star [] ps = refl
star (b ∷ g) ps = refl

-- at character i of the pattern, where g is left of the group: '*' takes all that is left, any other character a byte
module _ (g : List ℕ) (p : Pattern) (i : ℕ) (h : i < length p) where
  pub on-star : get_or p i 0 ≡ 42 → has_pattern g (drop i p) ≡ true
  on-star e = rw (next p i h, e) (star g (drop (i + 1) p))

  pub on-spent : (get_or p i 0 ≡ 42 → ⊥) → length g ≡ 0 → has_pattern g (drop i p) ≡ false
  unfolding has_pattern
  on-spent n e = rw (next p i h, nil_from_length g e, ne_eqb (get_or p i 0) 42 n)

  pub on-byte : (get_or p i 0 ≡ 42 → ⊥) → {b : ℕ} {t : List ℕ} → g ≡ b ∷ t
      → has_pattern g (drop i p) ≡ (fits (get_or p i 0) b && has_pattern t (drop (i + 1) p))
  unfolding has_pattern
  on-byte n e = rw (next p i h, e, ne_eqb (get_or p i 0) 42 n)

-- and at its end: only nothing fits nothing
pub on-end : (g : List ℕ) (p : Pattern) (i : ℕ) → length p ≤ i → has_pattern g (drop i p) ≡ eqb (length g) 0
unfolding has_pattern
on-end [] p i h = rw (drop_all i p h) (sym (eq-eqb 0 0 refl))
on-end (b ∷ g) p i h = rw (drop_all i p h) (sym (ne_eqb (suc (length g)) 0 (λ e. absurd (omega arith))))

-- ---- pieces

-- a pattern with no '*'
abbrev pub starless : Pattern → Bool
starless [] = true
starless (p ∷ ps) = not (more p) && starless ps

-- a group is as long as such a pattern
pub pattern-length : (g : List ℕ) (p : Pattern) → starless p ≡ true → has_pattern g p ≡ true → length g ≡ length p
unfolding has_pattern
pattern-length [] [] s h = refl
pattern-length [] (p ∷ ps) s h = absurd (false≢true (sym (not-true (more p) (both _ _ s).0) ∙ h))
pattern-length (b ∷ g) [] s h = absurd (false≢true h)
pattern-length (b ∷ g) (p ∷ ps) s h =
    let t = both (not (more p)) (starless ps) s in
    ap suc (pattern-length g ps t.1 (both (fits p b) _ (rw (not-true (more p) t.0) at h)).1)

-- a group in two pieces, the first as long as its pattern
pub pattern-append : (x y : List ℕ) (p q : Pattern) → starless p ≡ true → length x ≡ length p
    → has_pattern (x ++ y) (p ++ q) ≡ (has_pattern x p && has_pattern y q)
unfolding has_pattern
pattern-append [] y [] q s e = refl
pattern-append [] y (p ∷ ps) q s e = absurd (omega arith)
pattern-append (b ∷ x) y [] q s e = absurd (omega arith)
pattern-append (b ∷ x) y (p ∷ ps) q s e =
    let t = both (not (more p)) (starless ps) s in
    rw (not-true (more p) t.0, pattern-append x y ps q t.1 (suc_inj e)) (sym (and_assoc (fits p b) (has_pattern x ps) (has_pattern y q)))

-- ---- the pattern of a written number field

-- figures and slashes fit '#'
hash-figure : (b : ℕ) → is_figure b ≡ true → fits 35 b ≡ true
unfolding fits low high
hash-figure b h = let t = both (leb 48 b) (leb b 57) h in rw (le-leb 47 b (omega (arith, leb-true 48 b t.0)), t.1)

hash-slash : (b : ℕ) → is_slash b ≡ true → fits 35 b ≡ true
unfolding fits low high
hash-slash b h = rw (eqb-true b 47 h)

hashes : (f : ℕ → Bool) → ((b : ℕ) → f b ≡ true → fits 35 b ≡ true) → (x : List ℕ) → every f x ≡ true
    → has_pattern x (replicate (length x) 35) ≡ true
unfolding has_pattern
hashes f h [] e = refl
hashes f h (b ∷ x) e = let t = both (f b) (every f x) e in rw (h b t.0) (hashes f h x t.1)

pub field-pattern : (w : ℕ) (f : Field) → w ≤ 5 → Fits w f → has_pattern (field_text w f) (replicate w 35) ≡ true
unfolding field_text
field-pattern w (Number n) h f =
    rw (number-text w n h) (rw (length-figures w n) at (hashes is_figure hash-figure (figures w n) (all-figures w n)))
field-pattern w Missing h f = rw (length-field w Missing h f) at (hashes is_slash hash-slash (slashes w) (all-slashes w h))
field-pattern w Mixed h f = absurd f
field-pattern w Other h f = absurd f

-- ---- patterns that exclude each other

-- what a byte that fits says
pub within : (p b : ℕ) → fits p b ≡ true → (low p ≤ b) × (b ≤ high p)
unfolding fits
within p b f = let t = both (leb (low p) b) (leb b (high p)) f in (leb-true _ _ t.0, leb-true _ _ t.1)

pub apart_fits : (p q b : ℕ) → apart p q ≡ true → fits p b ≡ true → fits q b ≡ false
unfolding fits
apart_fits p q b a f = go (ltb (high p) (low q)) refl
  where
    go : (t : Bool) → ltb (high p) (low q) ≡ t → (leb (low q) b && leb b (high q)) ≡ false
    go true e = rw (lt-leb (low q) b (omega (arith, within p b f, ltb-true (high p) (low q) e)))
    go false e =
        let l : high q < low p = ltb-true (high q) (low p) (rw e at a) in
        rw (lt-leb b (high q) (omega (arith, within p b f))) (and-false (leb (low q) b))

-- a group of the one pattern is not of the other
pub excluded : (g : List ℕ) (p q : Pattern) → clash p q ≡ true → has_pattern g p ≡ true → has_pattern g q ≡ false
unfolding has_pattern clash
excluded [] [] [] c h = absurd (false≢true c)
excluded [] [] (q ∷ qs) c h = not-true (more q) c
excluded [] (p ∷ ps) [] c h = absurd (false≢true (sym (not-true (more p) c) ∙ h))
excluded [] (p ∷ ps) (q ∷ qs) c h =
    absurd (false≢true (sym (neither (more p) (more q) (both (not (more p || more q)) _ c).0).0 ∙ h))
excluded (b ∷ g) [] q c h = absurd (false≢true h)
excluded (b ∷ g) (p ∷ ps) [] c h = refl
excluded (b ∷ g) (p ∷ ps) (q ∷ qs) c h =
    let t = both (not (more p || more q)) (apart p q || clash ps qs) c in
    let n = neither (more p) (more q) t.0 in
    let f = both (fits p b) (has_pattern g ps) (rw n.0 at h) in
    rw n.1
    (or_cases (apart p q) (clash ps qs) t.1
    (λ e. rw (apart_fits p q b e f.0))
    (λ e. rw (excluded g ps qs e f.1) (and-false (fits q b))))

-- nor of any of several
pub excluded-each : (g : List ℕ) (p : Pattern) (qs : List Pattern) → clash_each p qs ≡ true → has_pattern g p ≡ true → has_any qs g ≡ false
unfolding has_any clash_each
excluded-each g p [] c h = refl
excluded-each g p (q ∷ qs) c h =
    let t = both (clash p q) (clash_each p qs) c in
    rw (excluded g p q t.0 h) (excluded-each g p qs t.1 h)

-- and a group of one of several not of any of several others
pub all-excluded : (g : List ℕ) (ps qs : List Pattern) → all_apart ps qs ≡ true → has_any ps g ≡ true → has_any qs g ≡ false
unfolding has_any all_apart
all-excluded g [] qs c h = absurd (false≢true h)
all-excluded g (p ∷ ps) qs c h =
    let t = both (clash_each p qs) (all_apart ps qs) c in
    or_cases (has_pattern g p) (has_any ps g) h (excluded-each g p qs t.0) (all-excluded g ps qs t.1)
