-- The variation's round trip: what is judged fine is written as no group or as one of its shape, which is read back as its class, and the class is
-- written the same again.
-- Assumes nothing.
use Rattle.std.specs.Prelude.{Ok, None, Option, Some}
use Prim.Native.Nat.{ℕ, ◌+◌, ◌≤◌}
use native.Mathlib.Omega.{arith}
use mathlib.Core.Path.{◌≡◌, refl, ap, ◌∙◌}
use mathlib.Core.Bool.{true}
use mathlib.Core.List.{[], ◌∷◌, ◌++◌, append_assoc, append-nil}
use lib.ListN.{length, length-append}
use lib.Dec.{leb}
use borrow.Author.Tests.{leb-true, le-leb}
use Rattle.figures.proofs.Impossible.{impossible}
use Rattle.figures.specs.Quote.{bytes}
use Rattle.figures.specs.declared.kinds.Field.TheVariants as field
use Rattle.figures.specs.Figures.{figures, number_text, field_text, field_at}
use Rattle.figures.proofs.Figures.{length-figures, field_back}
use Rattle.text.proofs.Judging.{fine}
use Rattle.shapes.specs.Pattern.{low, high, fits, has_pattern, has_any}
use Rattle.shapes.proofs.Patterns.{both, pattern-append, field-pattern}
use Rattle.scales.specs.Rounded.{rounded_direction, ddd_figure}
use Rattle.scales.proofs.DirectionLaws.{rounded-below, ddd-most, ddd-back, ddd-again}
use Rattle.places.specs.Engine.{Group}
use Rattle.record.specs.declared.aerodrome.Extremes.{Extremes}
use Rattle.record.specs.declared.aerodrome.Variation.{Variation}
use Rattle.elements.specs.Wind.{variation_shape, read_variation, show_variation, extremes_group, extremes_fit, extremes_agree, judge_variation, class_extremes, class_variation}

pub variation-covered : (g : Group) → has_pattern g variation_shape ≡ true → has_any (variation_shape ∷ []) g ≡ true
unfolding has_any
variation-covered g h = rw h

-- ---- two numbers of three figures with V between them

module _ (a b : ℕ) (h : a ≤ 360) (k : b ≤ 360) where
  abbrev pair : Group
  pair = figures 3 a ++ bytes "V" ++ figures 3 b

  pair-shaped : has_pattern pair variation_shape ≡ true
  unfolding field_text number_text has_pattern fits low high
  pair-shaped =
      let three = length-figures 3 a in
      pattern-append (figures 3 a ++ bytes "V") (figures 3 b) (bytes "###V") (bytes "###") refl (length-append (figures 3 a) (bytes "V") ∙ ap (λ (n : ℕ). n + 1) three)
      ∙ rw (
        pattern-append (figures 3 a) (bytes "V") (bytes "###") (bytes "V") refl three,
        field-pattern 3 (field.Number a) (omega arith) (omega arith),
        field-pattern 3 (field.Number b) (omega arith) (omega arith),
      )

  pair-from : field_at pair 0 3 ≡ field.Number a
  unfolding field_text number_text
  pair-from =
      rw (append_assoc (figures 3 a) (bytes "V") (figures 3 b))
      (field_back [] (bytes "V" ++ figures 3 b) 3 (field.Number a) (omega arith) (omega arith) (omega arith))

  pair-to : field_at pair 4 3 ≡ field.Number b
  unfolding field_text number_text
  pair-to =
      let four : length (figures 3 a ++ bytes "V") ≡ 4 = length-append (figures 3 a) (bytes "V") ∙ ap (λ (n : ℕ). n + 1) (length-figures 3 a) in
      rw (append-nil pair, four)
      at (field_back (figures 3 a ++ bytes "V") [] 3 (field.Number b) (omega arith) (omega arith) (omega arith))

-- ---- the extremes

group-shaped : (x : Option Extremes) → extremes_fit x ≡ true → (g : Group) → extremes_group x ≡ g ∷ [] → has_pattern g variation_shape ≡ true
group-shaped None h g s = impossible (cc)
group-shaped (Some x) h g s =
    let t = both (leb x.from 359) (leb x.to 359) h in
    let same : pair (ddd_figure x.from) (ddd_figure x.to) (ddd-most x.from) (ddd-most x.to) ≡ g = cc in
    rw same at (pair-shaped (ddd_figure x.from) (ddd_figure x.to) (ddd-most x.from) (ddd-most x.to))

group-back : (x : Option Extremes) → extremes_fit x ≡ true → extremes_agree x ≡ true → (g : Group) → extremes_group x ≡ g ∷ []
    → read_variation g ≡ Ok (record { is = class_extremes x })
unfolding read_variation
group-back None h e g s = impossible (cc)
group-back (Some x) h e g s =
    let t = both (leb x.from 359) (leb x.to 359) h in
    let m = ddd-most x.from in
    let n = ddd-most x.to in
    let same : pair (ddd_figure x.from) (ddd_figure x.to) m n ≡ g = cc in
    rw (
      ← same,
      pair-from (ddd_figure x.from) (ddd_figure x.to) m n,
      pair-to (ddd_figure x.from) (ddd_figure x.to) m n,
      ddd-back x.from (leb-true x.from 359 t.0),
      ddd-back x.to (leb-true x.to 359 t.1),
      e,
    )

group-again : (x : Option Extremes) → extremes_fit x ≡ true → extremes_group (class_extremes x) ≡ extremes_group x
group-again None h = refl
group-again (Some x) h =
    let t = both (leb x.from 359) (leb x.to 359) h in
    rw (ddd-again x.from (leb-true x.from 359 t.0), ddd-again x.to (leb-true x.to 359 t.1))

fits-classed : (x : Option Extremes) → extremes_fit (class_extremes x) ≡ true
fits-classed None = refl
fits-classed (Some x) = rw (le-leb (rounded_direction x.from) 359 (omega (arith, rounded-below x.from)), le-leb (rounded_direction x.to) 359 (omega (arith, rounded-below x.to)))

agree-classed : (x : Option Extremes) → extremes_fit x ≡ true → extremes_agree (class_extremes x) ≡ extremes_agree x
agree-classed None h = refl
agree-classed (Some x) h =
    let t = both (leb x.from 359) (leb x.to 359) h in
    rw (ddd-again x.from (leb-true x.from 359 t.0), ddd-again x.to (leb-true x.to 359 t.1))

none-shown : (x : Option Extremes) → extremes_group x ≡ [] → x ≡ None
none-shown None s = refl
none-shown (Some x) s = impossible (cc)

-- ---- the variation

module _ (v : Variation) (e : judge_variation v ≡ Ok tt) where
  pub judged-fine : (extremes_fit v.is ≡ true) × (extremes_agree v.is ≡ true)
  unfolding judge_variation
  judged-fine = fine (extremes_fit v.is) (extremes_agree v.is) e

  pub variation-shaped : (g : Group) → show_variation v ≡ g ∷ [] → (has_pattern g variation_shape ≡ true) × (has_any (variation_shape ∷ []) g ≡ true)
  unfolding show_variation
  variation-shaped g s = let has = group-shaped v.is judged-fine.0 g s in (has, variation-covered g has)

  pub variation-back : (g : Group) → show_variation v ≡ g ∷ [] → read_variation g ≡ Ok (class_variation v)
  unfolding show_variation
  variation-back g s = group-back v.is judged-fine.0 judged-fine.1 g s

  pub variation-again : show_variation (class_variation v) ≡ show_variation v
  unfolding show_variation
  variation-again = group-again v.is judged-fine.0

  pub variation-classed : judge_variation (class_variation v) ≡ Ok tt
  unfolding judge_variation
  variation-classed = rw (fits-classed v.is, agree-classed v.is judged-fine.0, judged-fine.1)
