-- Groups laid out as fixed bytes and number fields, once over any parts: each field reads back as it was written, and the group has its pattern.
-- Assumes nothing.
use mathlib.Core.Path.{◌≡◌, refl, sym, ap, ◌∙◌}
use mathlib.Core.Bool.{Bool, true, false, not, ◌&&◌}
use mathlib.Core.List.{List, [], ◌∷◌, ◌++◌, append_assoc, append-nil}
use Prim.Native.Nat.{ℕ, zero, suc, ◌+◌, ◌*◌, ◌/◌, ◌%◌, ◌^◌, ◌<◌}
use native.Mathlib.Nat.{add-zero, pow-suc, mul_assoc}
use native.Mathlib.Omega.{arith}
use lib.ListN.{length, replicate, length-append}
use lib.Dec.{leb}
use borrow.Author.Tests.{leb-true, le-leb, ne_eqb}
use Rattle.figures.specs.declared.kinds.Field.{Field}
use Rattle.figures.specs.Figures.{is_figure, every, figures, field_at, field_text, Fits}
use Rattle.figures.proofs.Figures.{length-field, field_back}
use Rattle.shapes.specs.Pattern.{Pattern, low, high, fits, more, has_pattern}
use Rattle.shapes.proofs.Patterns.{both, starless, pattern-length, pattern-append, field-pattern}

-- ---- figures

-- figures one after the other are the figures of one number
pub figures-join : (v w a n : ℕ) → n < 10 ^ w → figures v a ++ figures w n ≡ figures (v + w) (a * 10 ^ w + n)
unfolding figures
figures-join v zero a n h =
    let same : a * 1 + n ≡ a = omega arith in
    rw (add-zero v, same) (append-nil (figures v a))
figures-join v (suc w) a n h =
    let tens : a * 10 ^ suc w ≡ a * 10 ^ w * 10 = rw (pow-suc, mul_assoc) in
    let front : (a * 10 ^ suc w + n) / 10 ≡ a * 10 ^ w + n / 10 = omega arith in
    let last : (a * 10 ^ suc w + n) % 10 ≡ n % 10 = omega arith in
    let width : v + suc w ≡ suc (v + w) = omega arith in
    rw (width, front, last, ← figures-join v w a (n / 10) (omega arith)) (sym (append_assoc (figures v a) (figures w (n / 10)) ((48 + n % 10) ∷ [])))

-- ---- parts

-- a number field and its width
pub record Part : Type 0 where
  pub width : ℕ
  pub field : Field

abbrev pub at : ℕ → Field → Part
at w f = record { width = w; field = f }

-- the fields written after x, one after the other
abbrev pub laid : List ℕ → List Part → List ℕ
laid x [] = x
laid x (p ∷ ps) = laid (x ++ field_text p.width p.field) ps

-- the widths are those of number fields
abbrev pub widths : List Part → Bool
widths [] = true
widths (p ∷ ps) = leb 1 p.width && leb p.width 5 && widths ps

-- each field can be written at its width
abbrev pub FitAll : List Part → Type 0
FitAll [] = Unit {0}
FitAll (p ∷ ps) = Fits p.width p.field × FitAll ps

-- from byte i the group g holds the fields
abbrev pub Holds : List ℕ → ℕ → List Part → Type 0
Holds g i [] = Unit {0}
Holds g i (p ∷ ps) = (field_at g i p.width ≡ p.field) × Holds g (i + p.width) ps

laid-front : (x y : List ℕ) (ps : List Part) → laid (x ++ y) ps ≡ x ++ laid y ps
laid-front x y [] = refl
laid-front x y (p ∷ ps) =
    ap (λ (l : List ℕ). laid l ps) (append_assoc x y (field_text p.width p.field)) ∙ laid-front x (y ++ field_text p.width p.field) ps

laid-after : (x : List ℕ) (ps : List Part) → laid x ps ≡ x ++ laid [] ps
laid-after x ps = ap (λ (l : List ℕ). laid l ps) (sym (append-nil x)) ∙ laid-front x [] ps

parts-back : (x : List ℕ) (ps : List Part) → widths ps ≡ true → FitAll ps → Holds (laid x ps) (length x) ps
parts-back x [] w f = tt
parts-back x (p ∷ ps) w f =
    let t = both (leb 1 p.width && leb p.width 5) (widths ps) w in
    let s = both (leb 1 p.width) (leb p.width 5) t.0 in
    let five = leb-true p.width 5 s.1 in
    let next : length (x ++ field_text p.width p.field) ≡ length x + p.width =
    rw (length-append, length-field p.width p.field five f.0) in (
      rw (laid-after (x ++ field_text p.width p.field) ps)
          (field_back x (laid [] ps) p.width p.field (leb-true 1 p.width s.0) five f.0),
      rw next at (parts-back (x ++ field_text p.width p.field) ps t.1 f.1),
    )

-- ---- patterns

-- '#', which a figure or slash fits
abbrev hash : ℕ
hash = 35

-- a pattern with a '#' for each byte of the fields after it
abbrev pub hashed : Pattern → List Part → Pattern
hashed q [] = q
hashed q (p ∷ ps) = hashed (q ++ replicate p.width hash) ps

hashes-starless : (q : Pattern) (w : ℕ) → starless q ≡ true → starless (q ++ replicate w hash) ≡ true
hashes-starless [] zero s = refl
hashes-starless [] (suc w) s = hashes-starless [] w s
hashes-starless (p ∷ q) w s = let t = both (not (more p)) (starless q) s in rw (t.0, hashes-starless q w t.1)

parts-shape : (x : List ℕ) (q : Pattern) (ps : List Part) → starless q ≡ true → has_pattern x q ≡ true → widths ps ≡ true → FitAll ps
    → has_pattern (laid x ps) (hashed q ps) ≡ true
parts-shape x q [] s h w f = h
parts-shape x q (p ∷ ps) s h w f =
    let t = both (leb 1 p.width && leb p.width 5) (widths ps) w in
    let five = leb-true p.width 5 (both (leb 1 p.width) (leb p.width 5) t.0).1 in
    parts-shape (x ++ field_text p.width p.field) (q ++ replicate p.width hash) ps (hashes-starless q p.width s)
    (pattern-append x (field_text p.width p.field) q (replicate p.width hash) s (pattern-length x q s h) ∙ rw (h, field-pattern p.width p.field five f.0))
    t.1 f.1

-- a figure in a pattern stands for itself
itself : (p : ℕ) → is_figure p ≡ true → (fits p p ≡ true) × (more p ≡ false)
unfolding fits low high
itself p e =
    let t = both (leb 48 p) (leb p 57) e in
    let lo = leb-true 48 p t.0 in
    let hi = leb-true p 57 t.1 in (
      rw
          (ne_eqb p 35 (λ q. omega arith), ne_eqb p 64 (λ q. omega arith), ne_eqb p 63 (λ q. omega arith), le-leb p p (omega arith)),
      ne_eqb p 42 (λ q. omega arith),
    )

own-pattern : (x : List ℕ) → every is_figure x ≡ true → (starless x ≡ true) × (has_pattern x x ≡ true)
unfolding has_pattern
own-pattern [] e = (refl, refl)
own-pattern (b ∷ x) e =
    let t = both (is_figure b) (every is_figure x) e in
    let here = itself b t.0 in
    let rest = own-pattern x t.1 in
    (rw here.1 rest.0, rw (here.1, here.0) rest.1)

-- ---- a group of parts

-- the group has the pattern, and from byte i holds the parts
pub record Laid (q : Pattern) (i : ℕ) (ps : List Part) (g : List ℕ) : Type 0 where
  pub shaped : has_pattern g q ≡ true
  pub holds : Holds g i ps

-- the figures x with the parts after them
pub parts : (x : List ℕ) (ps : List Part) → every is_figure x ≡ true → widths ps ≡ true → FitAll ps → Laid (hashed x ps) (length x) ps (laid x ps)
parts x ps e w f =
    let own = own-pattern x e in
    record { shaped = parts-shape x x ps own.0 own.1 w f; holds = parts-back x ps w f }
