-- The laws of reading a number field: the steps through its bytes, and what a field that was read says of them.
-- Assumes nothing.
use mathlib.Core.Path.{◌≡◌, refl, sym}
use mathlib.Core.Bool.{Bool, true, false, cond, ◌&&◌, and-eq-true_iff, false≢true}
use mathlib.Core.List.{List, [], ◌∷◌}
use Prim.Native.Nat.{ℕ, ◌+◌, ◌-◌, ◌*◌, ◌≤◌, ◌<◌}
use native.Mathlib.Numerals.{add-one}
use lib.ListN.{length, take, drop, get_or}
use lib.Seq.{drop-cons}
use lib.Dec.{leb, eqb}
use borrow.Author.Tests.{le-leb, leb-true, eqb-true}
use Rattle.figures.specs.declared.kinds.Field.{Field}
use Rattle.figures.specs.declared.kinds.Field.TheVariants.{Number, Missing, Mixed, Other}
use Rattle.figures.specs.Figures.{scan, field_at}

-- a list from i on, where it has an element at i
pub next : (s : List ℕ) (i : ℕ) → i < length s → drop i s ≡ get_or s i 0 ∷ drop (i + 1) s
next s i h = rw (add-one, drop-cons s i 0)

-- one turn at the byte b: `rest` is what is left after it, and r what all holds
module _ (n b : ℕ) (fig slash : Bool) (rest : List ℕ) {r : Field} (inv : scan n fig slash (b ∷ rest) ≡ r) where
  pub on-figure : 48 ≤ b → b ≤ 57 → scan (n * 10 + (b - 48)) true slash rest ≡ r
  unfolding scan
  on-figure lo hi = rw (le-leb 48 b lo, le-leb b 57 hi) at inv

-- ---- fields

cond_no : (t : Bool) (x y : Field) → (t ≡ true → ⊥) → y ≡ cond t x y
cond_no true x y h = absurd (h refl)
cond_no false x y h = refl

cond_yes : (t : Bool) (x y : Field) → (cond t x y ≡ y → ⊥) → t ≡ true
cond_yes true x y h = refl
cond_yes false x y h = absurd (h refl)

pub field_out : (s : List ℕ) (at w : ℕ) → (1 ≤ w → w ≤ 5 → at + w ≤ length s → ⊥) → Other ≡ field_at s at w
unfolding field_at
field_out s at w h =
    cond_no _ _ _
    (λ e.
    let ab = (and-eq-true_iff _ _).0 e in
    let a = (and-eq-true_iff _ _).0 ab.0 in
    h (leb-true _ _ a.0) (leb-true _ _ a.1) (leb-true _ _ ab.1))

pub field_in : (s : List ℕ) (at w : ℕ) → 1 ≤ w → w ≤ 5 → at + w ≤ length s
    → scan 0 false false (take w (drop at s)) ≡ field_at s at w
unfolding field_at
field_in s at w a b c = simp (le-leb 1 w a, le-leb w 5 b, le-leb (at + w) (length s) c)

-- ---- what a field that was read says of its bytes

-- a byte is a figure, a slash or neither: what is left to hold then
pub data Byte (n b : ℕ) (fig slash : Bool) (rest : List ℕ) (r : Field) : Type 0 where
  figure : 48 ≤ b → b ≤ 57 → scan (n * 10 + (b - 48)) true slash rest ≡ r → Byte n b fig slash rest r
  line : b ≡ 47 → scan n fig true rest ≡ r → Byte n b fig slash rest r
  neither : Other ≡ r → Byte n b fig slash rest r

pub byte : (n b : ℕ) (fig slash : Bool) (rest : List ℕ) (r : Field) → scan n fig slash (b ∷ rest) ≡ r → Byte n b fig slash rest r
unfolding scan
byte n b fig slash rest r = go (leb 48 b) (leb b 57) (eqb b 47) refl refl refl
  where
    go : (x y z : Bool) → leb 48 b ≡ x → leb b 57 ≡ y → eqb b 47 ≡ z
        → cond (x && y) (scan (n * 10 + (b - 48)) true slash rest) (cond z (scan n fig true rest) Other) ≡ r → Byte n b fig slash rest r
    go true true z ex ey ez e = figure (leb-true _ _ ex) (leb-true _ _ ey) e
    go true false true ex ey ez e = line (eqb-true _ _ ez) e
    go true false false ex ey ez e = neither e
    go false y true ex ey ez e = line (eqb-true _ _ ez) e
    go false y false ex ey ez e = neither e

-- what f can be after bytes that had a figure, and had a slash: no number after a slash, and not missing after a figure
abbrev pub Had : Bool → Bool → Field → Type 0
Had fig slash (Number n) = slash ≡ false
Had fig slash Missing = fig ≡ false
Had fig slash Mixed = Unit {0}
Had fig slash Other = Unit {0}

had-figure : (fig slash : Bool) (f : Field) → Had true slash f → Had fig slash f
had-figure fig slash (Number n) h = h
had-figure fig slash Missing h = absurd (false≢true (sym h))
had-figure fig slash Mixed h = tt
had-figure fig slash Other h = tt

had-slash : (fig slash : Bool) (f : Field) → Had fig true f → Had fig slash f
had-slash fig slash (Number n) h = absurd (false≢true (sym h))
had-slash fig slash Missing h = h
had-slash fig slash Mixed h = tt
had-slash fig slash Other h = tt

pub had : (x : List ℕ) (n : ℕ) (fig slash : Bool) (f : Field) → scan n fig slash x ≡ f → Had fig slash f
unfolding scan
had [] n true true f e = rw (← e) tt
had [] n false true f e = rw (← e) refl
had [] n fig false f e = rw (← e) refl
had (b ∷ x) n fig slash f e =
    elim (byte n b fig slash x f e) [
      | figure lo hi k ↦ had-figure fig slash f (had x _ true slash f k)
      | line h k ↦ had-slash fig slash f (had x n fig true f k)
      | neither k ↦ rw (← k) tt
    ]

-- a field that is not Other is there
pub field-there : (s : List ℕ) (at w : ℕ) → (field_at s at w ≡ Other → ⊥) → (1 ≤ w) × (w ≤ 5) × (at + w ≤ length s)
unfolding field_at
field-there s at w h =
    let ab = (and-eq-true_iff _ _).0 (cond_yes _ _ _ h) in
    let a = (and-eq-true_iff _ _).0 ab.0 in
    (leb-true _ _ a.0, leb-true _ _ a.1, leb-true _ _ ab.1)
