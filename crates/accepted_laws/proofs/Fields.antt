-- How great a number is that a field of so many figures holds, in a group and in a group that is scanned by a shape; and that a field that is missing is slashes.
-- Assumes nothing.
use Prim.Native.Nat.{ℕ, zero, suc, ◌+◌, ◌*◌, ◌^◌, ◌-◌, ◌≤◌, ◌<◌}
use native.Mathlib.Nat.{pow-suc, pow-zero, mul-one, mul_assoc, mul_comm, one-mul, mul-le-mul_right}
use native.Mathlib.Omega.{arith}
use mathlib.Core.Path.{◌≡◌, refl, sym, ap, ◌∙◌}
use mathlib.Core.Bool.{Bool, true, false, cond, ◌&&◌, and-eq-true_iff, false≢true}
use mathlib.Core.List.{List, [], ◌∷◌, ◌++◌}
use lib.ListN.{length, get_or, take, drop, replicate, length-drop}
use lib.Seq.{length-take-le}
use lib.Dec.{leb}
use borrow.Author.Tests.{leb-true, eq-eqb}
use Rattle.figures.proofs.Impossible.{impossible}
use Rattle.figures.specs.declared.kinds.Field.{Field}
use Rattle.figures.specs.declared.kinds.Field.TheVariants.{Number, Missing, Other}
use Rattle.figures.specs.Figures.{is_slash, scan, field_at, every}
use Rattle.figures.proofs.Fields.{byte, figure, line, neither, had}
use Rattle.shapes.specs.declared.kinds.Value.{Value}
use Rattle.shapes.specs.Pattern.{Pattern}
use Rattle.shapes.specs.Shape.{Part, parts_of, begins, field_start, field_width, value_of, Pick, Alternative, Nothing, pick_of, Values, Says, Unlike, also, scan_parts, blank_value, padded, answered, scan_of}
use Rattle.elements.specs.Parts.{value_at}

-- ---- a field

ten-more : (n w : ℕ) → n * 10 ^ suc w ≡ n * 10 * 10 ^ w
ten-more n w = rw (pow-suc 10 w, mul_comm (10 ^ w) 10, ← (mul_assoc n 10 (10 ^ w)))

scan-bound : (x : List ℕ) (n : ℕ) (fig slash : Bool) (m : ℕ) → scan n fig slash x ≡ Number m → m < (n + 1) * 10 ^ length x
unfolding scan
scan-bound [] n true true m e = impossible (cc)
scan-bound [] n false true m e = impossible (cc)
scan-bound [] n fig false m e = let is : n ≡ m = cc in rw (pow-zero 10, mul-one (n + 1)) (omega (arith, is))
scan-bound (b ∷ x) n fig slash m e =
    elim (byte n b fig slash x (Number m) e) [
      | figure lo hi k ↦
          let h = scan-bound x (n * 10 + (b - 48)) true slash m k in
          let le : (n * 10 + (b - 48) + 1) * 10 ^ length x ≤ (n + 1) * 10 * 10 ^ length x = mul-le-mul_right (10 ^ length x) (omega (arith, lo, hi)) in
          rw (ten-more (n + 1) (length x)) (omega (arith, h, le))
      | line h k ↦
          let h = scan-bound x n fig true m k in
          let le : (n + 1) * 10 ^ length x ≤ (n + 1) * 10 * 10 ^ length x = mul-le-mul_right (10 ^ length x) (omega arith) in
          rw (ten-more (n + 1) (length x)) (omega (arith, h, le))
      | neither k ↦ impossible (cc)
    ]

-- A FIELD OF w FIGURES HOLDS A NUMBER BELOW 10 ^ w.
pub field_bound : (s : List ℕ) (at w n : ℕ) → field_at s at w ≡ Number n → n < 10 ^ w
unfolding field_at
field_bound s at w n e = go (leb 1 w && leb w 5 && leb (at + w) (length s)) refl e
  where
    go : (b : Bool) → (leb 1 w && leb w 5 && leb (at + w) (length s)) ≡ b → cond b (scan 0 false false (take w (drop at s))) Other ≡ Number n → n < 10 ^ w
    go true t e =
        let there = ((and-eq-true_iff (leb 1 w && leb w 5) (leb (at + w) (length s))).0 t).1 in
        let many : length (take w (drop at s)) ≡ w = length-take-le w (drop at s) (omega (arith, leb-true (at + w) (length s) there, length-drop at s)) in
        let one : (0 + 1) * 10 ^ w ≡ 10 ^ w = one-mul (10 ^ w) in
        rw one at (rw many at (scan-bound (take w (drop at s)) 0 false false n e))
    go false t e = impossible (cc)

-- A FIELD THAT IS MISSING IS SLASHES.
scan-missing : (x : List ℕ) (n : ℕ) (fig slash : Bool) → scan n fig slash x ≡ Missing → every is_slash x ≡ true
unfolding scan
scan-missing [] n fig slash e = refl
scan-missing (b ∷ x) n fig slash e =
    elim (byte n b fig slash x Missing e) [
      | figure lo hi k ↦ absurd (false≢true (sym (had x (n * 10 + (b - 48)) true slash Missing k)))
      | line h k ↦ rw (eq-eqb b 47 h) (scan-missing x n fig true k)
      | neither k ↦ impossible (cc)
    ]

pub field-missing : (s : List ℕ) (at w : ℕ) → field_at s at w ≡ Missing → every is_slash (take w (drop at s)) ≡ true
unfolding field_at
field-missing s at w e = go (leb 1 w && leb w 5 && leb (at + w) (length s)) e
  where
    go : (b : Bool) → cond b (scan 0 false false (take w (drop at s))) Other ≡ Missing → every is_slash (take w (drop at s)) ≡ true
    go true e = scan-missing (take w (drop at s)) 0 false false e
    go false e = impossible (cc)

-- ---- a value of a scan: its field has the figures of the alternative that was taken

abbrev Bounded : Pattern → Field → Type 0
Bounded a f = (n : ℕ) → f ≡ Number n → n < 10 ^ field_width a

abbrev Narrow : ℕ → Part → Value → Type 0
Narrow k p v = (i : ℕ) × (v.which ≡ k + i) × Bounded (get_or p i []) v.field

pick-narrow : (p : Part) (k : ℕ) (g : List ℕ) (v : Value) (w : ℕ) → pick_of k p g ≡ Alternative v w → Narrow k p v
unfolding pick_of value_of
pick-narrow [] k g v w e = impossible (cc)
pick-narrow (a ∷ p) k g v w e = go (begins a g) e (λ e. pick-narrow p (k + 1) g v w e)
  where
    go : (b : Bool) → cond b (Alternative (value_of k a g) (length a)) (pick_of (k + 1) p g) ≡ Alternative v w → (pick_of (k + 1) p g ≡ Alternative v w → Narrow (k + 1) p v)
        → Narrow k (a ∷ p) v
    go true e ih =
        let is : value_of k a g ≡ v = cc in
        let none : k ≡ k + 0 = omega arith in
        (0, ap (λ (x : Value). x.which) (sym is) ∙ none, λ n f. field_bound g (field_start a) (field_width a) n (ap (λ (x : Value). x.field) is ∙ f))
    go false e ih = let (i, at, n) = ih e in (suc i, omega (arith, at), n)

-- each value of a list, against the part of its number
abbrev Each-narrow : List Part → List Value → Type 0
Each-narrow ps vs = (i n : ℕ) → (get_or vs i blank_value).field ≡ Number n → n < 10 ^ field_width (get_or (get_or ps i []) (get_or vs i blank_value).which [])

parts-narrow : (ps : List Part) (g : List ℕ) (vs : List Value) → scan_parts ps g ≡ Says vs → Each-narrow ps vs
unfolding scan_parts
parts-narrow [] [] [] e = λ i n f. impossible (cc)
parts-narrow [] [] (v ∷ vs) e = impossible (cc)
parts-narrow [] (b ∷ g) vs e = impossible (cc)
parts-narrow (p ∷ ps) g vs e = picked (pick_of 0 p g) refl e (λ w ws e. parts-narrow ps (drop w g) ws e)
  where
    first : (v : Value) (w : ℕ) → pick_of 0 p g ≡ Alternative v w → (n : ℕ) → v.field ≡ Number n → n < 10 ^ field_width (get_or p v.which [])
    first v w q n f =
        let (i, at, bound) = pick-narrow p 0 g v w q in
        let is : v.which ≡ i = omega (arith, at) in
        rw is (bound n f)

    others : (v : Value) (w : ℕ) → pick_of 0 p g ≡ Alternative v w → (x : Values) → scan_parts ps (drop w g) ≡ x → also v x ≡ Says vs
        → ((w : ℕ) (ws : List Value) → scan_parts ps (drop w g) ≡ Says ws → Each-narrow ps ws) → Each-narrow (p ∷ ps) vs
    others v w q (Says ws) s e ih zero n f =
        let is : v ∷ ws ≡ vs = cc in
        rw (← is) (first v w q n (rw (← is) at f))
    others v w q (Says ws) s e ih (suc i) n f =
        let is : v ∷ ws ≡ vs = cc in
        rw (← is) (ih w ws s i n (rw (← is) at f))
    others v w q Unlike s e ih i n f = impossible (cc)

    picked : (x : Pick) → pick_of 0 p g ≡ x → elim x [ Alternative v w ↦ also v (scan_parts ps (drop w g)) | Nothing ↦ Unlike ] ≡ Says vs
        → ((w : ℕ) (ws : List Value) → scan_parts ps (drop w g) ≡ Says ws → Each-narrow ps ws) → Each-narrow (p ∷ ps) vs
    picked (Alternative v w) q e ih = others v w q (scan_parts ps (drop w g)) refl e ih
    picked Nothing q e ih = impossible (cc)

blank-value : (k i : ℕ) (n : ℕ) → (get_or (replicate k blank_value) i blank_value).field ≡ Number n → ⊥
blank-value zero i n e = impossible (cc)
blank-value (suc k) zero n e = impossible (cc)
blank-value (suc k) (suc i) n e = blank-value k i n e

padded-value : (vs : List Value) (k i : ℕ) (n : ℕ) → (get_or (vs ++ replicate k blank_value) i blank_value).field ≡ Number n → get_or (vs ++ replicate k blank_value) i blank_value ≡ get_or vs i blank_value
padded-value [] k i n e = absurd (blank-value k i n e)
padded-value (v ∷ vs) k zero n e = refl
padded-value (v ∷ vs) k (suc i) n e = padded-value vs k i n e

-- A VALUE OF A SCANNED GROUP HOLDS A NUMBER OF AS MANY FIGURES AS THE ALTERNATIVE THAT WAS TAKEN HAS.
pub value-bound : (shape : List ℕ) (g : List ℕ) (i n : ℕ) → (value_at shape g i).field ≡ Number n
    → n < 10 ^ field_width (get_or (get_or (parts_of shape) i []) (value_at shape g i).which [])
unfolding scan_of answered
value-bound shape g i n e = go (scan_parts (parts_of shape) g) refl e
  where
    go : (x : Values) → scan_parts (parts_of shape) g ≡ x → (get_or (answered x).values i blank_value).field ≡ Number n
        → n < 10 ^ field_width (get_or (get_or (parts_of shape) i []) (get_or (answered x).values i blank_value).which [])
    go Unlike q e = absurd (blank-value 8 i n e)
    go (Says vs) q e = few (leb (length vs) 8) e
      where
        few : (b : Bool) → (get_or (cond b (record { fits = true; values = padded vs }) (answered Unlike)).values i blank_value).field ≡ Number n
            → n < 10 ^ field_width (get_or (get_or (parts_of shape) i []) (get_or (cond b (record { fits = true; values = padded vs }) (answered Unlike)).values i blank_value).which [])
        few false e = absurd (blank-value 8 i n e)
        few true e =
            let same = padded-value vs (8 - length vs) i n e in
            rw same (parts-narrow (parts_of shape) g vs q i n (rw same at e))
