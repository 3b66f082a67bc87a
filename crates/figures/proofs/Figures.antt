-- The laws of written number fields: their length and bytes, and that what is written reads back.
-- Assumes nothing.
use mathlib.Core.Path.{◌≡◌, refl, sym, ap, ◌∙◌}
use mathlib.Core.Bool.{Bool, true, false, cond, ◌&&◌, and_assoc, false≢true}
use mathlib.Core.List.{List, [], ◌∷◌, ◌++◌, append_assoc, append-nil}
use Prim.Native.Nat.{ℕ, zero, suc, ◌+◌, ◌-◌, ◌*◌, ◌/◌, ◌%◌, ◌^◌, ◌≤◌, ◌<◌}
use native.Mathlib.Nat.{add-zero, zero-add}
use native.Mathlib.Omega.{arith}
use lib.ListN.{length, take, drop, replicate, length-append, length-drop, length-replicate}
use lib.Seq.{take_at, drop_at, length-take-le}
use borrow.Author.Tests.{le-leb}
use Rattle.figures.proofs.Impossible.{impossible}
use Rattle.figures.specs.declared.kinds.Field.{Field}
use Rattle.figures.specs.declared.kinds.Field.TheVariants.{Number, Missing, Mixed, Other}
use Rattle.figures.specs.Figures.{is_figure, is_slash, figures, scan, field_at, number_text, slashes, field_text, Fits, every}
use Rattle.figures.proofs.Fields.{on-figure, field_in, figure, line, neither, byte, had, field-there}

-- ---- the texts

pub length-figures : (w n : ℕ) → length (figures w n) ≡ w
unfolding figures
length-figures zero n = refl
length-figures (suc w) n = rw (length-append, length-figures w (n / 10)) (omega arith)

-- a field's text at the widths that there are
pub number-text : (w n : ℕ) → w ≤ 5 → number_text w n ≡ figures w n
unfolding number_text
number-text w n h = rw (le-leb w 5 h)

pub slashes-text : (w : ℕ) → w ≤ 5 → slashes w ≡ replicate w 47
unfolding slashes
slashes-text w h = rw (le-leb w 5 h)

pub length-field : (w : ℕ) (f : Field) → w ≤ 5 → Fits w f → length (field_text w f) ≡ w
unfolding field_text
length-field w (Number n) h f = rw (number-text w n h) (length-figures w n)
length-field w Missing h f = rw (slashes-text w h) (length-replicate w 47)
length-field w Mixed h f = absurd f
length-field w Other h f = absurd f

-- ---- every byte

pub every_append : (f : ℕ → Bool) (x y : List ℕ) → every f (x ++ y) ≡ (every f x && every f y)
every_append f [] y = refl
every_append f (b ∷ x) y = rw (every_append f x y) (sym (and_assoc (f b) (every f x) (every f y)))

pub all-figures : (w n : ℕ) → every is_figure (figures w n) ≡ true
unfolding figures
all-figures zero n = refl
all-figures (suc w) n =
    rw (every_append is_figure (figures w (n / 10)), all-figures w (n / 10), le-leb 48 (48 + n % 10) (omega arith), le-leb (48 + n % 10) 57 (omega arith))

every-slash : (w : ℕ) → every is_slash (replicate w 47) ≡ true
every-slash zero = refl
every-slash (suc w) = every-slash w

pub all-slashes : (w : ℕ) → w ≤ 5 → every is_slash (slashes w) ≡ true
all-slashes w h = rw (slashes-text w h) (every-slash w)

-- ---- a part of a text, and what it holds as a field

pub part_at : (pre x post : List ℕ) (w : ℕ) → length x ≡ w → take w (drop (length pre) (pre ++ x ++ post)) ≡ x
part_at pre x post w e = rw (append_assoc, drop_at pre _ (length pre) refl, take_at x post w e)

pub field-part : (pre x post : List ℕ) (w : ℕ) → 1 ≤ w → w ≤ 5 → length x ≡ w
    → field_at (pre ++ x ++ post) (length pre) w ≡ scan 0 false false x
field-part pre x post w one five len =
    sym (field_in _ (length pre) w one five (simp length-append (omega arith))) ∙ ap (scan 0 false false) (part_at pre x post w len)

-- a law of a text t anywhere holds of t in a group, with x before it and y after it, that stands in a text
pub inside : (t : List ℕ) (w : ℕ) {f : Field} → ((pre post : List ℕ) → field_at (pre ++ t ++ post) (length pre) w ≡ f)
    → (pre x y post : List ℕ) → field_at (pre ++ (x ++ t ++ y) ++ post) (length pre + length x) w ≡ f
inside t w law pre x y post =
    let e : pre ++ (x ++ t ++ y) ++ post ≡ pre ++ x ++ t ++ (y ++ post) = simp append_assoc in
    rw (e, ← length-append pre x) (law (pre ++ x) (y ++ post))

-- ---- what is written reads back

-- a figure that is read
digit : (m n k : ℕ) (fig slash : Bool) (rest : List ℕ) → m * 10 + n % 10 ≡ k
    → scan m fig slash ((48 + n % 10) ∷ rest) ≡ scan k true slash rest
digit m n k fig slash rest e =
    sym (on-figure m (48 + n % 10) fig slash rest refl (omega arith) (omega arith))
    ∙ ap (λ (j : ℕ). scan j true slash rest) (omega arith)

scan-figures : (w n : ℕ) (fig slash : Bool) (rest : List ℕ) → n < 10 ^ suc w
    → scan 0 fig slash (figures (suc w) n ++ rest) ≡ scan n true slash rest
unfolding figures
scan-figures zero n fig slash rest h = digit 0 n n fig slash rest (omega arith)
scan-figures (suc w) n fig slash rest h =
    ap (scan 0 fig slash) (append_assoc (figures (suc w) (n / 10)) ((48 + n % 10) ∷ []) rest)
    ∙ scan-figures w (n / 10) fig slash ((48 + n % 10) ∷ rest) (omega arith)
    ∙ digit (n / 10) n n true slash rest (omega arith)

scan-slashes : (w n : ℕ) (fig slash : Bool) → scan n fig slash (replicate (suc w) 47) ≡ cond fig Mixed Missing
unfolding scan
scan-slashes zero n fig slash = refl
scan-slashes (suc w) n fig slash = scan-slashes w n fig true

pub field-figures : (pre post : List ℕ) (w n : ℕ) → 1 ≤ w → w ≤ 5 → n < 10 ^ w
    → field_at (pre ++ figures w n ++ post) (length pre) w ≡ Number n
unfolding scan
field-figures pre post zero n one five h = absurd (omega arith)
field-figures pre post (suc w) n one five h =
    field-part pre (figures (suc w) n) post (suc w) one five (length-figures (suc w) n)
    ∙ rw (← append-nil (figures (suc w) n)) (scan-figures w n false false [] h)

pub field-slashes : (pre post : List ℕ) (w : ℕ) → 1 ≤ w → w ≤ 5
    → field_at (pre ++ slashes w ++ post) (length pre) w ≡ Missing
field-slashes pre post zero one five = absurd (omega arith)
field-slashes pre post (suc w) one five =
    rw (slashes-text (suc w) five)
    (field-part pre (replicate (suc w) 47) post (suc w) one five (length-replicate (suc w) 47) ∙ scan-slashes w 0 false false)

pub field_back : (pre post : List ℕ) (w : ℕ) (f : Field) → 1 ≤ w → w ≤ 5 → Fits w f
    → field_at (pre ++ field_text w f ++ post) (length pre) w ≡ f
unfolding field_text
field_back pre post w (Number n) one five h = rw (number-text w n five) (field-figures pre post w n one five h)
field_back pre post w Missing one five h = field-slashes pre post w one five
field_back pre post w Mixed one five h = absurd h
field_back pre post w Other one five h = absurd h

-- the same in a group
pub field-inner : (pre x y post : List ℕ) (w n : ℕ) → 1 ≤ w → w ≤ 5 → n < 10 ^ w
    → field_at (pre ++ (x ++ figures w n ++ y) ++ post) (length pre + length x) w ≡ Number n
field-inner pre x y post w n one five h = inside (figures w n) w (λ p q. field-figures p q w n one five h) pre x y post

-- ---- what is read is what is written

other-number : {n : ℕ} → Other ≡ Number n → ⊥
other-number e = impossible (cc)

one_more : (k m b : ℕ) → 48 ≤ b → b ≤ 57 → figures (suc k) (m * 10 + (b - 48)) ≡ figures k m ++ (b ∷ [])
unfolding figures
one_more k m b lo hi =
    let front : (m * 10 + (b - 48)) / 10 ≡ m = omega arith in
    let last : 48 + (m * 10 + (b - 48)) % 10 ≡ b = omega arith in
    rw (front, last)

-- bytes x that hold a number, after k figures that hold m
scan-number : (x : List ℕ) (k m n : ℕ) (fig : Bool) → m < 10 ^ k → scan m fig false x ≡ Number n
    → (n < 10 ^ (k + length x)) × (figures (k + length x) n ≡ figures k m ++ x)
unfolding scan
scan-number [] k m n fig h e =
    let same : n ≡ m = cc in
    rw (add-zero k, same) (h, sym (append-nil (figures k m)))
scan-number (b ∷ x) k m n fig h e =
    elim (byte m b fig false x (Number n) e) [
      | figure lo hi d ↦
          (let on = scan-number x (suc k) (m * 10 + (b - 48)) n true (omega arith) d in
          let len : k + suc (length x) ≡ suc k + length x = omega arith in
          rw len (on.0, on.1 ∙ ap (λ (l : List ℕ). l ++ x) (one_more k m b lo hi) ∙ append_assoc (figures k m) (b ∷ []) x))
      | line d r ↦ absurd (false≢true (sym (had x m fig true (Number n) r)))
      | neither d ↦ absurd (other-number d)
    ]

-- a field that was read: its bytes are there, and say what it holds
module _ (s : List ℕ) (at w : ℕ) where
  field-scan : {f : Field} → field_at s at w ≡ f → (f ≡ Other → ⊥)
      → (w ≤ 5) × (length (take w (drop at s)) ≡ w) × (scan 0 false false (take w (drop at s)) ≡ f)
  field-scan e h =
      let there = field-there s at w (λ o. h (sym e ∙ o)) in
      (there.1, length-take-le w (drop at s) (simp length-drop (omega arith)), field_in s at w there.0 there.1 there.2 ∙ e)

  number : {n : ℕ} → field_at s at w ≡ Number n → (n < 10 ^ w) × (figures w n ≡ take w (drop at s))
  unfolding figures
  number {n} e =
      let read = field-scan e (λ o. other-number (sym o)) in
      rw (read.1, zero-add w) at (scan-number (take w (drop at s)) 0 0 n false (omega arith) read.2)

  pub field-small : {n : ℕ} → field_at s at w ≡ Number n → n < 10 ^ w
  field-small e = (number e).0

  pub field-text : {n : ℕ} → field_at s at w ≡ Number n → take w (drop at s) ≡ figures w n
  field-text e = sym (number e).1
