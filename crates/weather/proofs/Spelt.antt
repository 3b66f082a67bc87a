-- Codes of the table written one after the other, after a sign, VC or neither: the group's shape, what is read of it, and its bytes.
-- Assumes nothing.
use Rattle.std.specs.Prelude.{None, Option, Some}
use mathlib.Core.Path.{◌≡◌, refl, ap}
use mathlib.Core.Bool.{Bool, true, false, not, ◌&&◌, and-false}
use mathlib.Core.List.{List, [], ◌∷◌, ◌++◌, append_assoc, append-nil}
use Prim.Native.Nat.{ℕ, ◌*◌, ◌≤◌}
use native.Mathlib.Omega.{arith}
use lib.ListN.{length}
use lib.Dec.{leb, eqb}
use borrow.Author.Tests.{not-true, lt-ltb, lt-leb, leb-true, ne_eqb, eqb-true}
use Rattle.figures.specs.Quote.{bytes}
use Rattle.figures.specs.Figures.{every, is_letter}
use Rattle.text.specs.Groups.{Every}
use Rattle.shapes.specs.Pattern.{has_pattern, fits, low, high}
use Rattle.shapes.proofs.Patterns.{both}
use Rattle.record.specs.declared.aerodrome.Intensity.{Intensity}
use Rattle.record.specs.declared.aerodrome.Intensity.TheVariants as intensity
use Rattle.record.specs.declared.aerodrome.Code.{Code}
use Rattle.record.specs.declared.aerodrome.Phenomena.{Phenomena}
use Rattle.elements.specs.Weather.{codes_of, one, is_code, are_codes, some_codes, signed_codes, all_among, listed, said_weather, code_text, sign_text, phenomena_text}
use Rattle.weather.specs.Split.{told}
use Rattle.weather.proofs.Table.{in_table}
use Rattle.weather.proofs.Fits.{joins, is_joined}

-- ---- codes one after the other

abbrev pub spelt : List (List ℕ) → List ℕ
spelt [] = []
spelt (c ∷ cs) = c ++ spelt cs

spelt-listed : (a : Option Code) (cs : List (List ℕ)) → spelt (listed a cs) ≡ code_text a ++ spelt cs
spelt-listed None cs = refl
spelt-listed (Some z) cs = refl

-- a record's codes after its descriptor
abbrev pub codes_in : Phenomena → List (List ℕ)
codes_in x = listed x.first (listed x.second (listed x.third []))

-- a record's text is its codes one after the other
pub text-spelt : (x : Phenomena) → phenomena_text (Some x) ≡ sign_text x.intensity ++ spelt (listed x.descriptor (codes_in x))
text-spelt x =
    let after = listed x.third [] in
    let two = listed x.second after in
    rw (spelt-listed x.descriptor (listed x.first two), spelt-listed x.first two, spelt-listed x.second after, spelt-listed x.third [])
    (simp (append_assoc, append-nil))

-- a code in its two letters
module _ (P : List ℕ → Type 0) (k : (a b : ℕ) → is_joined (a ∷ b ∷ []) ≡ true → P (a ∷ b ∷ [])) where
  by-letters : (c : List ℕ) → is_joined c ≡ true → P c
  by-letters c h = go c h (eqb-true (length c) 2 (in_table (λ c. eqb (length c) 2) joins (unfold codes_of in refl) c h))
    where
      go : (c : List ℕ) → is_joined c ≡ true → length c ≡ 2 → P c
      go [] h e = absurd (omega arith)
      go (a ∷ []) h e = absurd (omega arith)
      go (a ∷ b ∷ []) h e = k a b h
      go (a ∷ b ∷ x ∷ c) h e = absurd (omega arith)

module _ (a b : ℕ) (h : is_joined (a ∷ b ∷ []) ≡ true) where
  is-code : is_code (a ∷ b ∷ []) ≡ true
  is-code = in_table is_code joins (unfold codes_of in refl) (a ∷ b ∷ []) h

  not-vicinity : one "VC" (a ∷ b ∷ []) ≡ false
  not-vicinity = not-true (one "VC" (a ∷ b ∷ [])) (in_table (λ c. not (one "VC" c)) joins (unfold codes_of in refl) (a ∷ b ∷ []) h)

  letters : (is_letter a ≡ true) × (is_letter b ≡ true)
  letters =
      let t = both (is_letter a) (is_letter b && true) (in_table (every is_letter) joins (unfold codes_of in refl) (a ∷ b ∷ []) h) in
      (t.0, (both (is_letter b) true t.1).0)

  high-letter : 65 ≤ a
  high-letter = leb-true 65 a (both (leb 65 a) (leb a 90) letters.0).0

  -- no letter is a sign or a slash
  not-plus : eqb a 43 ≡ false
  not-plus = let l = high-letter in ne_eqb a 43 (λ e. omega arith)

  not-minus : eqb a 45 ≡ false
  not-minus = let l = high-letter in ne_eqb a 45 (λ e. omega arith)

  not-slash : leb a 47 ≡ false
  not-slash = let l = high-letter in lt-leb a 47 (omega arith)

-- ---- the codes that are written

module _ (P : ℕ → Bool) (k : (x : ℕ) → is_letter x ≡ true → P x ≡ true) where
  pub spelt-every : (ds : List (List ℕ)) → all_among is_joined ds ≡ true → Every P (spelt ds)
  spelt-every [] h = tt
  spelt-every (c ∷ ds) h =
      let t = both (is_joined c) (all_among is_joined ds) h in
      let rest = spelt-every ds t.1 in
      by-letters (λ c. Every P (c ++ spelt ds)) (λ a b j. (k a (letters a b j).0, (k b (letters a b j).1, rest))) c t.0

pub spelt-length : (ds : List (List ℕ)) → all_among is_joined ds ≡ true → length (spelt ds) ≡ 2 * length ds
spelt-length [] h = refl
spelt-length (c ∷ ds) h =
    let t = both (is_joined c) (all_among is_joined ds) h in
    let rest = spelt-length ds t.1 in
    by-letters (λ c. length (c ++ spelt ds) ≡ 2 * length (c ∷ ds)) (λ a b j. omega arith) c t.0

codes-back : (ds : List (List ℕ)) → all_among is_joined ds ≡ true → codes_of (spelt ds) ≡ ds
unfolding codes_of
codes-back [] h = refl
codes-back (c ∷ ds) h =
    let t = both (is_joined c) (all_among is_joined ds) h in
    let rest = codes-back ds t.1 in
    by-letters (λ c. codes_of (c ++ spelt ds) ≡ c ∷ ds) (λ a b j. ap (λ (l : List (List ℕ)). (a ∷ b ∷ []) ∷ l) rest) c t.0

codes_all : (ds : List (List ℕ)) → all_among is_joined ds ≡ true → are_codes (spelt ds) ≡ true
unfolding are_codes
codes_all [] h = refl
codes_all (c ∷ ds) h =
    let t = both (is_joined c) (all_among is_joined ds) h in
    let rest = codes_all ds t.1 in
    by-letters (λ c. are_codes (c ++ spelt ds) ≡ true) (λ a b j. rw (is-code a b j) rest) c t.0

some-spelt : (ds : List (List ℕ)) → all_among is_joined ds ≡ true → 1 ≤ length ds → some_codes (spelt ds) ≡ true
some-spelt ds h n = rw (lt-ltb 0 (length (spelt ds)) (omega (arith, spelt-length ds h))) (codes_all ds h)

-- ---- a group of a sign, VC or neither, and one or more codes: that it is not //, its shape, its reading

-- the first code in its letters
module _ (P : List (List ℕ) → Type 0) (k : (a b : ℕ) (ds : List (List ℕ)) → is_joined (a ∷ b ∷ []) ≡ true → all_among is_joined ((a ∷ b ∷ []) ∷ ds) ≡ true → P ((a ∷ b ∷ []) ∷ ds)) where
  by_first : (ds : List (List ℕ)) → all_among is_joined ds ≡ true → 1 ≤ length ds → P ds
  by_first [] h n = absurd (omega arith)
  by_first (c ∷ ds) h n =
      by-letters (λ c. all_among is_joined (c ∷ ds) ≡ true → P (c ∷ ds)) (λ a b j. k a b ds j) c (both (is_joined c) (all_among is_joined ds) h).0 h

pub no-slashes : (i : Intensity) (ds : List (List ℕ)) → all_among is_joined ds ≡ true → 1 ≤ length ds → has_pattern (sign_text i ++ spelt ds) (bytes "//") ≡ false
unfolding has_pattern fits low high
no-slashes intensity.None ds h n =
    by_first (λ ds. has_pattern (spelt ds) (bytes "//") ≡ false) (λ a b ds j h. rw (not-slash a b j, and-false (leb 47 a))) ds h n
no-slashes intensity.Light ds h n = refl
no-slashes intensity.Heavy ds h n = refl
no-slashes intensity.Vicinity ds h n = refl

pub shape-spelt : (i : Intensity) (ds : List (List ℕ)) → all_among is_joined ds ≡ true → 1 ≤ length ds → signed_codes (sign_text i ++ spelt ds) ≡ true
unfolding signed_codes are_codes codes_of
shape-spelt intensity.None ds h n =
    by_first (λ ds. signed_codes (spelt ds) ≡ true) (λ a b ds j h. rw (not-plus a b j, not-minus a b j) (some-spelt ((a ∷ b ∷ []) ∷ ds) h (omega arith))) ds h n
shape-spelt intensity.Light ds h n = some-spelt ds h n
shape-spelt intensity.Heavy ds h n = some-spelt ds h n
shape-spelt intensity.Vicinity ds h n = rw (lt-ltb 0 (length (86 ∷ 67 ∷ spelt ds)) (omega arith)) (codes_all ds h)

pub said-spelt : (i : Intensity) (ds : List (List ℕ)) → all_among is_joined ds ≡ true → 1 ≤ length ds → said_weather (sign_text i ++ spelt ds) ≡ told i ds
unfolding said_weather told
said-spelt intensity.None ds h n =
    by_first (λ ds. said_weather (spelt ds) ≡ told intensity.None ds)
    (λ a b ds j h. rw (not-plus a b j, not-minus a b j, codes-back ((a ∷ b ∷ []) ∷ ds) h, not-vicinity a b j)) ds h n
said-spelt intensity.Light ds h n = rw (codes-back ds h)
said-spelt intensity.Heavy ds h n = rw (codes-back ds h)
said-spelt intensity.Vicinity ds h n = rw (near (spelt ds), codes-back ds h, vicinity)
  where
    near : (s : List ℕ) → codes_of (86 ∷ 67 ∷ s) ≡ (86 ∷ 67 ∷ []) ∷ codes_of s
    near s = unfold codes_of in refl

    vicinity : one "VC" (86 ∷ 67 ∷ []) ≡ true
    vicinity = unfold codes_of in refl
