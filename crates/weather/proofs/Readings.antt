-- What a group says in the words of the code: its shape, its sign and descriptor by position, and its reading by its answer.
-- Assumes nothing.
use Rattle.std.specs.Prelude.{Err, Ok, None, Option, Some}
use mathlib.Core.Path.{◌≡◌, refl, sym}
use mathlib.Core.Bool.{Bool, true, false, not, ◌&&◌, and-true, and-false, and_assoc, or-false, false≢true}
use mathlib.Core.List.{List, [], ◌∷◌}
use Prim.Native.Nat.{ℕ, suc, ◌%◌}
use native.Mathlib.Omega.{arith}
use lib.ListN.{length, drop, get_or}
use lib.Dec.{ltb, eqb}
use Rattle.figures.specs.Quote.{bytes}
use Rattle.text.specs.declared.kinds.Refusal.TheVariants as refusal
use Rattle.places.specs.Engine.{Group}
use Rattle.record.specs.declared.aerodrome.Intensity.{Intensity}
use Rattle.record.specs.declared.aerodrome.Code.{Code}
use Rattle.record.specs.Values.{phenomena_of}
use Rattle.elements.specs.Weather.{codes_of, among, all_among, all_codes, is_code, is_descriptor, are_codes, some_codes, under, joined, intensity_fits, weather_of, code_at, said_weather, unless_unknown, only_plain, read_recent, one}
use Rattle.weather.specs.Split.{intensity_of, sign_length, descriptor_of, code_length, told}
use Rattle.weather.proofs.Table.{in_table, all_alike, code-among}

-- ---- shapes

even-next : (n : ℕ) → eqb (suc (suc n) % 2) 0 ≡ eqb (n % 2) 0
even-next n = let e : suc (suc n) % 2 ≡ n % 2 = omega arith in rw e

-- codes and nothing else are an even count of letters, each two a code
are-codes : (s : List ℕ) → are_codes s ≡ (eqb (length s % 2) 0 && all_among is_code (codes_of s))
unfolding are_codes codes_of
are-codes [] = refl
are-codes (a ∷ []) = refl
are-codes (a ∷ b ∷ s) = rw (are-codes s, even-next (length s)) (swap (is_code (a ∷ b ∷ [])) (eqb (length s % 2) 0) (all_among is_code (codes_of s)))
  where
    swap : (x y z : Bool) → (x && (y && z)) ≡ (y && (x && z))
    swap true y z = refl
    swap false true z = refl
    swap false false z = refl

pub codes_some : (s : List ℕ) → some_codes s ≡ (ltb 0 (length s) && eqb (length s % 2) 0 && all_among (λ c. among c all_codes) (codes_of s))
codes_some s =
    rw (are-codes s, all_alike (λ c. among c all_codes) is_code code-among (codes_of s))
    (sym (and_assoc (ltb 0 (length s)) (eqb (length s % 2) 0) (all_among is_code (codes_of s))))

-- ---- the descriptor

-- no descriptor has the second letter 0
half : (a : ℕ) → is_descriptor (a ∷ 0 ∷ []) ≡ false
half a = go (is_descriptor (a ∷ 0 ∷ [])) refl
  where
    go : (t : Bool) → is_descriptor (a ∷ 0 ∷ []) ≡ t → t ≡ false
    go true h =
        absurd (false≢true (in_table (λ c. not (eqb (get_or c 1 0) 0)) (codes_of (bytes "MIBCPRDRBLSHTSFZ")) (unfold codes_of in refl) (a ∷ 0 ∷ []) h))
    go false h = refl

joined_is : (s : List ℕ) → joined (codes_of s) ≡ under (descriptor_of s) (codes_of (drop (code_length (descriptor_of s)) s))
unfolding descriptor_of codes_of
joined_is [] = refl
joined_is (a ∷ []) = rw (half a)
joined_is (a ∷ b ∷ s) = go (is_descriptor (a ∷ b ∷ [])) refl
  where
    go : (t : Bool) → is_descriptor (a ∷ b ∷ []) ≡ t → joined (codes_of (a ∷ b ∷ s)) ≡ under (descriptor_of (a ∷ b ∷ s)) (codes_of (drop (code_length (descriptor_of (a ∷ b ∷ s))) (a ∷ b ∷ s)))
    go true h = rw h
    go false h = rw h

pub weather-of : (i : Intensity) (d : Option Code) (cs : List (List ℕ))
    → weather_of i (under d cs) ≡ record { is = Some (phenomena_of i d (code_at cs 0) (code_at cs 1) (code_at cs 2)) }
weather-of i None cs = refl
weather-of i (Some x) cs = refl

-- codes after their sign or VC, by the descriptor and what stands after it
module _ (i : Intensity) (s : List ℕ) {d : Option Code} {rest : List ℕ} (named : d ≡ descriptor_of s) (left : rest ≡ drop (code_length d) s) where
  parts : joined (codes_of s) ≡ under d (codes_of rest)
  parts = rw (joined_is s, ← named, ← left)

  pub told_good : intensity_fits i (under d (codes_of rest)) ≡ true
      → Ok (record { is = Some (phenomena_of i d (code_at (codes_of rest) 0) (code_at (codes_of rest) 1) (code_at (codes_of rest) 2)) }) ≡ told i (codes_of s)
  unfolding told
  told_good h = rw (parts, h, weather-of i d (codes_of rest))

  pub told_bad : intensity_fits i (under d (codes_of rest)) ≡ false → Err refusal.Figure ≡ told i (codes_of s)
  unfolding told
  told_bad h = rw (parts, h)

-- ---- the sign or VC

-- a text of no code, of one more, and the code VC
no-codes : codes_of [] ≡ []
unfolding codes_of
no-codes = refl

half-code : (a : ℕ) → codes_of (a ∷ []) ≡ []
unfolding codes_of
half-code a = refl

one_code : (a b : ℕ) (s : List ℕ) → codes_of (a ∷ b ∷ s) ≡ (a ∷ b ∷ []) ∷ codes_of s
unfolding codes_of
one_code a b s = refl

is-vicinity : (a b : ℕ) → one "VC" (a ∷ b ∷ []) ≡ (eqb a 86 && eqb b 67)
unfolding codes_of
is-vicinity a b = rw (and-true (eqb b 67), or-false (eqb a 86 && eqb b 67))

pub said_is : (g : Group) → said_weather g ≡ told (intensity_of g) (codes_of (drop (sign_length (intensity_of g)) g))
unfolding said_weather intensity_of told
said_is [] = rw no-codes
said_is (b ∷ g) = plus (eqb b 43) refl
  where
    Same : Type 0
    Same = said_weather (b ∷ g) ≡ told (intensity_of (b ∷ g)) (codes_of (drop (sign_length (intensity_of (b ∷ g))) (b ∷ g)))

    near : (g : Group) → eqb b 43 ≡ false → eqb b 45 ≡ false → (t : Bool) → (eqb b 86 && eqb (get_or g 0 0) 67) ≡ t
        → said_weather (b ∷ g) ≡ told (intensity_of (b ∷ g)) (codes_of (drop (sign_length (intensity_of (b ∷ g))) (b ∷ g)))
    near [] p m t h = rw (p, m, and-false (eqb b 86), half-code b)
    near (e ∷ g) p m true h = rw (p, m, h, one_code b e g, is-vicinity b e, h)
    near (e ∷ g) p m false h = rw (p, m, h, one_code b e g, is-vicinity b e, h)

    minus : eqb b 43 ≡ false → (t : Bool) → eqb b 45 ≡ t → Same
    minus p true m = rw (p, m)
    minus p false m = near g p m (eqb b 86 && eqb (get_or g 0 0) 67) refl

    plus : (t : Bool) → eqb b 43 ≡ t → Same
    plus true p = rw p
    plus false p = minus p (eqb b 45) refl

-- ---- a reading and its answer

pub recent_is : (automatic : Bool) (g : Group) → read_recent automatic g ≡ unless_unknown automatic (only_plain (said_weather (drop 2 g)))
unfolding read_recent said_weather
recent_is automatic [] = refl
recent_is automatic (r ∷ []) = refl
recent_is automatic (r ∷ e ∷ g) = refl
