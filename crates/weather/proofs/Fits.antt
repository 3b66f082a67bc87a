-- What codes that are joined as they may be are: codes of the table, a descriptor only in front, one or more, and after VC at most one beside it.
-- And which descriptors stand alone.
-- Assumes nothing.
use Rattle.std.specs.Prelude.{None, Option, Some}
use mathlib.Core.Path.{◌≡◌, refl}
use mathlib.Core.Bool.{Bool, true, false, cond, not, ◌&&◌, and-true, and-false, or-false}
use mathlib.Core.List.{List, [], ◌∷◌}
use Prim.Native.Nat.{ℕ, ◌≤◌}
use native.Mathlib.Omega.{arith}
use lib.ListN.{length}
use lib.Dec.{leb, eqb}
use borrow.Author.Tests.{leb-true, eqb-true, not-true}
use Rattle.figures.specs.Quote.{bytes}
use Rattle.shapes.proofs.Patterns.{both, or_cases}
use Rattle.record.specs.declared.aerodrome.Intensity.{Intensity}
use Rattle.record.specs.declared.aerodrome.Intensity.TheVariants as intensity
use Rattle.record.specs.declared.aerodrome.Code.{Code}
use Rattle.elements.specs.Weather.{codes_of, among, one, is_descriptor, is_precipitation, is_phenomenon, all_among, differ, precipitations, single, suits, bare, listed, under, Under, joined, right, in_vicinity, is_described, intensity_fits}
use Rattle.weather.proofs.Table.{in_table, all-in-table}

-- the codes of the table other than descriptors and VC; other than VC
abbrev pub plains : List (List ℕ)
plains = codes_of (bytes "DZRASNSGICPLGRGSUPBRFGFUVADUSAHZPOSQFCSSDS")

abbrev pub is_plain : List ℕ → Bool
is_plain c = among c plains

abbrev pub joins : List (List ℕ)
joins = codes_of (bytes "MIBCPRDRBLSHTSFZDZRASNSGICPLGRGSUPBRFGFUVADUSAHZPOSQFCSSDS")

abbrev pub is_joined : List ℕ → Bool
is_joined c = among c joins

-- ---- of what precipitations and a single code are

module _ (cs : List (List ℕ)) where
  pub single-all : (test : List ℕ → Bool) → single test cs ≡ true → all_among test cs ≡ true
  single-all test h = (both (eqb (length cs) 1) (all_among test cs) h).1

  pub single-one : (test : List ℕ → Bool) → single test cs ≡ true → length cs ≡ 1
  single-one test h = eqb-true (length cs) 1 (both (eqb (length cs) 1) (all_among test cs) h).0

  falling : precipitations cs ≡ true → (1 ≤ length cs) × (all_among is_precipitation cs ≡ true)
  falling h =
      let t = both (leb 1 (length cs) && leb (length cs) 3 && all_among is_precipitation cs) (differ cs) h in
      let u = both (leb 1 (length cs) && leb (length cs) 3) (all_among is_precipitation cs) t.0 in
      (leb-true 1 (length cs) (both (leb 1 (length cs)) (leb (length cs) 3) u.0).0, u.1)

-- either of two, by a test
either : {X : Type 0} (t a b : Bool) → cond t a b ≡ true → (a ≡ true → X) → (b ≡ true → X) → X
either true a b h f g = f h
either false a b h f g = g h

-- some, all plain
abbrev Plain : List (List ℕ) → Type 0
Plain cs = (1 ≤ length cs) × (all_among is_plain cs ≡ true)

module _ (cs : List (List ℕ)) where
  -- a single code, of a list of plain ones
  lone : (ds : List (List ℕ)) → all_among is_plain ds ≡ true → single (λ c. among c ds) cs ≡ true → Plain cs
  lone ds a h = (omega (arith, single-one cs (λ c. among c ds) h), all-in-table is_plain ds a cs (single-all cs (λ c. among c ds) h))

  fallen : precipitations cs ≡ true → Plain cs
  fallen h = ((falling cs h).0, all-in-table is_plain (codes_of (bytes "DZRASNSGICPLGRGSUP")) (unfold codes_of in refl) cs (falling cs h).1)

  -- precipitations and what they are besides
  fallen-as : (t : Bool) → (precipitations cs && t) ≡ true → Plain cs
  fallen-as t h = fallen (both (precipitations cs) t h).0

  fog : single (one "FG") cs ≡ true → Plain cs
  fog = lone (codes_of (bytes "FG")) (unfold codes_of in refl)

  drift : single (one "DUSASN") cs ≡ true → Plain cs
  drift = lone (codes_of (bytes "DUSASN")) (unfold codes_of in refl)

  suits-plain : (d : List ℕ) → suits d cs ≡ true → Plain cs
  suits-plain d h =
      either (one "MIBCPR" d) _ _ h fog
      (λ h. either (one "DRBL" d) _ _ h drift
      (λ h. either (one "SHTS" d) _ _ h (fallen-as _) (λ h. or_cases (single (one "FG") cs) _ h fog (fallen-as _))))

  none-plain : length cs ≡ 0 → all_among is_plain cs ≡ true
  none-plain = go cs
    where
      go : (l : List (List ℕ)) → length l ≡ 0 → all_among is_plain l ≡ true
      go [] e = refl
      go (c ∷ l) e = absurd (omega arith)

  -- with no descriptor there is a code
  bare-plain : bare cs ≡ true → Plain cs
  bare-plain h = or_cases (single is_phenomenon cs) (precipitations cs) h (lone (codes_of (bytes "BRFGFUVADUSAHZPOSQFCSSDS")) (unfold codes_of in refl)) fallen

  -- under one there may be none, as TS stands alone
  right-plain : (d : Option Code) → right (under d cs) ≡ true → all_among is_plain cs ≡ true
  right-plain None h = (bare-plain h).1
  right-plain (Some x) h =
      or_cases (one "TS" (x.first ∷ x.second ∷ []) && eqb (length cs) 0) (suits (x.first ∷ x.second ∷ []) cs) h
      (λ h. none-plain (eqb-true (length cs) 0 (both (one "TS" (x.first ∷ x.second ∷ [])) _ h).1))
      (λ h. (suits-plain (x.first ∷ x.second ∷ []) h).1)

  -- after VC
  dusty : single (one "DSSSFGFCPOVA") cs ≡ true → Plain cs
  dusty = lone (codes_of (bytes "DSSSFGFCPOVA")) (unfold codes_of in refl)

  near-plain : (d : Option Code) → in_vicinity (under d cs) ≡ true → (all_among is_plain cs ≡ true) × (length cs ≤ 1)
  near-plain None h = ((dusty h).1, omega (arith, single-one cs (one "DSSSFGFCPOVA") h))
  near-plain (Some x) h =
      or_cases (one "SHTS" (x.first ∷ x.second ∷ []) && eqb (length cs) 0) (one "BL" (x.first ∷ x.second ∷ []) && single (one "DUSASN") cs) h
      (λ h. let e = eqb-true (length cs) 0 (both (one "SHTS" (x.first ∷ x.second ∷ [])) _ h).1 in (none-plain e, omega arith))
      (λ h. let s = (both (one "BL" (x.first ∷ x.second ∷ [])) _ h).1 in ((drift s).1, omega (arith, single-one cs (one "DUSASN") s)))

  pub fit-plain : (i : Intensity) (d : Option Code) → intensity_fits i (under d cs) ≡ true → all_among is_plain cs ≡ true
  fit-plain intensity.None d h = right-plain d h
  fit-plain intensity.Light d h = right-plain d (both (right (under d cs)) _ h).0
  fit-plain intensity.Heavy d h = right-plain d (both (right (under d cs)) _ h).0
  fit-plain intensity.Vicinity d h = (near-plain d h).0

  -- without a descriptor there is a code
  pub fit-some : (i : Intensity) → intensity_fits i (under None cs) ≡ true → 1 ≤ length cs
  fit-some intensity.None h = (bare-plain h).0
  fit-some intensity.Light h = (bare-plain (both (bare cs) _ h).0).0
  fit-some intensity.Heavy h = (bare-plain (both (bare cs) _ h).0).0
  fit-some intensity.Vicinity h = (dusty h).0

  -- after VC at most one code beside the descriptor
  pub fit-few : (d : Option Code) → intensity_fits intensity.Vicinity (under d cs) ≡ true → length cs ≤ 1
  fit-few d h = (near-plain d h).1

  -- a descriptor and the codes after it
  pub fit-coded : (i : Intensity) (d : Option Code) → is_described d ≡ true → intensity_fits i (under d cs) ≡ true → all_among is_joined (listed d cs) ≡ true
  fit-coded i d e h = go d e
    where
      rest : all_among is_joined cs ≡ true
      rest = all-in-table is_joined plains (unfold codes_of in refl) cs (fit-plain i d h)

      go : (d : Option Code) → is_described d ≡ true → all_among is_joined (listed d cs) ≡ true
      go None e = rest
      go (Some x) e = rw (in_table is_joined (codes_of (bytes "MIBCPRDRBLSHTSFZ")) (unfold codes_of in refl) (x.first ∷ x.second ∷ []) e) rest

-- ---- WHICH DESCRIPTORS STAND ALONE, in a text and in a record: TS, after VC also SH, and after a sign none

abbrev pub alone_after : Intensity → List ℕ → Bool
alone_after intensity.None d = one "TS" d
alone_after intensity.Light d = false
alone_after intensity.Heavy d = false
alone_after intensity.Vicinity d = one "SHTS" d

-- codes that suit a descriptor are at least one
suits-none : (d : List ℕ) → suits d [] ≡ false
suits-none d = go (suits d []) refl
  where
    go : (b : Bool) → suits d [] ≡ b → suits d [] ≡ false
    go true e = absurd (omega (arith, (suits-plain [] d e).0))
    go false e = e

pub stands-alone : (i : Intensity) (d : List ℕ) → intensity_fits i (Under d []) ≡ alone_after i d
stands-alone intensity.None d = rw (suits-none d, and-true (one "TS" d), or-false (one "TS" d))
stands-alone intensity.Light d = and-false (right (Under d []))
stands-alone intensity.Heavy d = and-false (right (Under d []))
stands-alone intensity.Vicinity d = rw (and-true (one "SHTS" d), and-false (one "BL" d), or-false (one "SHTS" d))

-- no plain code is a descriptor
plain-only : (c : List ℕ) → is_plain c ≡ true → is_descriptor c ≡ false
plain-only c h =
    not-true (is_descriptor c)
    (in_table (λ c. not (is_descriptor c)) plains (unfold codes_of in refl) c h)

-- codes are read under the descriptor that they were written under
pub fit-joined : (i : Intensity) (d : Option Code) (cs : List (List ℕ)) → is_described d ≡ true → intensity_fits i (under d cs) ≡ true → joined (listed d cs) ≡ under d cs
fit-joined i None [] e h = refl
fit-joined i None (c ∷ cs) e h = rw (plain-only c (both (is_plain c) _ (fit-plain (c ∷ cs) i None h)).0)
fit-joined i (Some x) cs e h = rw e
