-- What is written of a weather that is judged fine fits one of the patterns that weather speaks: PR stands before FG alone.
-- Assumes nothing.
use Rattle.std.specs.Prelude.{Ok, None, Option, Some}
use mathlib.Core.Path.{◌≡◌, refl}
use mathlib.Core.Bool.{Bool, true, false, ◌&&◌, ◌||◌, false≢true}
use mathlib.Core.List.{List, [], ◌∷◌, ◌++◌}
use Prim.Native.Nat.{ℕ, ◌≤◌}
use native.Mathlib.Omega.{arith}
use lib.ListN.{length}
use Rattle.figures.specs.Quote.{bytes}
use Rattle.shapes.specs.Pattern.{has_pattern, has_any, fits, low, high}
use Rattle.shapes.proofs.Patterns.{both, or_cases, or_right}
use Rattle.record.specs.declared.aerodrome.Intensity.{Intensity}
use Rattle.record.specs.declared.aerodrome.Intensity.TheVariants as intensity
use Rattle.record.specs.declared.aerodrome.Code.{Code}
use Rattle.record.specs.declared.aerodrome.Phenomena.{Phenomena}
use Rattle.record.specs.declared.aerodrome.Weather.{Weather}
use Rattle.elements.specs.Weather.{codes_of, same, among, one, covering, spoken_codes, weather_spoken, all_among, single, Under, right, signed, sign_text, listed, under, is_described, intensity_fits, show_weather, judge_weather}
use Rattle.weather.proofs.Table.{same-eq, in_table}
use Rattle.weather.proofs.Covers.{any_append, covered-by}
use Rattle.weather.proofs.Fits.{plains, is_plain, single-all, single-one, fit-some, fit-plain}
use Rattle.weather.proofs.Spelt.{spelt, codes_in, text-spelt}
use Rattle.weather.proofs.RoundTrip.{fitted, fits-of}

-- ---- a code that is spoken, after a sign or none

abbrev signed_spoken : List (List ℕ)
signed_spoken = covering (bytes "+") spoken_codes ++ covering (bytes "-") spoken_codes

later : (g : List ℕ) → has_any (covering [] spoken_codes ++ signed_spoken) g ≡ true → has_any weather_spoken g ≡ true
unfolding has_any
later g h = or_right (has_pattern g (bytes "//")) _ (or_right (has_pattern g (bytes "PRFG")) _ h)

unsigned-spoken : (c rest : List ℕ) → among c spoken_codes ≡ true → has_any weather_spoken (c ++ rest) ≡ true
unsigned-spoken c rest m =
    later (c ++ rest)
    (rw (any_append (covering [] spoken_codes) signed_spoken (c ++ rest), covered-by [] c rest spoken_codes (unfold codes_of fits low high in refl) m))

signed-later : (g : List ℕ) → (has_any (covering (bytes "+") spoken_codes) g || has_any (covering (bytes "-") spoken_codes) g) ≡ true → has_any weather_spoken g ≡ true
signed-later g h =
    later g
    (rw (any_append (covering [] spoken_codes) signed_spoken g, any_append (covering (bytes "+") spoken_codes) (covering (bytes "-") spoken_codes) g)
    (or_right (has_any (covering [] spoken_codes) g) _ h))

spoken-after : (i : Intensity) (c rest : List ℕ) → among c spoken_codes ≡ true → has_any weather_spoken (sign_text i ++ (c ++ rest)) ≡ true
spoken-after intensity.None c rest m = unsigned-spoken c rest m
spoken-after intensity.Light c rest m =
    signed-later (bytes "-" ++ (c ++ rest))
    (or_right (has_any (covering (bytes "+") spoken_codes) (bytes "-" ++ (c ++ rest))) _ (covered-by (bytes "-") c rest spoken_codes (unfold codes_of fits low high in refl) m))
spoken-after intensity.Heavy c rest m =
    signed-later (bytes "+" ++ (c ++ rest)) (rw (covered-by (bytes "+") c rest spoken_codes (unfold codes_of fits low high in refl) m))
spoken-after intensity.Vicinity c rest m = unsigned-spoken (bytes "VC") (c ++ rest) (unfold codes_of in refl)

-- ---- PR stands before FG, with no sign

only-fog : (cs : List (List ℕ)) → single (one "FG") cs ≡ true → cs ≡ bytes "FG" ∷ []
unfolding codes_of
only-fog cs h = go cs (single-one cs (one "FG") h) (single-all cs (one "FG") h)
  where
    go : (cs : List (List ℕ)) → length cs ≡ 1 → all_among (one "FG") cs ≡ true → cs ≡ bytes "FG" ∷ []
    go [] n a = absurd (omega arith)
    go (c ∷ d ∷ cs) n a = absurd (omega arith)
    go (c ∷ []) n a =
        or_cases (same c (bytes "FG")) false (both (same c (bytes "FG") || false) true a).0
        (λ e. rw (same-eq c (bytes "FG") e))
        (λ e. absurd (false≢true e))

abbrev partial : List ℕ
partial = bytes "PR"

-- a sign stands before precipitation, which FG is not
no_sign : (heavy : Bool) (cs : List (List ℕ)) → (right (Under partial cs) && signed heavy (Under partial cs)) ≡ false
unfolding codes_of
no_sign heavy cs = go (single (one "FG") cs) refl
  where
    go : (b : Bool) → single (one "FG") cs ≡ b → (single (one "FG") cs && signed heavy (Under partial cs)) ≡ false
    go true e = rw (only-fog cs e)
    go false e = rw e

partial-spoken : (i : Intensity) (cs : List (List ℕ)) → intensity_fits i (Under partial cs) ≡ true → has_any weather_spoken (sign_text i ++ (partial ++ spelt cs)) ≡ true
unfolding codes_of has_any has_pattern fits low high
partial-spoken intensity.None cs h = rw (only-fog cs h)
partial-spoken intensity.Light cs h = absurd (false≢true (rw (no_sign false cs) at h))
partial-spoken intensity.Heavy cs h = absurd (false≢true (rw (no_sign true cs) at h))
partial-spoken intensity.Vicinity cs h = unsigned-spoken (bytes "VC") (partial ++ spelt cs) refl

-- ---- codes that are joined as they may be

bare-spoken : (i : Intensity) (cs : List (List ℕ)) → 1 ≤ length cs → all_among is_plain cs ≡ true → has_any weather_spoken (sign_text i ++ spelt cs) ≡ true
bare-spoken i [] n a = absurd (omega arith)
bare-spoken i (c ∷ cs) n a =
    spoken-after i c (spelt cs) (in_table (λ c. among c spoken_codes) plains (unfold codes_of in refl) c (both (is_plain c) (all_among is_plain cs) a).0)

under-spoken : (i : Intensity) (d : List ℕ) (cs : List (List ℕ)) → (same d partial || among d spoken_codes) ≡ true → intensity_fits i (Under d cs) ≡ true
    → has_any weather_spoken (sign_text i ++ (d ++ spelt cs)) ≡ true
under-spoken i d cs e h =
    or_cases (same d partial) (among d spoken_codes) e
    (λ p. let is = same-eq d partial p in rw is (partial-spoken i cs (rw is at h)))
    (λ m. spoken-after i d (spelt cs) m)

joined-spoken : (i : Intensity) (d : Option Code) (cs : List (List ℕ)) → is_described d ≡ true → intensity_fits i (under d cs) ≡ true
    → has_any weather_spoken (sign_text i ++ spelt (listed d cs)) ≡ true
joined-spoken i None cs e h = bare-spoken i cs (fit-some cs i h) (fit-plain cs i None h)
joined-spoken i (Some z) cs e h =
    under-spoken i (z.first ∷ z.second ∷ []) cs
    (in_table (λ c. same c partial || among c spoken_codes) (codes_of (bytes "MIBCPRDRBLSHTSFZ")) (unfold codes_of in refl) (z.first ∷ z.second ∷ []) e) h

-- WHAT IS WRITTEN OF A WEATHER THAT IS JUDGED FINE is spoken.
pub weather-spoken : (forecast automatic beside : Bool) (w : Weather) → judge_weather forecast automatic beside w ≡ Ok tt
    → has_any weather_spoken (show_weather w) ≡ true
unfolding show_weather
weather-spoken forecast automatic beside w = go w.is
  where
    go : (p : Option Phenomena) → judge_weather forecast automatic beside (record { is = p }) ≡ Ok tt → has_any weather_spoken (show_weather (record { is = p })) ≡ true
    go None h = unfold has_any has_pattern fits low high in refl
    go (Some x) h =
        let f = fits-of forecast automatic beside x h in
        let t = fitted x f in
        rw (text-spelt x) (joined-spoken x.intensity x.descriptor (codes_in x) t.0 t.2)
