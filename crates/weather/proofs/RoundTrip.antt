-- A weather that is judged fine is written as a group of its shape, which is read back as the weather; and what the group's bytes are.
-- Assumes nothing.
use Rattle.std.specs.Prelude.{Ok, None, Option, Some}
use mathlib.Core.Path.{◌≡◌, refl}
use mathlib.Core.Bool.{Bool, true, false, not, ◌&&◌, ◌||◌, false≢true}
use mathlib.Core.List.{List, [], ◌∷◌}
use Prim.Native.Nat.{ℕ, ◌+◌, ◌*◌, ◌≤◌}
use native.Mathlib.Omega.{arith}
use lib.ListN.{length, length-append}
use lib.Dec.{leb}
use borrow.Author.Tests.{leb-true, ne_eqb}
use Rattle.figures.specs.Quote.{bytes}
use Rattle.figures.specs.Figures.{is_letter}
use Rattle.text.specs.Bytes.{inner, allowed}
use Rattle.text.specs.Groups.{Every, Some as Filled, Whole}
use Rattle.text.proofs.Judging.{fine}
use Rattle.text.proofs.Joins.{every_append}
use Rattle.shapes.specs.Pattern.{has_pattern, fits, low, high}
use Rattle.shapes.proofs.Patterns.{both, or_cases, or_right}
use Rattle.record.specs.Missing.{is_missing}
use Rattle.places.specs.Engine.{Group}
use Rattle.record.specs.declared.aerodrome.Intensity.{Intensity}
use Rattle.record.specs.declared.aerodrome.Intensity.TheVariants as intensity
use Rattle.record.specs.declared.aerodrome.Code.{Code}
use Rattle.record.specs.declared.aerodrome.Phenomena.{Phenomena}
use Rattle.record.specs.declared.aerodrome.Weather.{Weather}
use Rattle.elements.specs.Weather.{signed_codes, has_weather, has_recent, all_among, listed, under, code_at, said_weather, has_unknown, unless_unknown, read_weather, plain, is_plain, read_recent, sign_text, phenomena_text, show_weather, show_recent, gapless, is_described, intensity_fits, phenomena_fit, judge_weather, judge_recent}
use Rattle.weather.specs.Split.{told}
use Rattle.weather.proofs.Readings.{weather-of}
use Rattle.weather.proofs.Spelt.{spelt, codes_in, text-spelt, spelt-every, spelt-length, no-slashes, shape-spelt, said-spelt}
use Rattle.weather.proofs.Fits.{is_joined, fit-some, fit-few, fit-coded, fit-joined}

-- ---- a record that fits

-- the codes stand where they stood
codes-kept : (a b c : Option Code) → gapless a b c ≡ true
    → let cs = listed a (listed b (listed c [])) in
    (code_at cs 0 ≡ a) × (code_at cs 1 ≡ b) × (code_at cs 2 ≡ c)
codes-kept None None None g = (refl, refl, refl)
codes-kept None None (Some z) g = absurd (false≢true g)
codes-kept None (Some z) c g = absurd (false≢true g)
codes-kept (Some z) None None g = (refl, refl, refl)
codes-kept (Some z) None (Some x) g = absurd (false≢true g)
codes-kept (Some z) (Some x) None g = (refl, refl, refl)
codes-kept (Some z) (Some x) (Some y) g = (refl, refl, refl)

listed-length : (a : Option Code) (cs : List (List ℕ)) → length (listed a cs) ≤ 1 + length cs
listed-length None cs = omega arith
listed-length (Some z) cs = omega arith

-- no letter parts groups or ends a report, and each may stand in a text
letter-inner : (x : ℕ) → is_letter x ≡ true → inner x ≡ true
letter-inner x h =
    let l = leb-true 65 x (both (leb 65 x) (leb x 90) h).0 in
    rw (ne_eqb x 32 (λ e. omega arith), ne_eqb x 13 (λ e. omega arith), ne_eqb x 10 (λ e. omega arith), ne_eqb x 61 (λ e. omega arith))

letter-allowed : (x : ℕ) → is_letter x ≡ true → allowed x ≡ true
letter-allowed x h = rw h

sign-inner : (i : Intensity) → Every inner (sign_text i)
sign-inner intensity.None = tt
sign-inner intensity.Light = (refl, tt)
sign-inner intensity.Heavy = (refl, tt)
sign-inner intensity.Vicinity = (refl, (refl, tt))

sign-allowed : (i : Intensity) → Every allowed (sign_text i)
sign-allowed intensity.None = tt
sign-allowed intensity.Light = (refl, tt)
sign-allowed intensity.Heavy = (refl, tt)
sign-allowed intensity.Vicinity = (refl, (refl, tt))

module _ (x : Phenomena) (f : phenomena_fit (Some x) ≡ true) where
  abbrev rest : List (List ℕ)
  rest = codes_in x

  pub fitted : (is_described x.descriptor ≡ true) × (gapless x.first x.second x.third ≡ true) × (intensity_fits x.intensity (under x.descriptor rest) ≡ true)
  fitted =
      let t = both (is_described x.descriptor && gapless x.first x.second x.third) (intensity_fits x.intensity (under x.descriptor rest)) f in
      let u = both (is_described x.descriptor) (gapless x.first x.second x.third) t.0 in
      (u.0, u.1, t.1)

  coded : all_among is_joined (listed x.descriptor rest) ≡ true
  coded = fit-coded rest x.intensity x.descriptor fitted.0 fitted.2

  some : 1 ≤ length (listed x.descriptor rest)
  some = go x.descriptor fitted.2
    where
      go : (d : Option Code) → intensity_fits x.intensity (under d rest) ≡ true → 1 ≤ length (listed d rest)
      go None e = fit-some rest x.intensity e
      go (Some z) e = omega arith

  shape_is : signed_codes (phenomena_text (Some x)) ≡ true
  shape_is = rw (text-spelt x) (shape-spelt x.intensity (listed x.descriptor rest) coded some)

  slashless : has_pattern (phenomena_text (Some x)) (bytes "//") ≡ false
  slashless = rw (text-spelt x) (no-slashes x.intensity (listed x.descriptor rest) coded some)

  said-back : said_weather (phenomena_text (Some x)) ≡ Ok (record { is = Some x })
  unfolding told
  said-back =
      rw (text-spelt x, said-spelt x.intensity (listed x.descriptor rest) coded some, fit-joined x.intensity x.descriptor rest fitted.0 fitted.2, fitted.2, weather-of x.intensity x.descriptor rest, (codes-kept x.first x.second x.third fitted.1).0, (codes-kept x.first x.second x.third fitted.1).1, (codes-kept x.first x.second x.third fitted.1).2)

  text-inner : Every inner (phenomena_text (Some x))
  text-inner = rw (text-spelt x) (every_append inner (sign_text x.intensity) (spelt (listed x.descriptor rest)) (sign-inner x.intensity) (spelt-every inner letter-inner (listed x.descriptor rest) coded))

  text-allowed : Every allowed (phenomena_text (Some x))
  text-allowed = rw (text-spelt x) (every_append allowed (sign_text x.intensity) (spelt (listed x.descriptor rest)) (sign-allowed x.intensity) (spelt-every allowed letter-allowed (listed x.descriptor rest) coded))

  -- the sign and two letters for each code
  text-length : length (phenomena_text (Some x)) ≡ length (sign_text x.intensity) + 2 * length (listed x.descriptor rest)
  text-length = rw (text-spelt x, length-append (sign_text x.intensity) (spelt (listed x.descriptor rest)), spelt-length (listed x.descriptor rest) coded)

  filled : 1 ≤ length (phenomena_text (Some x))
  filled = omega (arith, text-length, some)

  four : length (listed x.descriptor rest) ≤ 4
  four =
      let after = listed x.third [] in
      let two = listed x.second after in
      omega (arith, listed-length x.descriptor rest, listed-length x.first two, listed-length x.second after, listed-length x.third [])

  nine : length (phenomena_text (Some x)) ≤ 9
  nine = rw text-length (go x.intensity fitted.2)
    where
      go : (i : Intensity) → intensity_fits i (under x.descriptor rest) ≡ true → length (sign_text i) + 2 * length (listed x.descriptor rest) ≤ 9
      go intensity.None e = omega (arith, four)
      go intensity.Light e = omega (arith, four)
      go intensity.Heavy e = omega (arith, four)
      go intensity.Vicinity e = omega (arith, listed-length x.descriptor rest, fit-few rest x.descriptor e)

-- ---- a weather that is judged fine

-- with something in it
some_of : (g : Group) → 1 ≤ length g → Filled g
some_of [] n = absurd (omega arith)
some_of (x ∷ g) n = tt

-- what is read of a right group that may say UP
unknown-back : (automatic : Bool) (w : Weather) → (automatic || not (has_unknown w.is)) ≡ true → unless_unknown automatic (Ok w) ≡ Ok w
unknown-back automatic w h = rw h

module _ (forecast automatic beside : Bool) where
  judged-fine : (w : Weather) → judge_weather forecast automatic beside w ≡ Ok tt
      → ((phenomena_fit w.is || (not forecast && is_missing w.is)) ≡ true) × ((automatic || not (has_unknown w.is)) ≡ true)
  unfolding judge_weather
  judged-fine w h =
      let t = fine (phenomena_fit w.is || (not forecast && is_missing w.is)) (not beside && (automatic || not (has_unknown w.is))) h in
      (t.0, (both (not beside) (automatic || not (has_unknown w.is)) t.1).1)

  pub fits-of : (x : Phenomena) → judge_weather forecast automatic beside (record { is = Some x }) ≡ Ok tt → phenomena_fit (Some x) ≡ true
  fits-of x h =
      or_cases (phenomena_fit (Some x)) (not forecast && false) (judged-fine (record { is = Some x }) h).0
      (λ f. f)
      (λ f. absurd (false≢true (both (not forecast) false f).1))

  pub weather-shaped : (w : Weather) → judge_weather forecast automatic beside w ≡ Ok tt → has_weather (show_weather w) ≡ true
  unfolding has_weather show_weather has_pattern fits low high
  weather-shaped w = go w.is
    where
      go : (p : Option Phenomena) → judge_weather forecast automatic beside (record { is = p }) ≡ Ok tt → has_weather (show_weather (record { is = p })) ≡ true
      go None h = refl
      go (Some x) h = or_right (has_pattern (phenomena_text (Some x)) (bytes "//")) _ (shape_is x (fits-of x h))

  pub weather-back : (w : Weather) → judge_weather forecast automatic beside w ≡ Ok tt → read_weather forecast automatic (show_weather w) ≡ Ok w
  unfolding read_weather show_weather
  weather-back w = go w.is
    where
      slashes : has_pattern (bytes "//") (bytes "//") ≡ true
      slashes = unfold has_pattern fits low high in refl

      go : (p : Option Phenomena) → judge_weather forecast automatic beside (record { is = p }) ≡ Ok tt → read_weather forecast automatic (show_weather (record { is = p })) ≡ Ok (record { is = p })
      go None h = rw (slashes, (both (not forecast) true (judged-fine (record { is = None }) h).0).0)
      go (Some x) h =
          let f = fits-of x h in
          rw (slashless x f, said-back x f) (unknown-back automatic (record { is = Some x }) (judged-fine (record { is = Some x }) h).1)

  pub weather-sized : (w : Weather) → judge_weather forecast automatic beside w ≡ Ok tt
      → Whole (show_weather w) × Every allowed (show_weather w) × (length (show_weather w) ≤ 9)
  unfolding show_weather
  weather-sized w = go w.is
    where
      go : (p : Option Phenomena) → judge_weather forecast automatic beside (record { is = p }) ≡ Ok tt
          → Whole (show_weather (record { is = p })) × Every allowed (show_weather (record { is = p })) × (length (show_weather (record { is = p })) ≤ 9)
      go None h = ((tt, (refl, (refl, tt))), (refl, (refl, tt)), omega arith)
      go (Some x) h =
          let f = fits-of x h in
          ((some_of (phenomena_text (Some x)) (filled x f), text-inner x f), text-allowed x f, nine x f)

module _ (automatic : Bool) where
  recent-fine : (w : Weather) → judge_recent automatic w ≡ Ok tt
      → (phenomena_fit w.is ≡ true) × (is_plain w.is ≡ true) × ((automatic || not (has_unknown w.is)) ≡ true)
  unfolding judge_recent
  recent-fine w h =
      let t = fine (phenomena_fit w.is && is_plain w.is) (automatic || not (has_unknown w.is)) h in
      let u = both (phenomena_fit w.is) (is_plain w.is) t.0 in
      (u.0, u.1, t.1)

  pub recent-shaped : (w : Weather) → judge_recent automatic w ≡ Ok tt → has_recent (show_recent w) ≡ true
  unfolding has_recent show_recent
  recent-shaped w h = go w.is (recent-fine w h).0
    where
      go : (p : Option Phenomena) → phenomena_fit p ≡ true → has_recent (show_recent (record { is = p })) ≡ true
      go None f = absurd (false≢true f)
      go (Some x) f = shape_is x f

  pub recent-back : (w : Weather) → judge_recent automatic w ≡ Ok tt → read_recent automatic (show_recent w) ≡ Ok w
  unfolding read_recent show_recent
  recent-back w h = go w.is (recent-fine w h).0 (recent-fine w h).1 (recent-fine w h).2
    where
      go : (p : Option Phenomena) → phenomena_fit p ≡ true → is_plain p ≡ true → (automatic || not (has_unknown p)) ≡ true
          → read_recent automatic (show_recent (record { is = p })) ≡ Ok (record { is = p })
      go None f s u = absurd (false≢true f)
      go (Some x) f s u = rw (said-back x f, s) (unknown-back automatic (record { is = Some x }) u)

  pub recent-sized : (w : Weather) → judge_recent automatic w ≡ Ok tt
      → Whole (show_recent w) × Every allowed (show_recent w) × (length (show_recent w) ≤ 10)
  unfolding show_recent
  recent-sized w h = go w.is (recent-fine w h).0 (recent-fine w h).1
    where
      signless : (i : Intensity) → plain i ≡ true → length (sign_text i) ≡ 0
      signless intensity.None s = refl
      signless intensity.Light s = absurd (false≢true s)
      signless intensity.Heavy s = absurd (false≢true s)
      signless intensity.Vicinity s = absurd (false≢true s)

      go : (p : Option Phenomena) → phenomena_fit p ≡ true → is_plain p ≡ true
          → Whole (show_recent (record { is = p })) × Every allowed (show_recent (record { is = p })) × (length (show_recent (record { is = p })) ≤ 10)
      go None f s = absurd (false≢true f)
      go (Some x) f s = ((tt, (refl, (refl, text-inner x f))), (refl, (refl, text-allowed x f)), omega (arith, text-length x f, four x f, signless x.intensity s))
