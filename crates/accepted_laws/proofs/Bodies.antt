-- The body that is read is judged fine and is its own class but for speeds from P on: wind, visibility or CAVOK, weather or NSW, clouds, wherever a body stands.
-- Assumes nothing.
use Rattle.std.specs.Prelude.{⊤, Ok, Result}
use Rattle.text.specs.declared.kinds.Refusal.{Refusal}
use Prim.Native.Nat.{ℕ, ◌+◌, ◌≤◌, ◌<◌}
use native.Mathlib.Omega.{arith}
use mathlib.Core.Path.{◌≡◌, refl, sym, subst, ◌∙◌}
use mathlib.Core.Logic.{inl, inr}
use mathlib.Core.Bool.{Bool, true, false, cond, not, ◌&&◌, or-false, false≢true}
use mathlib.Core.List.{List, [], ◌∷◌, ◌++◌}
use lib.ListN.{length, replicate}
use lib.Dec.{eqb}
use borrow.Author.Tests.{lt-ltb, eqb-true, not-true}
use Rattle.shapes.proofs.Patterns.{both}
use Rattle.places.specs.Engine.{Group}
use Rattle.record.specs.declared.aerodrome.Weather.{Weather}
use Rattle.record.specs.declared.aerodrome.Weathers.{Weathers}
use Rattle.record.specs.declared.aerodrome.Body.{Body}
use Rattle.record.specs.Body.{set_weathers, set_nsw, blank_wind, blank_visibility, blank_weather, blank_weathers, blank_sky, blank_body}
use Rattle.record.specs.SilentAerodrome.{is_blank_wind, no_view, is_blank_weather}
use Rattle.record.specs.Arrays.{BodyArrays}
use Rattle.elements.specs.Wind.{class_wind}
use Rattle.elements.specs.Visibility.{is_cavok, class_visibility}
use Rattle.elements.specs.Weather.{read_weather, with_weather, judge_weather, judge_each, judge_weathers}
use Rattle.elements.specs.Body.{Terms, is_nsw, beside_others, nsw_stands, read_weather_or_nsw, wind_judged, visibility_judged, weather_judged, judge_body, class_body}
use Rattle.accepted_laws.specs.Opened.{open_wind, open_body}
use Rattle.accepted_laws.proofs.Gives.{Gives, good, bad, gives-cond, gives-agreeing, gives_then}
use Rattle.accepted_laws.proofs.Common.{Given}
use Rattle.accepted_laws.proofs.Filled.{Filled, filled_none, filled_more, filled-take, filled-slots, filled-fine, filled-length}
use Rattle.accepted_laws.proofs.Winds.{WindRead, VisibilityRead}
use Rattle.accepted_laws.proofs.Weathers.{weather-read}
use Rattle.accepted_laws.proofs.Skies.{SkyHeld, sky-left}

-- ---- wind and visibility, which need not stand everywhere

unless : (x : Bool) {j : Result ⊤ Refusal} → j ≡ Ok tt → cond x (Ok tt) j ≡ Ok tt
unless true e = refl
unless false e = e

module _ (t : Terms) (b : Body) where
  pub wind-fine : Given (WindRead t.forecast) blank_wind t.required b.wind → wind_judged t b ≡ Ok tt
  wind-fine (inl (free, is)) = rw (free, is)
  wind-fine (inr r) = unless (not t.required && is_blank_wind b.wind) r.fine

  pub wind-own : Given (WindRead t.forecast) blank_wind t.required b.wind → class_wind b.wind ≡ open_wind b.wind
  wind-own (inl (free, is)) = rw is
  wind-own (inr r) = r.own

  pub visibility-fine : Given (VisibilityRead t.forecast) blank_visibility t.required b.visibility → visibility_judged t b ≡ Ok tt
  visibility-fine (inl (free, is)) = rw (free, is)
  visibility-fine (inr r) = unless (not t.required && no_view b.visibility.is) r.fine

  pub visibility-own : Given (VisibilityRead t.forecast) blank_visibility t.required b.visibility → class_visibility b.visibility ≡ b.visibility
  visibility-own (inl (free, is)) = rw is
  visibility-own (inr r) = r.own

-- ---- three weathers at most, each judged fine

pub record WeathersHeld (test : Weather → Type 0) (k : ℕ) (ws : Weathers) : Type 0 where
  pub count : ws.count ≡ k
  pub filled : Filled test blank_weather 3 k ws.items

pub weathers-none : (test : Weather → Type 0) → WeathersHeld test 0 blank_weathers
weathers-none test = record { count = refl; filled = filled_none test blank_weather 3 }

pub weathers-more : {test : Weather → Type 0} {k : ℕ} {ws : Weathers} → WeathersHeld test k ws → k < 3 → (w : Weather) → test w → WeathersHeld test (k + 1) (with_weather k ws w)
weathers-more {k = k} h room w p = rw (lt-ltb k 3 room) (record { count = refl; filled = filled_more h.filled w room p })

pub weathers-fine : {one : Weather → Result ⊤ Refusal} {k : ℕ} {ws : Weathers} → WeathersHeld (λ w. one w ≡ Ok tt) k ws → judge_weathers one ws ≡ Ok tt
unfolding judge_weathers
weathers-fine {one} {k} {ws} h =
    rw (h.count, filled-slots h.filled is_blank_weather refl) (filled-fine h.filled one (judge_each one) refl (λ x xs. refl) (λ x p. p))

-- none is done: all are blank
none_done : {test : Weather → Type 0} (ws : Weathers) → ws.count ≡ 0 → Filled test blank_weather 3 0 ws.items → ws ≡ blank_weathers
none_done ws z f = same ws.items ws.count (f.are ∙ empty f.done f.many) z
  where
    empty : (xs : List Weather) → length xs ≡ 0 → xs ++ replicate 3 blank_weather ≡ replicate 3 blank_weather
    empty [] e = refl
    empty (x ∷ xs) e = absurd (omega (arith, e))

    same : (items : List Weather) (count : ℕ) → items ≡ replicate 3 blank_weather → count ≡ 0 → ◌≡◌ {A = Weathers} (record { items = items; count = count }) blank_weathers
    same items count a z = rw (a, z)

-- ---- WEATHER OR NSW, where k groups stand

pub data WeatherHeld (t : Terms) (cavok : Bool) (k : ℕ) (nsw : Bool) (ws : Weathers) : Type 0 where
  by-nsw : nsw ≡ true → ws ≡ blank_weathers → t.may_nsw ≡ true → cavok ≡ false → 1 ≤ k → WeatherHeld t cavok k nsw ws
  by-weather : nsw ≡ false → WeathersHeld (λ w. judge_weather t.forecast t.automatic false w ≡ Ok tt) k ws → (1 ≤ k → cavok ≡ false) → WeatherHeld t cavok k nsw ws

pub no-weather : (t : Terms) (cavok : Bool) → WeatherHeld t cavok 0 false blank_weathers
no-weather t cavok = by-weather refl (weathers-none _) (λ h. absurd (omega arith))

module _ (t : Terms) (k : ℕ) (g : Group) (b : Body) (room : k < 3) (h : WeatherHeld t (is_cavok b.visibility) k b.nsw b.weathers) where
  abbrev cavok : Bool
  cavok = is_cavok b.visibility

  nsw-set : nsw_stands t k b.visibility ≡ true → WeatherHeld t cavok (k + 1) true b.weathers
  nsw-set e =
      let may = both (t.may_nsw && eqb k 0) (not cavok) e in
      let first = both t.may_nsw (eqb k 0) may.0 in
      by-nsw refl (blank-still (eqb-true k 0 first.1) h) first.0 (not-true cavok may.1) (omega arith)
    where
      blank-still : k ≡ 0 → WeatherHeld t cavok k b.nsw b.weathers → b.weathers ≡ blank_weathers
      blank-still z (by-nsw n is m c some) = is
      blank-still z (by-weather n ws c) = none_done b.weathers (ws.count ∙ z) (rw z at ws.filled)

  weather-added : (w : Weather) → judge_weather t.forecast t.automatic false w ≡ Ok tt → (not cavok && not b.nsw) ≡ true → WeatherHeld t cavok (k + 1) b.nsw (with_weather k b.weathers w)
  weather-added w fine e = go h
    where
      agrees : (not cavok ≡ true) × (not b.nsw ≡ true)
      agrees = both (not cavok) (not b.nsw) e

      go : WeatherHeld t cavok k b.nsw b.weathers → WeatherHeld t cavok (k + 1) b.nsw (with_weather k b.weathers w)
      go (by-nsw n is m c some) = absurd (false≢true (sym (not-true b.nsw agrees.1) ∙ n))
      go (by-weather n ws c) = by-weather n (weathers-more ws room w fine) (λ s. not-true cavok agrees.0)

  pub weather-sets : (P : Body → Type 0) → ((n : Bool) (ws : Weathers) → WeatherHeld t cavok (k + 1) n ws → P (set_nsw n (set_weathers ws b))) → Gives P (read_weather_or_nsw t k g b)
  unfolding read_weather_or_nsw
  weather-sets P sets =
      gives-cond (is_nsw g) (λ n. gives-agreeing (nsw_stands t k b.visibility) (λ e. good (sets true b.weathers (nsw-set e))))
      (λ n. gives_then (beside (read_weather t.forecast t.automatic g) (weather-read t.forecast t.automatic g))
      (λ w p. good (sets b.nsw (with_weather k b.weathers w) (weather-added w p.0 p.1))))
    where
      beside : {Q : Weather → Type 0} (x : Result Weather Refusal) → Gives Q x → Gives (λ w. Q w × ((not cavok && not b.nsw) ≡ true)) (beside_others b x)
      beside _ (good q) = gives-agreeing (not cavok && not b.nsw) (λ e. good (q, e))
      beside _ bad = bad

pub weather-fine : (t : Terms) (b : Body) (k : ℕ) → WeatherHeld t (is_cavok b.visibility) k b.nsw b.weathers → weather_judged t b ≡ Ok tt
unfolding judge_weathers
weather-fine t b k (by-nsw n is m c some) = rw (n, m, c, is)
weather-fine t b k (by-weather n ws c) =
    rw (n, or-false (is_cavok b.visibility), ws.count, filled-slots ws.filled is_blank_weather refl, filled-take ws.filled) (each ws.filled.done ws.filled.many (rw (filled-take ws.filled) at (filled-fine ws.filled one (judge_each one) refl (λ x xs. refl) (λ x p. p))))
  where
    one : Weather → Result ⊤ Refusal
    one w = judge_weather t.forecast t.automatic false w

    each : (xs : List Weather) → length xs ≡ k → judge_each (judge_weather t.forecast t.automatic false) xs ≡ Ok tt
        → judge_each (judge_weather t.forecast t.automatic (is_cavok b.visibility)) xs ≡ Ok tt
    each [] m j = refl
    each (x ∷ xs) m j = subst (λ (z : Bool). judge_each (judge_weather t.forecast t.automatic z) (x ∷ xs) ≡ Ok tt) (sym (c (omega (arith, m)))) j

pub weather-slots : {t : Terms} {cavok : Bool} {k : ℕ} {nsw : Bool} {ws : Weathers} → WeatherHeld t cavok k nsw ws → length ws.items ≡ 3
weather-slots (by-nsw n is m c some) = rw is
weather-slots (by-weather n ws c) = filled-length ws.filled

-- nothing is read of weather; nor of the body
abbrev pub NoWeather : Body → Type 0
NoWeather b = (b.nsw ≡ false) × (b.weathers ≡ blank_weathers)

pub blank-body : (b : Body) → b.wind ≡ blank_wind → b.visibility ≡ blank_visibility → NoWeather b → b.sky ≡ blank_sky → b ≡ blank_body
blank-body b w v x s = rw (← w, ← v, ← x.0, ← x.1, ← s)

-- ---- THE BODY

pub record BodyRead (t : Terms) (b : Body) : Type 0 where
  pub fine : judge_body t b ≡ Ok tt
  pub own : class_body b ≡ open_body b
  pub arrays : BodyArrays b

pub body-read : (t : Terms) (b : Body) → Given (WindRead t.forecast) blank_wind t.required b.wind → Given (VisibilityRead t.forecast) blank_visibility t.required b.visibility
    → (k : ℕ) → WeatherHeld t (is_cavok b.visibility) k b.nsw b.weathers → (n : ℕ) → SkyHeld t.forecast (is_cavok b.visibility) n b.sky → BodyRead t b
unfolding judge_body
body-read t b w v k x n s =
    let sky = sky-left t.forecast (is_cavok b.visibility) n b.sky s in
    record {
      fine = rw (wind-fine t b w, visibility-fine t b v, weather-fine t b k x) sky.fine;
      own = rw (wind-own t b w, visibility-own t b v, sky.own);
      arrays = record { weathers = weather-slots x; layers = sky.slots };
    }
