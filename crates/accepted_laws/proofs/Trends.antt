-- A trend's change that is read is judged fine and is its own class but for speeds from P on: its times and its body.
-- Assumes nothing.
use Rattle.std.specs.Prelude.{Ok}
use Prim.Native.Nat.{ℕ, ◌+◌, ◌<◌}
use native.Mathlib.Omega.{arith}
use mathlib.Core.Path.{◌≡◌, refl, sym, ap, ◌∙◌}
use mathlib.Core.Bool.{Bool, true, false, cond, ◌&&◌, false≢true}
use mathlib.Core.List.{List, [], ◌∷◌, map}
use lib.ListN.{length, take, set}
use lib.Dec.{ltb}
use borrow.Author.Tests.{ltb-true, not-false}
use Rattle.figures.specs.Figures.{field_at}
use Rattle.shapes.proofs.Patterns.{both}
use Rattle.places.specs.Engine.{Group}
use Rattle.record.specs.declared.aerodrome.Moment.{Moment}
use Rattle.record.specs.declared.aerodrome.Hours.{Hours}
use Rattle.record.specs.declared.aerodrome.Hours.TheVariants as hours
use Rattle.record.specs.declared.aerodrome.Times.{Times}
use Rattle.record.specs.declared.aerodrome.Tendency.{Tendency}
use Rattle.record.specs.declared.aerodrome.Body.{Body}
use Rattle.record.specs.declared.aerodrome.TrendChange.{TrendChange}
use Rattle.record.specs.declared.aerodrome.Trend.{Trend}
use Rattle.record.specs.Body.{set_wind, set_visibility, set_sky, blank_wind, blank_visibility, blank_sky}
use Rattle.record.specs.Trend.{set_times, set_body, blank_trend_change, blank_trend}
use Rattle.record.specs.SilentAerodrome.{no_tendency, is_blank_body, is_blank_trend_change}
use Rattle.record.specs.Arrays.{BodyArrays, Each}
use Rattle.elements.specs.Visibility.{is_cavok}
use Rattle.elements.specs.Body.{changing, class_body, has_element}
use Rattle.trend_row.specs.declared.kinds.Word.{Word}
use Rattle.trend_row.specs.declared.kinds.Word.TheVariants as word
use Rattle.trend_row.specs.declared.kinds.Mark.{Mark}
use Rattle.trend_row.specs.declared.kinds.Mark.TheVariants as mark
use Rattle.trend_row.specs.Times.{is_end, moment_fits, moment_of, read_moment, with_time, is_barred, read_time, hours_fit}
use Rattle.trend_row.specs.Row.{is_change, row}
use Rattle.trend_row.specs.Tests.{lacks_in}
use Rattle.trend.specs.Read.{tendency_of, start_of, with_change}
use Rattle.trend.specs.Write.{judge_change, judge_each, judge_trend, class_change, class_trend}
use Rattle.accepted_laws.specs.Opened.{open_body, open_trend_change}
use Rattle.accepted_laws.proofs.Gives.{Gives, good, bad, gives_more, gives-cond, gives-provided, gives-figured, gives_then}
use Rattle.accepted_laws.proofs.Stages.{Stage, Left, ServesRow, StandsAt}
use Rattle.accepted_laws.proofs.Common.{◌&◌, gives-onto, Past, left-all, Given, once, many, free, serves-once, serves-many, serves-free}
use Rattle.accepted_laws.proofs.Filled.{Filled, filled_none, filled_more, filled-slots, filled-fine, filled-read, filled-all, filled-length}
use Rattle.accepted_laws.proofs.Winds.{WindRead, wind-read, VisibilityRead, visibility-read}
use Rattle.accepted_laws.proofs.Skies.{SkyHeld, sky-none, sky-read}
use Rattle.accepted_laws.proofs.Bodies.{NoWeather, WeatherHeld, no-weather, weather-sets, body-read}

-- ---- the times: none, or those that stand so far, each in range

moment-read : (end : Bool) (g : Group) → Gives (λ t. moment_fits end t ≡ true) (read_moment end g)
unfolding read_moment
moment-read end g = gives-figured (field_at g 2 2) (λ h a. gives-figured (field_at g 4 2) (λ m b. gives-provided (moment_fits end (moment_of h m)) (λ e. good e)))

-- a time that is read beside times that fit; FM and AT are read beside none
with-time : (m : Mark) (h : Hours) (t : Moment) → hours_fit h ≡ true → is_barred m h ≡ false → moment_fits (is_end m) t ≡ true → hours_fit (with_time m h t) ≡ true
with-time mark.From h t f b e = e
with-time mark.At h t f b e = e
with-time mark.Until hours.None t f b e = e
with-time mark.Until (hours.From s) t f b e = rw f e
with-time mark.Until (hours.Until u) t f b e = e
with-time mark.Until (hours.Between s u) t f b e = rw (both (moment_fits false s) (moment_fits true u) f).0 e
with-time mark.Until (hours.At s) t f b e = e

time-fits : (m : Mark) (g : Group) (h : Hours) → hours_fit h ≡ true → Gives (λ (t : Times). hours_fit t.is ≡ true) (read_time m g h)
time-fits m g h f = gives-cond (is_barred m h) (λ b. bad) (λ b. gives_then (moment-read (is_end m) g) (λ t e. good (with-time m h t f b e)))

-- ---- a change's stages, in its row's order; after NOSIG all places are closed

-- three places leave the times, and each of them keeps that they fit
abbrev pub Fitting : TrendChange → Type 0
Fitting c = hours_fit c.times.is ≡ true

abbrev pub first_time : Stage TrendChange
first_time = record { blank = Fitting; held = λ k c. Fitting c; past = Fitting }

abbrev pub later_time : Stage TrendChange
later_time = record { blank = λ c. Unit {0}; held = λ k c. Fitting c; past = Fitting }

abbrev pub stages : Bool → List (Stage TrendChange)
stages may =
    free
    ∷ first_time
    ∷ later_time
    ∷ later_time
    ∷ once (WindRead true) blank_wind (may && false) (λ c. c.body.wind)
    ∷ once (VisibilityRead true) blank_visibility (may && false) (λ c. c.body.visibility)
    ∷ many (λ c. NoWeather c.body) (λ k c. WeatherHeld changing (is_cavok c.body.visibility) k c.body.nsw c.body.weathers)
    ∷ many (λ c. c.body.sky ≡ blank_sky) (λ k c. SkyHeld true (is_cavok c.body.visibility) k c.body.sky)
    ∷ []

-- no place ends a trend, and its word stays
abbrev pub never : TrendChange → Type 0
never c = ⊥

abbrev pub Begun : Word → TrendChange → Type 0
Begun w c = c.tendency ≡ tendency_of w

few : (may : Bool) (k n : ℕ) → k < cond may n 0 → k < n
few true k n h = h
few false k n h = absurd (omega arith)

pub serves : (w : Word) (may : Bool) → ServesRow never (Begun w) (row may) (stages may)
unfolding row
serves w may =
    serves-free _ _ _ _ refl (λ k g c b e. bad)
    & record {
      begins = λ c b e. e;
      passes = λ k c b m h. h;
      takes = λ k g c room has b h e. gives-onto (λ t. set_times t c) (gives_more (time-fits mark.From g hours.None refl) (λ t f. (b, f, e)));
    }
    & record {
      begins = λ c b e. b.1;
      passes = λ k c b m h. h;
      takes = λ k g c room has b h e. gives-onto (λ t. set_times t c) (gives_more (time-fits mark.Until g c.times.is h) (λ t f. ((b.0, f), f, e)));
    }
    & record {
      begins = λ c b e. b.1;
      passes = λ k c b m h. h;
      takes = λ k g c room has b h e. gives-onto (λ t. set_times t c) (gives_more (time-fits mark.At g c.times.is h) (λ t f. (((b.0.0, f), f), f, e)));
    }
    & serves-once _ _ _ _ (WindRead true) _ (λ c. c.body.wind) refl
    (λ k g c room has b e. gives-onto (λ x. set_body x c) (gives-onto (λ x. set_wind x c.body) (gives_more (wind-read true g) (λ x f. (b, f, e)))))
    & serves-once _ _ _ _ (VisibilityRead true) _ (λ c. c.body.visibility) refl
    (λ k g c room has b e. gives-onto (λ x. set_body x c) (gives-onto (λ x. set_visibility x c.body) (gives_more (visibility-read true g) (λ x f. (b, f, e)))))
    & serves-many _ _ _ _ _ _ refl (λ c b e. rw (e.0, e.1) (no-weather changing (is_cavok c.body.visibility)))
    (λ k g c room b h e. gives-onto (λ x. set_body x c) (weather-sets changing k g c.body (few may k 3 room) h _ (λ n ws x. (b, x, e))))
    & serves-many _ _ _ _ _ _ refl (λ c b e. rw e (sky-none true (is_cavok c.body.visibility)))
    (λ k g c room b h e. gives-onto (λ x. set_body x c) (gives-onto (λ x. set_sky x c.body) (gives_more (sky-read true (is_cavok c.body.visibility) k c.body.sky (few may k 4 room) g h) (λ x f. (b, f, e)))))
    & tt

pub begins-at : (w : Word) (may : Bool) → StandsAt never (Begun w) (stages may) 0 0 (start_of w)
begins-at w may = (refl, tt, refl & tt & tt & refl & refl & (refl, refl) & refl & tt)

-- ---- A CHANGE

pub record ChangeRead (c : TrendChange) : Type 0 where
  pub fine : judge_change false c ≡ Ok tt
  pub own : class_change c ≡ open_trend_change c
  pub arrays : BodyArrays c.body

worded : (w : Word) → is_change w ≡ true → no_tendency (tendency_of w) ≡ false
worded word.Nosig e = absurd (false≢true e)
worded word.Becoming e = refl
worded word.Temporary e = refl

change-own : (t : Tendency) (h : Hours) (b : Body) → class_body b ≡ open_body b
    → class_change (record { tendency = t; times = record { is = h }; body = b }) ≡ record { tendency = t; times = record { is = h }; body = open_body b }
unfolding class_change row
change-own t hours.None b e = ap (λ (x : Body). record { tendency = t; times = record { is = hours.None }; body = x }) e
change-own t (hours.From f) b e = ap (λ (x : Body). record { tendency = t; times = record { is = hours.From f }; body = x }) e
change-own t (hours.Until u) b e = ap (λ (x : Body). record { tendency = t; times = record { is = hours.Until u }; body = x }) e
change-own t (hours.Between f u) b e = ap (λ (x : Body). record { tendency = t; times = record { is = hours.Between f u }; body = x }) e
change-own t (hours.At s) b e = ap (λ (x : Body). record { tendency = t; times = record { is = hours.At s }; body = x }) e

-- what lacks nothing has an element
element-there : (w : Word) (b : Body) → is_change w ≡ true → lacks_in w b ≡ false → has_element b ≡ true
element-there w b c e = not-false (has_element b) (rw c at e)

-- nothing must stand in a change
free-given : {A : Type 0} (P : A → Type 0) (blank : A) (may : Bool) (x : A) → Given P blank (may && false) x → Given P blank false x
free-given P blank true x g = g
free-given P blank false x g = g

pub change-read : (w : Word) (may : Bool) (c : TrendChange) → is_change w ≡ true → Left (Begun w) (stages may) c → lacks_in w c.body ≡ false → ChangeRead c
unfolding judge_change
change-read w may c is x e = let (said, past) = left-all (Begun w) (stages may) c x in go said past
  where
    go : Begun w c → Past (stages may) c → ChangeRead c
    go said (_, (_, (_, (times, (wind, (visibility, (weather, (sky, _)))))))) =
        let winds = free-given (WindRead true) blank_wind may c.body.wind wind in
        let views = free-given (VisibilityRead true) blank_visibility may c.body.visibility visibility in
        let body = body-read changing c.body winds views weather.0 weather.1 sky.0 sky.1 in
        record {
          fine = rw (said, worded w is, times, body.fine, element-there w c.body is e);
          own = change-own c.tendency c.times.is c.body body.own;
          arrays = body.arrays;
        }

-- ---- THE TREND, whole so far

pub record TrendHeld (t : Trend) : Type 0 where
  pub filled : Filled ChangeRead blank_trend_change 3 t.count t.items
  pub alone : t.nosig ≡ true → t.count ≡ 0

pub no-trend : TrendHeld blank_trend
no-trend = record { filled = filled_none ChangeRead blank_trend_change 3; alone = λ e. refl }

pub change-added : (t : Trend) (c : TrendChange) → TrendHeld t → t.nosig ≡ false → ChangeRead c → TrendHeld (with_change t c)
change-added t c h n r = go (ltb t.count 3) refl
  where
    go : (b : Bool) → ltb t.count 3 ≡ b → TrendHeld (cond b (record { items = set t.items t.count c; count = t.count + 1; nosig = t.nosig }) t)
    go true e = record { filled = filled_more h.filled c (ltb-true t.count 3 e) r; alone = λ y. absurd (false≢true (sym n ∙ y)) }
    go false e = h

blank-change : is_blank_trend_change blank_trend_change ≡ true
unfolding is_blank_body
blank-change = refl

pub trend-fine : (t : Trend) → TrendHeld t → judge_trend t ≡ Ok tt
unfolding judge_trend
trend-fine t h = rw (filled-slots h.filled is_blank_trend_change blank-change) (each t.nosig refl)
  where
    each : (b : Bool) → t.nosig ≡ b → judge_each t.nosig (take t.count t.items) ≡ Ok tt
    each true e = rw (h.alone e)
    each false e = rw e (filled-fine h.filled (judge_change false) (judge_each false) refl (λ c cs. refl) (λ c r. r.fine))

pub trend-own : (t : Trend) → TrendHeld t → class_trend t ≡ record { items = map open_trend_change t.items; count = t.count; nosig = t.nosig }
unfolding class_trend
trend-own t h = rw (filled-read h.filled class_change open_trend_change (λ c r. r.own) refl)

pub trend-arrays : (t : Trend) → TrendHeld t → (length t.items ≡ 3) × Each (λ (c : TrendChange). BodyArrays c.body) t.items
trend-arrays t h = (filled-length h.filled, filled-all h.filled (λ c. BodyArrays c.body) (λ c r. r.arrays) (record { weathers = refl; layers = refl }))
