-- Each place of a trend's row touches its own field alone, and each item of a change is what its group says.
-- Assumes nothing.
use Rattle.std.specs.Prelude.{Err, Ok, Result}
use Rattle.text.specs.declared.kinds.Refusal.{Refusal}
use Prim.Native.Nat.{ℕ, ◌<◌}
use native.Mathlib.Omega.{arith}
use mathlib.Core.Path.{◌≡◌, refl, sym, ap, subst, ◌∙◌}
use mathlib.Core.Bool.{Bool, true, false, cond, not, ◌&&◌, false≢true}
use lib.ListN.{length, get_or}
use lib.Dec.{eqb}
use borrow.Author.Tests.{eqb-false}
use Rattle.figures.proofs.Impossible.{impossible}
use Rattle.text.specs.declared.kinds.Refusal.TheVariants as refusal
use Rattle.places.specs.Engine.{Group, then, Place, place_at}
use Rattle.record.specs.declared.aerodrome.Moment.{Moment}
use Rattle.record.specs.declared.aerodrome.Hours.{Hours}
use Rattle.record.specs.declared.aerodrome.Hours.TheVariants as hours
use Rattle.record.specs.declared.aerodrome.Times.{Times}
use Rattle.record.specs.declared.aerodrome.Wind.{Wind}
use Rattle.record.specs.declared.aerodrome.Visibility.{Visibility}
use Rattle.record.specs.declared.aerodrome.Weathers.{Weathers}
use Rattle.record.specs.declared.aerodrome.Sky.{Sky}
use Rattle.record.specs.declared.aerodrome.Cover.TheVariants as cover
use Rattle.record.specs.declared.aerodrome.Body.{Body}
use Rattle.record.specs.declared.aerodrome.TrendChange.{TrendChange}
use Rattle.record.specs.Body.{blank_weather, blank_layer, set_wind, set_visibility, set_sky}
use Rattle.record.specs.SilentAerodrome.{no_hours}
use Rattle.record.specs.Trend.{set_times, set_body, blank_trend_change}
use Rattle.elements.specs.Wind.{read_wind}
use Rattle.elements.specs.Visibility.{read_visibility, is_cavok}
use Rattle.elements.specs.Weather.{with_weather}
use Rattle.elements.specs.Sky.{read_sky}
use Rattle.elements.specs.Body.{changing, wind_place, visibility_place, weather_place, sky_place}
use Rattle.trend_row.specs.declared.kinds.Mark.{Mark}
use Rattle.trend_row.specs.declared.kinds.Mark.TheVariants as mark
use Rattle.trend_row.specs.Times.{is_end, read_moment, with_time, times_of, is_barred, read_time}
use Rattle.trend_row.specs.Row.{row}
use Rattle.sources.proofs.Rows.{Item, first}
use Rattle.sources.proofs.Fields.{◌&◌, Fields, end, field, Tuple, TypeAt, look, then-good, Only, only-put, listed-item, Rows, row_at}
use Rattle.body_sources.proofs.Body.{in_body, WeatherDone, with-nsw, with-weather, weather-done, weather-tells, weather-others, weather-stays, sky-done, sky-tells, sky-others, sky-stays}
use Rattle.metar_sources.specs.declared.kinds.ChangeElement.{ChangeElement}
use Rattle.metar_sources.specs.declared.kinds.ChangeElement.TheVariants as element
use Rattle.metar_sources.specs.Changes.{none, time, from_of, until_of, at_of, TimeSaid, says, place_of, most_of, value_in, Said}

-- ---- what each place does to the times: its own group says one of them, and the body's groups none

-- what a group at place j does, the times being h before it
pub data TimesDone (g : Group) (h : Hours) : ℕ → Hours → Type 0 where
  with-from : {t : Moment} → read_moment false g ≡ Ok t → TimesDone g h 1 (hours.From t)
  with-until : {t : Moment} → read_moment true g ≡ Ok t → TimesDone g h 2 (with_time mark.Until h t)
  with_at : {t : Moment} → read_moment false g ≡ Ok t → h ≡ hours.None → TimesDone g h 3 (hours.At t)
  with_none : {j : ℕ} → 3 < j → TimesDone g h j h

no-hours : (h : Hours) → no_hours h ≡ true → h ≡ hours.None
no-hours hours.None e = refl
no-hours (hours.From f) e = absurd (false≢true e)
no-hours (hours.Until u) e = absurd (false≢true e)
no-hours (hours.Between f u) e = absurd (false≢true e)
no-hours (hours.At t) e = absurd (false≢true e)

-- a time that is read: it is not barred, and its figures are right
timed : (m : Mark) (g : Group) (h : Hours) (c c' : TrendChange) → then (read_time m g h) (λ x. Ok (set_times x c)) ≡ Ok c'
    → (t : Moment) × (read_moment (is_end m) g ≡ Ok t) × (is_barred m h ≡ false) × (c' ≡ set_times (times_of (with_time m h t)) c)
timed m g h c c' e = go (is_barred m h) refl e
  where
    go : (b : Bool) → is_barred m h ≡ b → then (cond b (Err refusal.Order) (then (read_moment (is_end m) g) (λ t. Ok (times_of (with_time m h t))))) (λ x. Ok (set_times x c)) ≡ Ok c'
        → (t : Moment) × (read_moment (is_end m) g ≡ Ok t) × (is_barred m h ≡ false) × (c' ≡ set_times (times_of (with_time m h t)) c)
    go true is e = impossible (cc)
    go false is e =
        let (x, good, same) = then-good (then (read_moment (is_end m) g) (λ t. Ok (times_of (with_time m h t)))) (λ x. set_times x c) c' e in
        let (t, reads, put) = then-good (read_moment (is_end m) g) (λ t. times_of (with_time m h t)) x good in
        (t, reads, is, same ∙ ap (λ (x : Times). set_times x c) put)

module _ (free : Bool) where
  abbrev TimesAt : ℕ → Place TrendChange → Type 0
  TimesAt j p = (n : ℕ) (g : Group) (c c' : TrendChange) → p.read n g c ≡ Ok c' → TimesDone g c.times.is j c'.times.is × (c'.tendency ≡ c.tendency)

  body-times : (j : ℕ) → 3 < j → (x : Result Body Refusal) (g : Group) (c c' : TrendChange) → then x (λ b. Ok (set_body b c)) ≡ Ok c'
      → TimesDone g c.times.is j c'.times.is × (c'.tendency ≡ c.tendency)
  body-times j h x g c c' e =
      let (b, good, same) = then-good x (λ b. set_body b c) c' e in
      (subst (λ (d : TrendChange). TimesDone g c.times.is j d.times.is) (sym same) (with_none h), ap (λ (d : TrendChange). d.tendency) same)

  times-rows : Rows TimesAt 0 (row free)
  unfolding row
  times-rows =
      (λ n g c c' e. impossible (cc))
      & (λ n g c c' e. let (t, reads, bar, same) = timed mark.From g hours.None c c' e in
      (subst (λ (d : TrendChange). TimesDone g c.times.is 1 d.times.is) (sym same) (with-from reads), ap (λ (d : TrendChange). d.tendency) same))
      & (λ n g c c' e. let (t, reads, bar, same) = timed mark.Until g c.times.is c c' e in
      (subst (λ (d : TrendChange). TimesDone g c.times.is 2 d.times.is) (sym same) (with-until reads), ap (λ (d : TrendChange). d.tendency) same))
      & (λ n g c c' e. let (t, reads, bar, same) = timed mark.At g c.times.is c c' e in
      (subst (λ (d : TrendChange). TimesDone g c.times.is 3 d.times.is) (sym same) (with_at reads (no-hours c.times.is (lone (no_hours c.times.is) bar))), ap (λ (d : TrendChange). d.tendency) same))
      & (λ n g c c' e. body-times 4 (omega arith) ((wind_place changing).read n g c.body) g c c' e)
      & (λ n g c c' e. body-times 5 (omega arith) ((visibility_place changing).read n g c.body) g c c' e)
      & (λ n g c c' e. body-times 6 (omega arith) ((weather_place changing).read n g c.body) g c c' e)
      & (λ n g c c' e. body-times 7 (omega arith) ((sky_place changing).read n g c.body) g c c' e)
      & tt
    where
      lone : (b : Bool) → not b ≡ false → b ≡ true
      lone true e = refl
      lone false e = absurd (false≢true (sym e))

  pub times-done : (j : ℕ) → TimesAt j (place_at (row free) j)
  times-done = row_at TimesAt (row free) times-rows (λ j n g c c' e. impossible (cc))

-- what is left of each time
until-from : (h : Hours) (t : Moment) → from_of (with_time mark.Until h t) ≡ from_of h
until-from hours.None t = refl
until-from (hours.From f) t = refl
until-from (hours.Until u) t = refl
until-from (hours.Between f u) t = refl
until-from (hours.At a) t = refl

until-until : (h : Hours) (t : Moment) → until_of (with_time mark.Until h t) ≡ time t
until-until hours.None t = refl
until-until (hours.From f) t = refl
until-until (hours.Until u) t = refl
until-until (hours.Between f u) t = refl
until-until (hours.At a) t = refl

until-at : (h : Hours) (t : Moment) → at_of (with_time mark.Until h t) ≡ none
until-at hours.None t = refl
until-at (hours.From f) t = refl
until-at (hours.Until u) t = refl
until-at (hours.Between f u) t = refl
until-at (hours.At a) t = refl

-- ---- the three times

module _ (free : Bool) where
  abbrev pub ChangeItem : (e : ChangeElement) → ℕ → (TrendChange → Type 0) → Type 0
  ChangeItem e k fair = Item (row free) (place_of e) k (value_in e k) (Said e) fair (value_in e k blank_trend_change)

  one_only : (n i : ℕ) (free : Bool) → n < cond free 1 0 → eqb 0 n ≡ false → ⊥
  one_only n i true h e = eqb-false 0 n e (omega arith)
  one_only n i false h e = absurd (omega arith)

  from-item : ChangeItem element.From 0 (λ c. Unit {0})
  unfolding row
  from-item =
      record {
        tells = λ g c c' f e. tells g c.times.is c'.times.is (times-done free 1 0 g c c' e).0;
        kept = λ j n g c c' few o before f e. kept j n g c.times.is c'.times.is few o (times-done free j n g c c' e).0;
        stays = λ j n g c c' f e. tt;
      }
    where
      tells : (g : Group) (h h' : Hours) → TimesDone g h 1 h' → TimeSaid false g (from_of h')
      tells g h _ (with-from reads) = says reads
      tells g h _ (with_none l) = absurd (omega arith)

      kept : (j n : ℕ) (g : Group) (h h' : Hours) → n < (place_at (row free) j).most → (eqb 1 j && eqb 0 n) ≡ false → TimesDone g h j h' → from_of h' ≡ from_of h
      kept _ n g h _ few o (with-from reads) = absurd (one_only n 1 free few o)
      kept _ n g h _ few o (with-until {t} reads) = until-from h t
      kept _ n g h _ few o (with_at reads is) = sym (ap from_of is)
      kept j n g h _ few o (with_none l) = refl

  until-item : ChangeItem element.Until 0 (λ c. Unit {0})
  unfolding row
  until-item =
      record {
        tells = λ g c c' f e. tells g c.times.is c'.times.is (times-done free 2 0 g c c' e).0;
        kept = λ j n g c c' few o before f e. kept j n g c.times.is c'.times.is few o before (times-done free j n g c c' e).0;
        stays = λ j n g c c' f e. tt;
      }
    where
      tells : (g : Group) (h h' : Hours) → TimesDone g h 2 h' → TimeSaid true g (until_of h')
      tells g h _ (with-until {t} reads) = subst (TimeSaid true g) (sym (until-until h t)) (says reads)
      tells g h _ (with_none l) = absurd (omega arith)

      kept : (j n : ℕ) (g : Group) (h h' : Hours) → n < (place_at (row free) j).most → (eqb 2 j && eqb 0 n) ≡ false → (j < 2 → until_of h ≡ none) → TimesDone g h j h' → until_of h' ≡ until_of h
      kept _ n g h _ few o before (with-from reads) = sym (before (omega arith))
      kept _ n g h _ few o before (with-until reads) = absurd (one_only n 2 free few o)
      kept _ n g h _ few o before (with_at reads is) = sym (ap until_of is)
      kept j n g h _ few o before (with_none l) = refl

  at_item : ChangeItem element.At 0 (λ c. Unit {0})
  unfolding row
  at_item =
      record {
        tells = λ g c c' f e. tells g c.times.is c'.times.is (times-done free 3 0 g c c' e).0;
        kept = λ j n g c c' few o before f e. kept j n g c.times.is c'.times.is few o before (times-done free j n g c c' e).0;
        stays = λ j n g c c' f e. tt;
      }
    where
      tells : (g : Group) (h h' : Hours) → TimesDone g h 3 h' → TimeSaid false g (at_of h')
      tells g h _ (with_at reads is) = says reads
      tells g h _ (with_none l) = absurd (omega arith)

      kept : (j n : ℕ) (g : Group) (h h' : Hours) → n < (place_at (row free) j).most → (eqb 3 j && eqb 0 n) ≡ false → (j < 3 → at_of h ≡ none) → TimesDone g h j h' → at_of h' ≡ at_of h
      kept _ n g h _ few o before (with-from reads) = sym (before (omega arith))
      kept _ n g h _ few o before (with-until {t} reads) = until-at h t ∙ sym (before (omega arith))
      kept _ n g h _ few o before (with_at reads is) = absurd (one_only n 3 free few o)
      kept j n g h _ few o before (with_none l) = refl

-- ---- the body's elements

abbrev fs : Fields
fs = field (Unit {0}) (field (Unit {0}) (field (Unit {0}) (field (Unit {0}) (field Wind (field Visibility (field (Weathers × Bool) (field Sky end)))))))

abbrev fields : TrendChange → Tuple fs
fields c = tt & tt & tt & tt & c.body.wind & c.body.visibility & (c.body.weathers, c.body.nsw) & c.body.sky & tt

weather-only : (g : Group) (c c' : TrendChange) (n : ℕ) → then ((weather_place changing).read n g c.body) (λ b. Ok (set_body b c)) ≡ Ok c' → Only fs fields 6 c c'
weather-only g c c' n e =
    let (b, good, same) = then-good ((weather_place changing).read n g c.body) (λ b. set_body b c) c' e in
    go b (weather-done changing n g c.body b good) same
  where
    go : (b : Body) → WeatherDone changing n g c.body b → c' ≡ set_body b c → Only fs fields 6 c c'
    go _ (with-nsw is first) same = only-put fs fields 6 c c' (c.body.weathers, true) (ap fields same)
    go _ (with-weather w is reads) same = only-put fs fields 6 c c' (with_weather n c.body.weathers w, c.body.nsw) (ap fields same)

module _ (free : Bool) where
  abbrev OnlyAt : ℕ → Place TrendChange → Type 0
  OnlyAt j p = (n : ℕ) (g : Group) (c c' : TrendChange) → p.read n g c ≡ Ok c' → Only fs fields j c c'

  only-rows : Rows OnlyAt 0 (row free)
  unfolding row
  only-rows =
      (λ n g c c' e. impossible (cc))
      & (λ n g c c' e. let (t, reads, bar, same) = timed mark.From g hours.None c c' e in only-put fs fields 1 c c' tt (ap fields same))
      & (λ n g c c' e. let (t, reads, bar, same) = timed mark.Until g c.times.is c c' e in only-put fs fields 2 c c' tt (ap fields same))
      & (λ n g c c' e. let (t, reads, bar, same) = timed mark.At g c.times.is c c' e in only-put fs fields 3 c c' tt (ap fields same))
      & (λ n g c c' e. let (v, is, same) = in_body (λ b. set_body b c) c.body (read_wind true g) set_wind c' e in only-put fs fields 4 c c' v (ap fields same))
      & (λ n g c c' e. let (v, is, same) = in_body (λ b. set_body b c) c.body (read_visibility true g) set_visibility c' e in only-put fs fields 5 c c' v (ap fields same))
      & (λ n g c c' e. weather-only g c c' n e)
      & (λ n g c c' e. let (v, is, same) = in_body (λ b. set_body b c) c.body (read_sky true (is_cavok c.body.visibility) n g c.body.sky) set_sky c' e in only-put fs fields 7 c c' v (ap fields same))
      & tt

  row-only : (j : ℕ) → OnlyAt j (place_at (row free) j)
  row-only = row_at OnlyAt (row free) only-rows (λ j n g c c' e. impossible (cc))

-- the arrays have their lengths
abbrev pub fair_in : ChangeElement → TrendChange → Type 0
fair_in element.From c = Unit {0}
fair_in element.Until c = Unit {0}
fair_in element.At c = Unit {0}
fair_in element.Wind c = Unit {0}
fair_in element.Visibility c = Unit {0}
fair_in element.Weather c = length c.body.weathers.items ≡ 3
fair_in element.Clouds c = length c.body.sky.layers ≡ 4

module _ (free : Bool) where
  open-few : (b : Bool) (most n : ℕ) → n < cond b most 0 → n < most
  open-few true most n h = h
  open-few false most n h = absurd (omega arith)

  lone-item : {A : Type 0} {missing : A} (i : ℕ) (get : TypeAt fs i → A) (said : Group → A → Type 0) → (place_at (row free) i).most ≡ cond free 1 0
      → ((g : Group) (c c' : TrendChange) → (place_at (row free) i).read 0 g c ≡ Ok c' → said g (get (look fs i (fields c'))))
      → Item (row free) i 0 (λ c. get (look fs i (fields c))) said (λ c. Unit {0}) missing
  lone-item i get said one tells =
      listed-item fs fields (row free) (row-only free) i 0 get said (λ x. Unit {0}) (λ g c c' f e. tells g c c' e)
      (λ n g c c' few o f e. absurd (one_only free n i free (rw one at few) o)) (λ n g c c' f e. tt)

  wind-item : ChangeItem free element.Wind 0 (λ c. Unit {0})
  unfolding row
  wind-item =
      lone-item 4 (λ x. x) (Said element.Wind) refl
      (λ g c c' e. let (v, is, same) = in_body (λ b. set_body b c) c.body (read_wind true g) set_wind c' e in is ∙ ap Ok (sym (ap (λ (d : TrendChange). d.body.wind) same)))

  visibility-item : ChangeItem free element.Visibility 0 (λ c. Unit {0})
  unfolding row
  visibility-item =
      lone-item 5 (λ x. x) (Said element.Visibility) refl
      (λ g c c' e. let (v, is, same) = in_body (λ b. set_body b c) c.body (read_visibility true g) set_visibility c' e in is ∙ ap Ok (sym (ap (λ (d : TrendChange). d.body.visibility) same)))

  weather-item : (k : ℕ) → k < 3 → ChangeItem free element.Weather k (fair_in element.Weather)
  unfolding row
  weather-item k few =
      listed-item fs fields (row free) (row-only free) 6 k (λ x. record { nsw = eqb k 0 && x.1; weather = get_or x.0.items k blank_weather }) (Said element.Weather) (λ x. length x.0.items ≡ 3)
      (λ g c c' f e.
      let (b, good, same) = then-good ((weather_place changing).read k g c.body) (λ b. set_body b c) c' e in
      rw same (weather-tells changing g c.body k few f (weather-done changing k g c.body b good)))
      (λ n g c c' h o f e.
      let (b, good, same) = then-good ((weather_place changing).read n g c.body) (λ b. set_body b c) c' e in
      rw same (weather-others changing g c.body k n (open-few free 3 n h) o (weather-done changing n g c.body b good)))
      (λ n g c c' f e.
      let (b, good, same) = then-good ((weather_place changing).read n g c.body) (λ b. set_body b c) c' e in
      rw same (weather-stays changing g c.body n f (weather-done changing n g c.body b good)))

  clouds-item : (k : ℕ) → k < 4 → ChangeItem free element.Clouds k (fair_in element.Clouds)
  unfolding row
  clouds-item k few =
      listed-item fs fields (row free) (row-only free) 7 k (λ s. record { cover = cond (eqb k 0) s.cover cover.Layers; layer = get_or s.layers k blank_layer }) (Said element.Clouds) (λ s. length s.layers ≡ 4)
      (λ g c c' f e.
      let (v, is, same) = in_body (λ b. set_body b c) c.body (read_sky true (is_cavok c.body.visibility) k g c.body.sky) set_sky c' e in
      rw same (sky-tells true (is_cavok c.body.visibility) g c.body k few f (sky-done true (is_cavok c.body.visibility) k g c.body.sky v is)))
      (λ n g c c' h o f e.
      let (v, is, same) = in_body (λ b. set_body b c) c.body (read_sky true (is_cavok c.body.visibility) n g c.body.sky) set_sky c' e in
      rw same (sky-others true (is_cavok c.body.visibility) g c.body k n (open-few free 4 n h) o (sky-done true (is_cavok c.body.visibility) n g c.body.sky v is)))
      (λ n g c c' f e.
      let (v, is, same) = in_body (λ b. set_body b c) c.body (read_sky true (is_cavok c.body.visibility) n g c.body.sky) set_sky c' e in
      rw same (sky-stays true (is_cavok c.body.visibility) g c.body n f (sky-done true (is_cavok c.body.visibility) n g c.body.sky v is)))

  -- EACH ITEM OF A CHANGE IS WHAT ITS GROUP SAYS, and no other group touches it.
  pub change-item : (e : ChangeElement) (k : ℕ) → k < most_of e → ChangeItem free e k (fair_in e)
  change-item element.From k h = first 1 k (value_in element.From k) (Said element.From) h (from-item free)
  change-item element.Until k h = first 2 k (value_in element.Until k) (Said element.Until) h (until-item free)
  change-item element.At k h = first 3 k (value_in element.At k) (Said element.At) h (at_item free)
  change-item element.Wind k h = first 4 k (value_in element.Wind k) (Said element.Wind) h wind-item
  change-item element.Visibility k h = first 5 k (value_in element.Visibility k) (Said element.Visibility) h visibility-item
  change-item element.Weather k h = weather-item k h
  change-item element.Clouds k h = clouds-item k h
