-- Each place of a part's row touches its own field alone, and each item of a part is what its group says: of the main part and of every change.
-- Assumes nothing.
use Rattle.std.specs.Prelude.{None, Ok, Option, Result, Some}
use Rattle.text.specs.declared.kinds.Refusal.{Refusal}
use Prim.Native.Nat.{ℕ, ◌<◌}
use native.Mathlib.Omega.{arith}
use mathlib.Core.Path.{◌≡◌, refl, sym, ap, subst, ◌∙◌}
use mathlib.Core.Bool.{Bool, true, false, cond, ◌&&◌, false≢true}
use lib.ListN.{length, get_or}
use lib.Dec.{eqb}
use borrow.Author.Tests.{eqb-false}
use Rattle.figures.specs.Figures.{field_at}
use Rattle.figures.proofs.Impossible.{impossible}
use Rattle.places.specs.Engine.{Group, then, Place, place_at}
use Rattle.record.specs.declared.aerodrome.Correction.{Correction}
use Rattle.record.specs.declared.aerodrome.Station.{Station}
use Rattle.record.specs.declared.aerodrome.Instant.{Instant}
use Rattle.record.specs.declared.aerodrome.Period.{Period}
use Rattle.record.specs.declared.aerodrome.Wind.{Wind}
use Rattle.record.specs.declared.aerodrome.Visibility.{Visibility}
use Rattle.record.specs.declared.aerodrome.Weathers.{Weathers}
use Rattle.record.specs.declared.aerodrome.Sky.{Sky}
use Rattle.record.specs.declared.aerodrome.Cover.TheVariants as cover
use Rattle.record.specs.declared.aerodrome.Body.{Body}
use Rattle.record.specs.declared.aerodrome.Leg.{Leg}
use Rattle.record.specs.declared.aerodrome.Edition.{Edition}
use Rattle.record.specs.Body.{blank_weather, blank_layer, set_wind, set_visibility, set_sky}
use Rattle.record.specs.Taf.{blank_period, blank_leg, set_correction, set_station, set_time, set_nil, set_period, set_cancelled, set_body}
use Rattle.elements.specs.Wind.{read_wind}
use Rattle.elements.specs.Visibility.{read_visibility, is_cavok}
use Rattle.elements.specs.Weather.{with_weather}
use Rattle.elements.specs.Sky.{read_sky}
use Rattle.elements.specs.Body.{wind_place, visibility_place, weather_place, sky_place}
use Rattle.aerodrome_groups.specs.Head.{station_of, read_time, is_day, is_hour}
use Rattle.taf_row.specs.declared.kinds.Part.{Part}
use Rattle.taf_row.specs.declared.kinds.Part.TheVariants as part
use Rattle.taf_row.specs.declared.kinds.Form.{Form}
use Rattle.taf_row.specs.declared.kinds.Form.TheVariants as form
use Rattle.taf_row.specs.Row.{is_main, is_changing, forecast_in, correction_of, own_form, change_form, is_end_hour, read_period, row}
use Rattle.sources.proofs.Rows.{Item, first}
use Rattle.sources.proofs.Fields.{◌&◌, Fields, end, field as one, Tuple, then-good, by_value, Only, wrote, only-put, listed-item, single-item, Rows, row_at}
use Rattle.body_sources.specs.Items.{WindSaid, VisibilitySaid, weather_at, WeatherSaid, sky_at, SkySaid}
use Rattle.body_sources.proofs.Body.{in_body, WeatherDone, with-nsw, with-weather, weather-done, weather-tells, weather-others, weather-stays, sky-done, sky-tells, sky-others, sky-stays}
use Rattle.taf_sources.specs.declared.kinds.Element.{Element}
use Rattle.taf_sources.specs.declared.kinds.Element.TheVariants as element
use Rattle.taf_sources.proofs.Known.{Reads, value, reads-figured, reads-provided, reads_so}
use Rattle.taf_sources.specs.Items.{place_of, value_of, Said}

-- ---- a part's fields, in the order of the row's places; two places say a period, which stands apart

abbrev fs : Fields
fs =
    one (Unit {0}) (one Correction (one Station (one Instant (one Bool (one (Unit {0}) (one (Unit {0}) (one Bool (one Wind (one Visibility (one (Weathers × Bool)
    (one Sky end)))))))))))

abbrev fields : Leg → Tuple fs
fields r =
    tt & r.correction & r.station & r.time & r.nil & tt & tt & r.cancelled & r.body.wind & r.body.visibility & (r.body.weathers, r.body.nsw)
    & r.body.sky & tt

-- ---- each place touches its own field alone

module _ (e : Edition) (w : Part) where
  weather-only : (n : ℕ) (g : Group) (a a' : Leg) → then ((weather_place (forecast_in w)).read n g a.body) (λ b. Ok (set_body b a)) ≡ Ok a' → Only fs fields 10 a a'
  weather-only n g a a' is =
      let (b, good, same) = then-good ((weather_place (forecast_in w)).read n g a.body) (λ b. set_body b a) a' is in
      go b (weather-done (forecast_in w) n g a.body b good) same
    where
      go : (b : Body) → WeatherDone (forecast_in w) n g a.body b → a' ≡ set_body b a → Only fs fields 10 a a'
      go _ (with-nsw is first) same = only-put fs fields 10 a a' (a.body.weathers, true) (ap fields same)
      go _ (with-weather x is reads) same = only-put fs fields 10 a a' (with_weather n a.body.weathers x, a.body.nsw) (ap fields same)

  abbrev OnlyAt : ℕ → Place Leg → Type 0
  OnlyAt j p = (n : ℕ) (g : Group) (a a' : Leg) → p.read n g a ≡ Ok a' → Only fs fields j a a'

  only-rows : Rows OnlyAt 0 (row e w)
  unfolding row
  only-rows =
      (λ n g a a' is. wrote fs fields 0 a a' (Ok tt) (λ v. a) (λ v. v) (λ v. refl) is)
      & (λ n g a a' is. wrote fs fields 1 a a' (Ok (correction_of g)) (λ v. set_correction v a) (λ v. v) (λ v. refl) is)
      & (λ n g a a' is. wrote fs fields 2 a a' (Ok (station_of g)) (λ v. set_station v a) (λ v. v) (λ v. refl) is)
      & (λ n g a a' is. wrote fs fields 3 a a' (read_time g) (λ v. set_time v a) (λ v. v) (λ v. refl) is)
      & (λ n g a a' is. wrote fs fields 4 a a' (Ok true) (λ v. set_nil v a) (λ v. v) (λ v. refl) is)
      & (λ n g a a' is. wrote fs fields 5 a a' (read_period (own_form e) g) (λ v. set_period v a) (λ v. tt) (λ v. refl) is)
      & (λ n g a a' is. wrote fs fields 6 a a' (read_period (change_form e) g) (λ v. set_period v a) (λ v. tt) (λ v. refl) is)
      & (λ n g a a' is. wrote fs fields 7 a a' (Ok true) (λ v. set_cancelled v a) (λ v. v) (λ v. refl) is)
      & (λ n g a a' is. let (v, x, same) = in_body (λ b. set_body b a) a.body (read_wind true g) set_wind a' is in only-put fs fields 8 a a' v (ap fields same))
      & (λ n g a a' is. let (v, x, same) = in_body (λ b. set_body b a) a.body (read_visibility true g) set_visibility a' is in only-put fs fields 9 a a' v (ap fields same))
      & (λ n g a a' is. weather-only n g a a' is)
      & (λ n g a a' is.
      let (v, x, same) = in_body (λ b. set_body b a) a.body (read_sky true (is_cavok a.body.visibility) n g a.body.sky) set_sky a' is in
      only-put fs fields 11 a a' v (ap fields same))
      & tt

  row-only : (j : ℕ) → OnlyAt j (place_at (row e w) j)
  row-only = row_at OnlyAt (row e w) only-rows (λ j n g a a' is. impossible (cc))

  -- ---- the items of a part's body

  pub wind-item : {missing : Wind} → Item (row e w) 8 0 (λ r. r.body.wind) (WindSaid true) (λ r. Unit {0}) missing
  unfolding row
  wind-item =
      single-item fs fields (row e w) row-only 8 (λ x. x) (WindSaid true) refl
      (λ g a a' is. let (v, x, same) = in_body (λ b. set_body b a) a.body (read_wind true g) set_wind a' is in x ∙ ap Ok (sym (ap (λ (r : Leg). r.body.wind) same)))

  pub visibility-item : {missing : Visibility} → Item (row e w) 9 0 (λ r. r.body.visibility) (VisibilitySaid true) (λ r. Unit {0}) missing
  unfolding row
  visibility-item =
      single-item fs fields (row e w) row-only 9 (λ x. x) (VisibilitySaid true) refl
      (λ g a a' is. let (v, x, same) = in_body (λ b. set_body b a) a.body (read_visibility true g) set_visibility a' is in x ∙ ap Ok (sym (ap (λ (r : Leg). r.body.visibility) same)))

  pub weather-item : {missing : _} (k : ℕ) → k < 3 → Item (row e w) 10 k (λ r. weather_at k r.body) (WeatherSaid true) (λ r. length r.body.weathers.items ≡ 3) missing
  unfolding row
  weather-item k few =
      listed-item fs fields (row e w) row-only 10 k (λ x. record { nsw = eqb k 0 && x.1; weather = get_or x.0.items k blank_weather }) (WeatherSaid true) (λ x. length x.0.items ≡ 3)
      (λ g a a' f is.
      let (b, good, same) = then-good ((weather_place (forecast_in w)).read k g a.body) (λ b. set_body b a) a' is in
      rw same (weather-tells (forecast_in w) g a.body k few f (weather-done (forecast_in w) k g a.body b good)))
      (λ n g a a' h o f is.
      let (b, good, same) = then-good ((weather_place (forecast_in w)).read n g a.body) (λ b. set_body b a) a' is in
      rw same (weather-others (forecast_in w) g a.body k n h o (weather-done (forecast_in w) n g a.body b good)))
      (λ n g a a' f is.
      let (b, good, same) = then-good ((weather_place (forecast_in w)).read n g a.body) (λ b. set_body b a) a' is in
      rw same (weather-stays (forecast_in w) g a.body n f (weather-done (forecast_in w) n g a.body b good)))

  pub clouds-item : {missing : _} (k : ℕ) → k < 4 → Item (row e w) 11 k (λ r. sky_at k r.body) (SkySaid true) (λ r. length r.body.sky.layers ≡ 4) missing
  unfolding row
  clouds-item k few =
      listed-item fs fields (row e w) row-only 11 k (λ s. record { cover = cond (eqb k 0) s.cover cover.Layers; layer = get_or s.layers k blank_layer }) (SkySaid true) (λ s. length s.layers ≡ 4)
      (λ g a a' f is.
      let (v, x, same) = in_body (λ b. set_body b a) a.body (read_sky true (is_cavok a.body.visibility) k g a.body.sky) set_sky a' is in
      rw same (sky-tells true (is_cavok a.body.visibility) g a.body k few f (sky-done true (is_cavok a.body.visibility) k g a.body.sky v x)))
      (λ n g a a' h o f is.
      let (v, x, same) = in_body (λ b. set_body b a) a.body (read_sky true (is_cavok a.body.visibility) n g a.body.sky) set_sky a' is in
      rw same (sky-others true (is_cavok a.body.visibility) g a.body k n h o (sky-done true (is_cavok a.body.visibility) n g a.body.sky v x)))
      (λ n g a a' f is.
      let (v, x, same) = in_body (λ b. set_body b a) a.body (read_sky true (is_cavok a.body.visibility) n g a.body.sky) set_sky a' is in
      rw same (sky-stays true (is_cavok a.body.visibility) g a.body n f (sky-done true (is_cavok a.body.visibility) n g a.body.sky v x)))

  -- ---- the period: the report's own group says it, or a change's, and no other

  pub data PeriodDone (g : Group) (p : Period) : ℕ → Period → Type 0 where
    with-own : {v : Period} → read_period (own_form e) g ≡ Ok v → PeriodDone g p 5 v
    with-change : {v : Period} → read_period (change_form e) g ≡ Ok v → PeriodDone g p 6 v
    with_none : {j : ℕ} → eqb 5 j ≡ false → eqb 6 j ≡ false → PeriodDone g p j p

  abbrev PeriodAt : ℕ → Place Leg → Type 0
  PeriodAt j p = (n : ℕ) (g : Group) (a a' : Leg) → p.read n g a ≡ Ok a' → PeriodDone g a.period j a'.period

  aside : {A : Type 0} (j : ℕ) → eqb 5 j ≡ false → eqb 6 j ≡ false → (g : Group) (a a' : Leg) (x : Result A Refusal) (f : A → Leg) → ((v : A) → (f v).period ≡ a.period)
      → then x (λ v. Ok (f v)) ≡ Ok a' → PeriodDone g a.period j a'.period
  aside j five six g a a' x f kept is =
      let (v, good, same) = then-good x f a' is in
      subst (PeriodDone g a.period j) (sym (ap (λ (r : Leg). r.period) same ∙ kept v)) (with_none five six)

  period-rows : Rows PeriodAt 0 (row e w)
  unfolding row
  period-rows =
      (λ n g a a' is. aside {A = Unit {0}} 0 refl refl g a a' (Ok tt) (λ v. a) (λ v. refl) is)
      & (λ n g a a' is. aside 1 refl refl g a a' (Ok (correction_of g)) (λ v. set_correction v a) (λ v. refl) is)
      & (λ n g a a' is. aside 2 refl refl g a a' (Ok (station_of g)) (λ v. set_station v a) (λ v. refl) is)
      & (λ n g a a' is. aside 3 refl refl g a a' (read_time g) (λ v. set_time v a) (λ v. refl) is)
      & (λ n g a a' is. aside 4 refl refl g a a' (Ok true) (λ v. set_nil v a) (λ v. refl) is)
      & (λ n g a a' is.
      let (v, good, same) = then-good (read_period (own_form e) g) (λ v. set_period v a) a' is in
      subst (PeriodDone g a.period 5) (sym (ap (λ (r : Leg). r.period) same)) (with-own good))
      & (λ n g a a' is.
      let (v, good, same) = then-good (read_period (change_form e) g) (λ v. set_period v a) a' is in
      subst (PeriodDone g a.period 6) (sym (ap (λ (r : Leg). r.period) same)) (with-change good))
      & (λ n g a a' is. aside 7 refl refl g a a' (Ok true) (λ v. set_cancelled v a) (λ v. refl) is)
      & (λ n g a a' is. aside 8 refl refl g a a' ((wind_place (forecast_in w)).read n g a.body) (λ b. set_body b a) (λ b. refl) is)
      & (λ n g a a' is. aside 9 refl refl g a a' ((visibility_place (forecast_in w)).read n g a.body) (λ b. set_body b a) (λ b. refl) is)
      & (λ n g a a' is. aside 10 refl refl g a a' ((weather_place (forecast_in w)).read n g a.body) (λ b. set_body b a) (λ b. refl) is)
      & (λ n g a a' is. aside 11 refl refl g a a' ((sky_place (forecast_in w)).read n g a.body) (λ b. set_body b a) (λ b. refl) is)
      & tt

  pub period-done : (j : ℕ) → PeriodAt j (place_at (row e w) j)
  period-done = row_at PeriodAt (row e w) period-rows (λ j n g a a' is. impossible (cc))

-- ---- the main part

-- the arrays have their lengths
abbrev pub fair_of : Element → Leg → Type 0
fair_of element.Name r = Unit {0}
fair_of element.Correction r = Unit {0}
fair_of element.Station r = Unit {0}
fair_of element.Time r = Unit {0}
fair_of element.Nil r = Unit {0}
fair_of element.Period r = Unit {0}
fair_of element.Cancelled r = Unit {0}
fair_of element.Wind r = Unit {0}
fair_of element.Visibility r = Unit {0}
fair_of element.Weather r = length r.body.weathers.items ≡ 3
fair_of element.Clouds r = length r.body.sky.layers ≡ 4

good-value : {A : Type 0} (a b : A) → ◌≡◌ {A = Result A Refusal} (Ok a) (Ok b) → b ≡ a
good-value a b e = cc

module _ (e : Edition) where
  abbrev pub LegItem : Element → ℕ → Type 0
  LegItem x k = Item (row e part.Main) (place_of x) k (value_of x k) (Said e x) (fair_of x) (value_of x k blank_leg)

  pub correction-item : LegItem element.Correction 0
  unfolding row
  correction-item =
      single-item fs fields (row e part.Main) (row-only e part.Main) 1 (λ x. x) (Said e element.Correction) refl
      (λ g a a' is. good-value (correction_of g) a'.correction (by_value (Ok (correction_of g)) (λ v. set_correction v a) (λ r. r.correction) a' (λ v. refl) is))

  pub station-item : LegItem element.Station 0
  unfolding row
  station-item =
      single-item fs fields (row e part.Main) (row-only e part.Main) 2 (λ x. x) (Said e element.Station) refl
      (λ g a a' is. good-value (station_of g) a'.station (by_value (Ok (station_of g)) (λ v. set_station v a) (λ r. r.station) a' (λ v. refl) is))

  pub time-item : LegItem element.Time 0
  unfolding row
  time-item =
      single-item fs fields (row e part.Main) (row-only e part.Main) 3 (λ x. x) (Said e element.Time) refl
      (λ g a a' is. by_value (read_time g) (λ v. set_time v a) (λ r. r.time) a' (λ v. refl) is)

  pub nil-item : LegItem element.Nil 0
  unfolding row
  nil-item =
      single-item fs fields (row e part.Main) (row-only e part.Main) 4 (λ x. x) (Said e element.Nil) refl
      (λ g a a' is. good-value true a'.nil (by_value (Ok true) (λ v. set_nil v a) (λ r. r.nil) a' (λ v. refl) is))

  pub cancelled-item : LegItem element.Cancelled 0
  unfolding row
  cancelled-item =
      single-item fs fields (row e part.Main) (row-only e part.Main) 7 (λ x. x) (Said e element.Cancelled) refl
      (λ g a a' is. good-value true a'.cancelled (by_value (Ok true) (λ v. set_cancelled v a) (λ r. r.cancelled) a' (λ v. refl) is))

  pub period-item : LegItem element.Period 0
  unfolding row
  period-item =
      record {
        tells = λ g a a' f is. tells g a.period a'.period (period-done e part.Main 5 0 g a a' is);
        kept = λ j n g a a' few o before f is. kept j n g a.period a'.period few o (period-done e part.Main j n g a a' is);
        stays = λ j n g a a' f is. tt;
      }
    where
      tells : (g : Group) (p p' : Period) → PeriodDone e part.Main g p 5 p' → read_period (own_form e) g ≡ Ok p'
      tells g p _ (with-own reads) = reads
      tells g p _ (with_none five six) = absurd (false≢true (sym five))

      kept : (j n : ℕ) (g : Group) (p p' : Period) → n < (place_at (row e part.Main) j).most → (eqb 5 j && eqb 0 n) ≡ false → PeriodDone e part.Main g p j p' → p' ≡ p
      kept _ n g p _ few o (with-own reads) = absurd (eqb-false 0 n o (omega arith))
      kept _ n g p _ few o (with-change reads) = absurd (omega arith)
      kept j n g p _ few o (with_none five six) = refl

-- ---- a change's period: its own group says hours alone, FM, its word, minutes too

abbrev has_minute : Option ℕ → Bool
has_minute None = false
has_minute (Some n) = true

-- what is not FM's
abbrev pub own_hours : Period → Period
own_hours p = cond (has_minute p.from.minute) blank_period p

pub hours-own : (p : Period) → p.from.minute ≡ None → own_hours p ≡ p
hours-own p is = ap (λ (m : Option ℕ). cond (has_minute m) blank_period p) is

pub no-minute : (f : Form) (g : Group) → Reads (λ (p : Period). p.from.minute ≡ None) (read_period f g)
unfolding read_period
no-minute form.BothDays g =
    reads-figured (field_at g 0 2)
    (λ d. reads-figured (field_at g 2 2)
    (λ h. reads-figured (field_at g 5 2)
    (λ l. reads-figured (field_at g 7 2) (λ k. reads-provided (is_day d && is_hour h && is_day l && is_end_hour form.BothDays k) (value refl)))))
no-minute form.FirstDay g =
    reads-figured (field_at g 0 2)
    (λ d. reads-figured (field_at g 2 2) (λ h. reads-figured (field_at g 4 2) (λ k. reads-provided (is_day d && is_hour h && is_end_hour form.FirstDay k) (value refl))))
no-minute form.NoDay g =
    reads-figured (field_at g 0 2) (λ h. reads-figured (field_at g 2 2) (λ k. reads-provided (is_hour h && is_end_hour form.NoDay k) (value refl)))

-- a place that is open once, or not at all
one_only : (b : Bool) (n : ℕ) → n < cond b 1 0 → eqb 0 n ≡ false → ⊥
one_only true n h e = eqb-false 0 n e (omega arith)
one_only false n h e = absurd (omega arith)

closed : (b : Bool) → b ≡ false → (n : ℕ) → n < cond b 1 0 → ⊥
closed true e n h = false≢true (sym e)
closed false e n h = absurd (omega arith)

pub hours-item : (e : Edition) (w : Part) → is_main w ≡ false
    → Item (row e w) 6 0 (λ r. own_hours r.period) (λ g v. read_period (change_form e) g ≡ Ok v) (λ r. Unit {0}) blank_period
unfolding row
hours-item e w after =
    record {
      tells = λ g a a' f is. tells g a.period a'.period (period-done e w 6 0 g a a' is);
      kept = λ j n g a a' few o before f is. ap own_hours (kept j n g a.period a'.period few o (period-done e w j n g a a' is));
      stays = λ j n g a a' f is. tt;
    }
  where
    tells : (g : Group) (p p' : Period) → PeriodDone e w g p 6 p' → read_period (change_form e) g ≡ Ok (own_hours p')
    tells g p p' (with-change reads) = reads ∙ ap Ok (sym (hours-own p' (reads_so (no-minute (change_form e) g) reads)))
    tells g p _ (with_none five six) = absurd (false≢true (sym six))

    kept : (j n : ℕ) (g : Group) (p p' : Period) → n < (place_at (row e w) j).most → (eqb 6 j && eqb 0 n) ≡ false → PeriodDone e w g p j p' → p' ≡ p
    kept _ n g p _ few o (with-own reads) = absurd (closed (is_main w) after n few)
    kept _ n g p _ few o (with-change reads) = absurd (one_only (is_changing w) n few o)
    kept j n g p _ few o (with_none five six) = refl
