-- Each place of the observation's row touches its own field alone, and each item is what its group says.
-- Assumes nothing.
use Rattle.std.specs.Prelude.{Err, Ok, Result}
use Rattle.text.specs.declared.kinds.Refusal.{Refusal}
use Prim.Native.Nat.{ℕ, ◌+◌, ◌<◌}
use mathlib.Core.Path.{◌≡◌, refl, sym, ap, ◌∙◌}
use mathlib.Core.Bool.{Bool, true, false, cond, ◌&&◌}
use mathlib.Core.List.{List}
use lib.ListN.{length, get_or, set, length-set}
use lib.Seq.{get_or-set_same, get_or-set_other}
use lib.Dec.{eqb, ltb}
use borrow.Author.Tests.{eqb-false, lt-ltb}
use Rattle.figures.specs.Quote.{bytes}
use Rattle.figures.proofs.Impossible.{impossible}
use Rattle.shapes.specs.Pattern.{has_pattern}
use Rattle.places.specs.Engine.{Group, then, Place, place_at}
use Rattle.record.specs.declared.aerodrome.Station.{Station}
use Rattle.record.specs.declared.aerodrome.Instant.{Instant}
use Rattle.record.specs.declared.aerodrome.Wind.{Wind}
use Rattle.record.specs.declared.aerodrome.Variation.{Variation}
use Rattle.record.specs.declared.aerodrome.Visibility.{Visibility}
use Rattle.record.specs.declared.aerodrome.Runway.{Runway}
use Rattle.record.specs.declared.aerodrome.Runways.{Runways}
use Rattle.record.specs.declared.aerodrome.Weather.{Weather}
use Rattle.record.specs.declared.aerodrome.Weathers.{Weathers}
use Rattle.record.specs.declared.aerodrome.Sky.{Sky}
use Rattle.record.specs.declared.aerodrome.Temperatures.{Temperatures}
use Rattle.record.specs.declared.aerodrome.Qnh.{Qnh}
use Rattle.record.specs.declared.aerodrome.RunwayState.{RunwayState}
use Rattle.record.specs.declared.aerodrome.RunwayStates.{RunwayStates}
use Rattle.record.specs.declared.aerodrome.Body.{Body}
use Rattle.record.specs.declared.aerodrome.Observation.{Observation}
use Rattle.record.specs.declared.aerodrome.Cover.TheVariants as cover
use Rattle.record.specs.Body.{blank_weather, blank_layer, set_wind, set_visibility, set_sky}
use Rattle.record.specs.Observation.{blank_observation, blank_runway, blank_state, set_time, set_body, set_variation, set_runways, set_temperatures, set_qnh, set_recents, set_states}
use Rattle.elements.specs.Parts.{agreeing, disagrees}
use Rattle.elements.specs.Wind.{read_wind, read_variation}
use Rattle.elements.specs.Visibility.{read_visibility, is_cavok}
use Rattle.elements.specs.Weather.{read_recent, with_weather}
use Rattle.elements.specs.Sky.{read_sky}
use Rattle.elements.specs.Body.{weather_place}
use Rattle.aerodrome_groups.specs.Head.{station_of, read_time}
use Rattle.aerodrome_groups.specs.Runway.{read_runway, with_runway}
use Rattle.aerodrome_groups.specs.Temperatures.{read_temperatures, read_qnh}
use Rattle.runway_states.specs.State.{read_state, with_state, with_snoclo}
use Rattle.metar_row.specs.Row.{observed, row}
use Rattle.sources.proofs.Rows.{Item, first}
use Rattle.sources.proofs.Fields.{◌&◌, Fields, end, field, Tuple, put, then-good, then-bind, by_value, Only, wrote, only-put, listed-item, single-item, Rows, row_at}
use Rattle.body_sources.proofs.Body.{agreed, in_body, WeatherDone, with-nsw, with-weather, weather-done, weather-tells, weather-others, weather-stays, sky-done, sky-tells, sky-others, sky-stays}
use Rattle.metar_sources.specs.declared.kinds.Element.{Element}
use Rattle.metar_sources.specs.declared.kinds.Element.TheVariants as element
use Rattle.metar_sources.specs.Items.{place_of, most_of, value_of, Said}

-- ---- the observation's fields, in the order of the row's places

abbrev fs : Fields
fs =
    field Bool (field Bool (field Station (field Instant (field Bool (field Bool (field Wind (field Variation (field Visibility (field Runways (field (Weathers × Bool)
    (field Sky (field Temperatures (field Qnh (field Weathers (field (List RunwayState × ℕ) (field Bool end))))))))))))))))

abbrev fields : Observation → Tuple fs
fields r =
    r.special & r.corrected & r.station & r.time & r.nil & r.automatic & r.body.wind & r.variation & r.body.visibility & r.runways
    & (r.body.weathers, r.body.nsw) & r.body.sky & r.temperatures & r.qnh & r.recents & (r.states.items, r.states.count) & r.states.snoclo & tt

-- ---- each place touches its own field alone

good-only : {A : Type 0} (a b : A) → ◌≡◌ {A = Result A Refusal} (Ok a) (Ok b) → b ≡ a
good-only a b e = cc

module _ (g : Group) (a a' : Observation) where
  weather-only : (n : ℕ) → then ((weather_place (observed a)).read n g a.body) (λ b. Ok (set_body b a)) ≡ Ok a' → Only fs fields 10 a a'
  weather-only n e =
      let (b, good, same) = then-good ((weather_place (observed a)).read n g a.body) (λ b. set_body b a) a' e in
      go b (weather-done (observed a) n g a.body b good) same
    where
      go : (b : Body) → WeatherDone (observed a) n g a.body b → a' ≡ set_body b a → Only fs fields 10 a a'
      go _ (with-nsw is first) same = only-put fs fields 10 a a' (a.body.weathers, true) (ap fields same)
      go _ (with-weather w is reads) same = only-put fs fields 10 a a' (with_weather n a.body.weathers w, a.body.nsw) (ap fields same)

  states-only : (n : ℕ) (x : RunwayState) → a' ≡ set_states (with_state n a.states x) a → Only fs fields 15 a a'
  states-only n x same = only-put fs fields 15 a a' ((with_state n a.states x).items, (with_state n a.states x).count) (ap fields same ∙ go (ltb n 4))
    where
      go : (b : Bool) → fields (set_states (cond b (record { items = set a.states.items n x; count = n + 1; snoclo = a.states.snoclo }) a.states) a)
          ≡ put fs 15 ((cond b (record { items = set a.states.items n x; count = n + 1; snoclo = a.states.snoclo }) a.states).items, (cond b (record { items = set a.states.items n x; count = n + 1; snoclo = a.states.snoclo }) a.states).count) (fields a)
      go true = refl
      go false = refl

  -- a runway state beside SNOCLO is refused
  pub beside-refused : then (then (read_state g) (λ x. disagrees)) (λ s. Ok (set_states s a)) ≡ Ok a' → ⊥
  beside-refused e =
      let (s, good, same) = then-good (then (read_state g) (λ x. disagrees)) (λ s. set_states s a) a' e in
      let (x, is, bad) = then-bind (read_state g) (λ x. disagrees) s good in
      impossible (cc)

abbrev OnlyAt : ℕ → Place Observation → Type 0
OnlyAt j p = (n : ℕ) (g : Group) (a a' : Observation) → p.read n g a ≡ Ok a' → Only fs fields j a a'

only-rows : Rows OnlyAt 0 row
unfolding row
only-rows =
    (λ n g a a' e. only-put fs fields 0 a a' (has_pattern g (bytes "SPECI")) (ap fields (good-only _ a' e)))
    & (λ n g a a' e. only-put fs fields 1 a a' true (ap fields (good-only _ a' e)))
    & (λ n g a a' e. only-put fs fields 2 a a' (station_of g) (ap fields (good-only _ a' e)))
    & (λ n g a a' e. wrote fs fields 3 a a' (read_time g) (λ v. set_time v a) (λ v. v) (λ v. refl) e)
    & (λ n g a a' e. only-put fs fields 4 a a' true (ap fields (good-only _ a' e)))
    & (λ n g a a' e. only-put fs fields 5 a a' true (ap fields (good-only _ a' e)))
    & (λ n g a a' e. let (v, is, same) = in_body (λ b. set_body b a) a.body (read_wind false g) set_wind a' e in only-put fs fields 6 a a' v (ap fields same))
    & (λ n g a a' e. wrote fs fields 7 a a' (read_variation g) (λ v. set_variation v a) (λ v. v) (λ v. refl) e)
    & (λ n g a a' e. let (v, is, same) = in_body (λ b. set_body b a) a.body (read_visibility false g) set_visibility a' e in only-put fs fields 8 a a' v (ap fields same))
    & (λ n g a a' e. wrote fs fields 9 a a' (read_runway g) (λ v. set_runways (with_runway n a.runways v) a) (with_runway n a.runways) (λ v. refl) e)
    & (λ n g a a' e. weather-only g a a' n e)
    & (λ n g a a' e. let (v, is, same) = in_body (λ b. set_body b a) a.body (read_sky false (is_cavok a.body.visibility) n g a.body.sky) set_sky a' e in only-put fs fields 11 a a' v (ap fields same))
    & (λ n g a a' e. wrote fs fields 12 a a' (read_temperatures g) (λ v. set_temperatures v a) (λ v. v) (λ v. refl) e)
    & (λ n g a a' e. wrote fs fields 13 a a' (read_qnh g) (λ v. set_qnh v a) (λ v. v) (λ v. refl) e)
    & (λ n g a a' e. wrote fs fields 14 a a' (read_recent a.automatic g) (λ v. set_recents (with_weather n a.recents v) a) (with_weather n a.recents) (λ v. refl) e)
    & (λ n g a a' e.
    let (s, good, same) = then-good (then (read_state g) (λ x. Ok (with_state n a.states x))) (λ s. set_states s a) a' e in
    let (x, is, put) = then-good (read_state g) (with_state n a.states) s good in
    states-only g a a' n x (same ∙ ap (λ (s : RunwayStates). set_states s a) put))
    & (λ n g a a' e.
    let (s, good, same) = then-good (agreeing (eqb a.states.count 0) (Ok (with_snoclo true a.states))) (λ s. set_states s a) a' e in
    only-put fs fields 16 a a' true (ap fields (same ∙ ap (λ (s : RunwayStates). set_states s a) (agreed (eqb a.states.count 0) (with_snoclo true a.states) s good).1)))
    & (λ n g a a' e. absurd (beside-refused g a a' e))
    & (λ n g a a' e. impossible (cc))
    & tt

pub row-only : (j : ℕ) → OnlyAt j (place_at row j)
row-only = row_at OnlyAt row only-rows (λ j n g a a' e. impossible (cc))

-- ---- one more in a list that has room for so many

abbrev with-one : {A : Type 0} → ℕ → ℕ → List A → A → List A
with-one most n xs x = cond (ltb n most) (set xs n x) xs

one_same : {A : Type 0} (most k : ℕ) (xs : List A) (x d : A) → k < most → length xs ≡ most → get_or (with-one most k xs x) k d ≡ x
one_same most k xs x d few fair = rw (lt-ltb k most few) (get_or-set_same xs k x d (rw fair few))

one-other : {A : Type 0} (most k n : ℕ) (xs : List A) (x d : A) → eqb k n ≡ false → get_or (with-one most n xs x) k d ≡ get_or xs k d
one-other most k n xs x d o = go (ltb n most)
  where
    go : (b : Bool) → get_or (cond b (set xs n x) xs) k d ≡ get_or xs k d
    go true = get_or-set_other xs n k x d (eqb-false k n o)
    go false = refl

one-long : {A : Type 0} (most n : ℕ) (xs : List A) (x : A) → length (with-one most n xs x) ≡ length xs
one-long most n xs x = go (ltb n most)
  where
    go : (b : Bool) → length (cond b (set xs n x) xs) ≡ length xs
    go true = length-set xs n x
    go false = refl

runway-items : (n : ℕ) (rs : Runways) (x : Runway) → (with_runway n rs x).items ≡ with-one 4 n rs.items x
runway-items n rs x = go (ltb n 4)
  where
    go : (b : Bool) → (cond b (record { items = set rs.items n x; count = n + 1 }) rs).items ≡ cond b (set rs.items n x) rs.items
    go true = refl
    go false = refl

weather-items : (n : ℕ) (ws : Weathers) (x : Weather) → (with_weather n ws x).items ≡ with-one 3 n ws.items x
weather-items n ws x = go (ltb n 3)
  where
    go : (b : Bool) → (cond b (record { items = set ws.items n x; count = n + 1 }) ws).items ≡ cond b (set ws.items n x) ws.items
    go true = refl
    go false = refl

state-items : (n : ℕ) (ss : RunwayStates) (x : RunwayState) → (with_state n ss x).items ≡ with-one 4 n ss.items x
state-items n ss x = go (ltb n 4)
  where
    go : (b : Bool) → (cond b (record { items = set ss.items n x; count = n + 1; snoclo = ss.snoclo }) ss).items ≡ cond b (set ss.items n x) ss.items
    go true = refl
    go false = refl

-- ---- the items

-- the arrays have their lengths
abbrev pub fair_of : Element → Observation → Type 0
fair_of element.Name r = Unit {0}
fair_of element.Correction r = Unit {0}
fair_of element.Station r = Unit {0}
fair_of element.Time r = Unit {0}
fair_of element.Nil r = Unit {0}
fair_of element.Automatic r = Unit {0}
fair_of element.Wind r = Unit {0}
fair_of element.Variation r = Unit {0}
fair_of element.Visibility r = Unit {0}
fair_of element.Runway r = length r.runways.items ≡ 4
fair_of element.Weather r = length r.body.weathers.items ≡ 3
fair_of element.Clouds r = length r.body.sky.layers ≡ 4
fair_of element.Temperatures r = Unit {0}
fair_of element.Pressure r = Unit {0}
fair_of element.Recent r = length r.recents.items ≡ 3
fair_of element.State r = length r.states.items ≡ 4
fair_of element.Snoclo r = Unit {0}

by-list : {A : Type 0} (most k : ℕ) (d : A) (x : Result A Refusal) (f : A → Observation) (items : Observation → List A) (a a' : Observation)
    → ((v : A) → items (f v) ≡ with-one most k (items a) v) → k < most → length (items a) ≡ most → then x (λ v. Ok (f v)) ≡ Ok a' → x ≡ Ok (get_or (items a') k d)
by-list most k d x f items a a' is few fair e =
    let (v, reads, same) = then-good x f a' e in
    reads ∙ ap Ok (sym (ap (λ (l : List _). get_or l k d) (ap items same ∙ is v) ∙ one_same most k (items a) v d few fair))

list-other : {A : Type 0} (most k n : ℕ) (d : A) (x : Result A Refusal) (f : A → Observation) (items : Observation → List A) (a a' : Observation)
    → ((v : A) → items (f v) ≡ with-one most n (items a) v) → eqb k n ≡ false → then x (λ v. Ok (f v)) ≡ Ok a' → get_or (items a') k d ≡ get_or (items a) k d
list-other most k n d x f items a a' is o e =
    let (v, reads, same) = then-good x f a' e in
    ap (λ (l : List _). get_or l k d) (ap items same ∙ is v) ∙ one-other most k n (items a) v d o

list-long : {A : Type 0} (most n : ℕ) (x : Result A Refusal) (f : A → Observation) (items : Observation → List A) (a a' : Observation)
    → ((v : A) → items (f v) ≡ with-one most n (items a) v) → then x (λ v. Ok (f v)) ≡ Ok a' → length (items a) ≡ most → length (items a') ≡ most
list-long most n x f items a a' is e fair =
    let (v, reads, same) = then-good x f a' e in
    ap length (ap items same ∙ is v) ∙ one-long most n (items a) v ∙ fair

fuse : {A B C : Type 0} (x : Result A Refusal) (f : A → B) (h : B → C) → then (then x (λ v. Ok (f v))) (λ b. Ok (h b)) ≡ then x (λ v. Ok (h (f v)))
fuse (Ok a) f h = refl
fuse (Err r) f h = refl

abbrev ObservedItem : Element → ℕ → Type 0
ObservedItem e k = Item row (place_of e) k (value_of e k) (Said e) (fair_of e) (value_of e k blank_observation)

runway-item : (k : ℕ) → k < 4 → ObservedItem element.Runway k
unfolding row
runway-item k few =
    listed-item fs fields row row-only 9 k (λ rs. get_or rs.items k blank_runway) (Said element.Runway) (λ rs. length rs.items ≡ 4)
    (λ g a a' f e. by-list 4 k blank_runway (read_runway g) (λ v. set_runways (with_runway k a.runways v) a) (λ r. r.runways.items) a a' (runway-items k a.runways) few f e)
    (λ n g a a' h o f e. list-other 4 k n blank_runway (read_runway g) (λ v. set_runways (with_runway n a.runways v) a) (λ r. r.runways.items) a a' (runway-items n a.runways) o e)
    (λ n g a a' f e. list-long 4 n (read_runway g) (λ v. set_runways (with_runway n a.runways v) a) (λ r. r.runways.items) a a' (runway-items n a.runways) e f)

recent-item : (k : ℕ) → k < 3 → ObservedItem element.Recent k
unfolding row
recent-item k few =
    listed-item fs fields row row-only 14 k (λ ws. get_or ws.items k blank_weather) (Said element.Recent) (λ ws. length ws.items ≡ 3)
    (λ g a a' f e. (a.automatic, by-list 3 k blank_weather (read_recent a.automatic g) (λ v. set_recents (with_weather k a.recents v) a) (λ r. r.recents.items) a a' (weather-items k a.recents) few f e))
    (λ n g a a' h o f e. list-other 3 k n blank_weather (read_recent a.automatic g) (λ v. set_recents (with_weather n a.recents v) a) (λ r. r.recents.items) a a' (weather-items n a.recents) o e)
    (λ n g a a' f e. list-long 3 n (read_recent a.automatic g) (λ v. set_recents (with_weather n a.recents v) a) (λ r. r.recents.items) a a' (weather-items n a.recents) e f)

state-item : (k : ℕ) → k < 4 → ObservedItem element.State k
unfolding row
state-item k few =
    listed-item fs fields row row-only 15 k (λ x. get_or x.0 k blank_state) (Said element.State) (λ x. length x.0 ≡ 4)
    (λ g a a' f e. by-list 4 k blank_state (read_state g) (λ v. set_states (with_state k a.states v) a) (λ r. r.states.items) a a' (state-items k a.states) few f (sym (fused g a k) ∙ e))
    (λ n g a a' h o f e. list-other 4 k n blank_state (read_state g) (λ v. set_states (with_state n a.states v) a) (λ r. r.states.items) a a' (state-items n a.states) o (sym (fused g a n) ∙ e))
    (λ n g a a' f e. list-long 4 n (read_state g) (λ v. set_states (with_state n a.states v) a) (λ r. r.states.items) a a' (state-items n a.states) (sym (fused g a n) ∙ e) f)
  where
    fused : (g : Group) (a : Observation) (n : ℕ) → then (then (read_state g) (λ x. Ok (with_state n a.states x))) (λ s. Ok (set_states s a))
        ≡ then (read_state g) (λ x. Ok (set_states (with_state n a.states x) a))
    fused g a n = fuse (read_state g) (with_state n a.states) (λ s. set_states s a)

weather-item : (k : ℕ) → k < 3 → ObservedItem element.Weather k
unfolding row
weather-item k few =
    listed-item fs fields row row-only 10 k (λ x. record { nsw = eqb k 0 && x.1; weather = get_or x.0.items k blank_weather }) (Said element.Weather) (λ x. length x.0.items ≡ 3)
    (λ g a a' f e.
    let (b, good, same) = then-good ((weather_place (observed a)).read k g a.body) (λ b. set_body b a) a' e in
    rw same (weather-tells (observed a) g a.body k few f (weather-done (observed a) k g a.body b good)))
    (λ n g a a' h o f e.
    let (b, good, same) = then-good ((weather_place (observed a)).read n g a.body) (λ b. set_body b a) a' e in
    rw same (weather-others (observed a) g a.body k n h o (weather-done (observed a) n g a.body b good)))
    (λ n g a a' f e.
    let (b, good, same) = then-good ((weather_place (observed a)).read n g a.body) (λ b. set_body b a) a' e in
    rw same (weather-stays (observed a) g a.body n f (weather-done (observed a) n g a.body b good)))

clouds-item : (k : ℕ) → k < 4 → ObservedItem element.Clouds k
unfolding row
clouds-item k few =
    listed-item fs fields row row-only 11 k (λ s. record { cover = cond (eqb k 0) s.cover cover.Layers; layer = get_or s.layers k blank_layer }) (Said element.Clouds) (λ s. length s.layers ≡ 4)
    (λ g a a' f e.
    let (v, is, same) = in_body (λ b. set_body b a) a.body (read_sky false (is_cavok a.body.visibility) k g a.body.sky) set_sky a' e in
    rw same (sky-tells false (is_cavok a.body.visibility) g a.body k few f (sky-done false (is_cavok a.body.visibility) k g a.body.sky v is)))
    (λ n g a a' h o f e.
    let (v, is, same) = in_body (λ b. set_body b a) a.body (read_sky false (is_cavok a.body.visibility) n g a.body.sky) set_sky a' e in
    rw same (sky-others false (is_cavok a.body.visibility) g a.body k n h o (sky-done false (is_cavok a.body.visibility) n g a.body.sky v is)))
    (λ n g a a' f e.
    let (v, is, same) = in_body (λ b. set_body b a) a.body (read_sky false (is_cavok a.body.visibility) n g a.body.sky) set_sky a' e in
    rw same (sky-stays false (is_cavok a.body.visibility) g a.body n f (sky-done false (is_cavok a.body.visibility) n g a.body.sky v is)))

-- EACH ITEM IS WHAT ITS GROUP SAYS, and no other group touches it.
pub observed-item : (e : Element) (k : ℕ) → k < most_of e → ObservedItem e k
unfolding row
observed-item element.Name k h = first 0 k _ _ h (single-item fs fields row row-only 0 (λ x. x) (Said element.Name) refl (λ g a a' e. ap (λ (r : Observation). r.special) (good-only _ a' e)))
observed-item element.Correction k h = first 1 k _ _ h (single-item fs fields row row-only 1 (λ x. x) (Said element.Correction) refl (λ g a a' e. ap (λ (r : Observation). r.corrected) (good-only _ a' e)))
observed-item element.Station k h = first 2 k _ _ h (single-item fs fields row row-only 2 (λ x. x) (Said element.Station) refl (λ g a a' e. ap (λ (r : Observation). r.station) (good-only _ a' e)))
observed-item element.Time k h = first 3 k _ _ h (single-item fs fields row row-only 3 (λ x. x) (Said element.Time) refl (λ g a a' e. by_value (read_time g) (λ v. set_time v a) (λ r. r.time) a' (λ v. refl) e))
observed-item element.Nil k h = first 4 k _ _ h (single-item fs fields row row-only 4 (λ x. x) (Said element.Nil) refl (λ g a a' e. ap (λ (r : Observation). r.nil) (good-only _ a' e)))
observed-item element.Automatic k h = first 5 k _ _ h (single-item fs fields row row-only 5 (λ x. x) (Said element.Automatic) refl (λ g a a' e. ap (λ (r : Observation). r.automatic) (good-only _ a' e)))
observed-item element.Wind k h =
    first 6 k _ _ h (single-item fs fields row row-only 6 (λ x. x) (Said element.Wind) refl
    (λ g a a' e. let (v, is, same) = in_body (λ b. set_body b a) a.body (read_wind false g) set_wind a' e in is ∙ ap Ok (sym (ap (λ (r : Observation). r.body.wind) same))))
observed-item element.Variation k h = first 7 k _ _ h (single-item fs fields row row-only 7 (λ x. x) (Said element.Variation) refl (λ g a a' e. by_value (read_variation g) (λ v. set_variation v a) (λ r. r.variation) a' (λ v. refl) e))
observed-item element.Visibility k h =
    first 8 k _ _ h (single-item fs fields row row-only 8 (λ x. x) (Said element.Visibility) refl
    (λ g a a' e. let (v, is, same) = in_body (λ b. set_body b a) a.body (read_visibility false g) set_visibility a' e in is ∙ ap Ok (sym (ap (λ (r : Observation). r.body.visibility) same))))
observed-item element.Runway k h = runway-item k h
observed-item element.Weather k h = weather-item k h
observed-item element.Clouds k h = clouds-item k h
observed-item element.Temperatures k h = first 12 k _ _ h (single-item fs fields row row-only 12 (λ x. x) (Said element.Temperatures) refl (λ g a a' e. by_value (read_temperatures g) (λ v. set_temperatures v a) (λ r. r.temperatures) a' (λ v. refl) e))
observed-item element.Pressure k h = first 13 k _ _ h (single-item fs fields row row-only 13 (λ x. x) (Said element.Pressure) refl (λ g a a' e. by_value (read_qnh g) (λ v. set_qnh v a) (λ r. r.qnh) a' (λ v. refl) e))
observed-item element.Recent k h = recent-item k h
observed-item element.State k h = state-item k h
observed-item element.Snoclo k h =
    first 16 k _ _ h (single-item fs fields row row-only 16 (λ x. x) (Said element.Snoclo) refl
    (λ g a a' e.
    let (s, good, same) = then-good (agreeing (eqb a.states.count 0) (Ok (with_snoclo true a.states))) (λ s. set_states s a) a' e in
    ap (λ (r : Observation). r.states.snoclo) same ∙ ap (λ (s : RunwayStates). s.snoclo) (agreed (eqb a.states.count 0) (with_snoclo true a.states) s good).1))
