-- A METAR or SPECI that is read is judged fine, and is its own class but for speeds from P on: its observation, NIL, and its trend.
-- Assumes nothing.
use Rattle.std.specs.Prelude.{⊤, Ok, Option, Result}
use Rattle.text.specs.declared.kinds.Refusal.{Refusal}
use Prim.Native.Nat.{ℕ}
use native.Mathlib.Omega.{arith}
use mathlib.Core.Path.{◌≡◌, refl, sym, ap, ◌∙◌}
use mathlib.Core.Logic.{inl, inr}
use mathlib.Core.Bool.{Bool, true, false, cond, not, ◌||◌, false≢true}
use mathlib.Core.List.{List, [], ◌∷◌}
use lib.ListN.{drop}
use lib.Dec.{ltb, eqb}
use borrow.Author.Tests.{ltb-false, eqb-true}
use Rattle.figures.specs.Quote.{bytes}
use Rattle.text.specs.declared.kinds.Refusal.TheVariants as refusal
use Rattle.text.specs.Judge.{judge, and_then}
use Rattle.text.specs.Groups.{Piece}
use Rattle.shapes.specs.Pattern.{has_pattern, has_any}
use Rattle.places.specs.Engine.{Group}
use Rattle.places.specs.Parts.{Ends, Bars}
use Rattle.record.specs.declared.aerodrome.Body.{Body}
use Rattle.record.specs.declared.aerodrome.RunwayState.{RunwayState}
use Rattle.record.specs.declared.aerodrome.RunwayStates.{RunwayStates}
use Rattle.record.specs.declared.aerodrome.Variation.{Variation}
use Rattle.record.specs.declared.aerodrome.Runways.{Runways}
use Rattle.record.specs.declared.aerodrome.Temperatures.{Temperatures}
use Rattle.record.specs.declared.aerodrome.Qnh.{Qnh}
use Rattle.record.specs.declared.aerodrome.Observation.{Observation}
use Rattle.record.specs.declared.aerodrome.TrendChange.{TrendChange}
use Rattle.record.specs.declared.aerodrome.Metar.{Metar}
use Rattle.record.specs.Body.{set_wind, set_visibility, set_sky, blank_wind, blank_visibility, blank_weathers, blank_sky, blank_body}
use Rattle.record.specs.Observation.{set_time, set_nil, set_body, set_variation, set_runways, set_temperatures, set_qnh, set_recents, set_states, blank_runways, blank_states, blank_observation}
use Rattle.record.specs.Trend.{blank_trend}
use Rattle.record.specs.SilentAerodrome.{is_blank_body, no_observation}
use Rattle.record.specs.Arrays.{ObservationArrays, MetarArrays}
use Rattle.elements.specs.Wind.{judge_variation, class_variation}
use Rattle.elements.specs.Visibility.{is_cavok}
use Rattle.elements.specs.Weather.{with_weather, judge_recent}
use Rattle.elements.specs.Body.{class_body}
use Rattle.aerodrome_groups.specs.Runway.{with_runway, class_runways}
use Rattle.aerodrome_groups.specs.Temperatures.{class_temperatures, class_qnh}
use Rattle.runway_states.specs.State.{class_states}
use Rattle.metar_row.specs.Row.{observed, row, stop_words}
use Rattle.trend_row.specs.declared.kinds.Word.{Word}
use Rattle.trend_row.specs.declared.kinds.Word.TheVariants as word
use Rattle.trend_row.specs.Row.{is_change}
use Rattle.trend.specs.Read.{opens as opens-word, start_of, nosig_after, change_after, comes_to, taking, part_after, parts}
use Rattle.trend.specs.Write.{judge_trend}
use Rattle.metar.specs.Read.{main_part, groups_read}
use Rattle.metar.specs.Write.{judge_head, judge_observation, judge_of, class_observation, classed_of}
use Rattle.accepted_laws.specs.Opened.{open_body, open_metar}
use Rattle.accepted_laws.proofs.Gives.{good, bad, gives_more, gives-agreeing, gives_then}
use Rattle.accepted_laws.proofs.Stages.{Stage, Blank, Left, ServesRow, StandsAt}
use Rattle.accepted_laws.proofs.Reports.{Comes, Turns, ends, bars, opens, Leaves, report-leaves}
use Rattle.accepted_laws.proofs.Common.{◌&◌, gives-onto, Past, left-all, Given, given-read, once, many, ending, flag, free, serves-once, serves-many, serves-ending, serves-flag, serves-free}
use Rattle.accepted_laws.proofs.Filled.{filled-length}
use Rattle.accepted_laws.proofs.Winds.{WindRead, wind-read, VariationRead, variation-read, VisibilityRead, visibility-read}
use Rattle.accepted_laws.proofs.Weathers.{recent-read}
use Rattle.accepted_laws.proofs.Skies.{SkyHeld, sky-none, sky-read, sky-left}
use Rattle.accepted_laws.proofs.Bodies.{NoWeather, blank-body, wind-fine, visibility-fine, WeathersHeld, weathers-none, weathers-more, weathers-fine, WeatherHeld, no-weather, weather-sets, weather-fine, body-read}
use Rattle.accepted_laws.proofs.Groups.{StationRead, station-read, TimeRead, time-read, runway-read, RunwaysHeld, runways-none, runways-more, runways-fine, runways-own, TemperaturesRead, temperatures-read, QnhRead, qnh-read, state-read, StatesHeld, states-none, states-set, states-fine, states-own}
use Rattle.accepted_laws.proofs.Trends as trend

-- ---- the observation's stages, in its row's order

-- recent weather, UP under AUTO alone
abbrev RecentsHeld : ℕ → Observation → Type 0
RecentsHeld k r = WeathersHeld (λ w. judge_recent r.automatic w ≡ Ok tt) k r.recents

-- SNOCLO where no state stands
abbrev Alone : RunwayStates → Type 0
Alone ss = ss.snoclo ≡ true → ss.count ≡ 0

abbrev snoclo : Stage Observation
snoclo = record { blank = λ r. r.states.snoclo ≡ false; held = λ k r. Alone r.states; past = λ r. Alone r.states }

abbrev stages : List (Stage Observation)
stages =
    free
    ∷ free
    ∷ once StationRead blank_observation.station true (λ r. r.station)
    ∷ once TimeRead blank_observation.time true (λ r. r.time)
    ∷ ending (λ r. r.nil)
    ∷ flag (λ r. r.automatic)
    ∷ once (WindRead false) blank_wind true (λ r. r.body.wind)
    ∷ once VariationRead blank_observation.variation false (λ r. r.variation)
    ∷ once (VisibilityRead false) blank_visibility true (λ r. r.body.visibility)
    ∷ many (λ r. r.runways ≡ blank_runways) (λ k r. RunwaysHeld k r.runways)
    ∷ many (λ r. NoWeather r.body) (λ k r. WeatherHeld (observed r) (is_cavok r.body.visibility) k r.body.nsw r.body.weathers)
    ∷ many (λ r. r.body.sky ≡ blank_sky) (λ k r. SkyHeld false (is_cavok r.body.visibility) k r.body.sky)
    ∷ once TemperaturesRead blank_observation.temperatures true (λ r. r.temperatures)
    ∷ once QnhRead blank_observation.qnh true (λ r. r.qnh)
    ∷ many (λ r. r.recents ≡ blank_weathers) RecentsHeld
    ∷ many (λ r. (r.states.items ≡ blank_states.items) × (r.states.count ≡ 0)) (λ k r. StatesHeld k r.states.items r.states.count)
    ∷ snoclo
    ∷ free
    ∷ free
    ∷ []

-- a NIL report: its head, and nothing behind it
pub record NilRead (r : Observation) : Type 0 where
  pub station : StationRead r.station
  pub time : TimeRead r.time
  pub nil : r.nil ≡ true
  pub automatic : r.automatic ≡ false
  pub body : r.body ≡ blank_body
  pub variation : r.variation ≡ blank_observation.variation
  pub runways : r.runways ≡ blank_runways
  pub temperatures : r.temperatures ≡ blank_observation.temperatures
  pub qnh : r.qnh ≡ blank_observation.qnh
  pub recents : r.recents ≡ blank_weathers
  pub states : r.states ≡ blank_states

blank-states : (ss : RunwayStates) → ss.items ≡ blank_states.items → ss.count ≡ 0 → ss.snoclo ≡ false → ss ≡ blank_states
blank-states ss i c s = go ss.items ss.count ss.snoclo i c s
  where
    go : (items : List RunwayState) (count : ℕ) (snoclo : Bool) → items ≡ blank_states.items → count ≡ 0 → snoclo ≡ false
        → ◌≡◌ {A = RunwayStates} (record { items = items; count = count; snoclo = snoclo }) blank_states
    go items count snoclo i c s = rw (i, c, s)

abbrev start : Observation → Type 0
start r = Unit {0}

-- read after the station and the time, where all behind it is blank
nil-read : (r : Observation) → Given StationRead blank_observation.station true r.station → Given TimeRead blank_observation.time true r.time → Blank (drop 5 stages) r → NilRead (set_nil true r)
nil-read r s t (a, (w, (v, (y, (u, (x, (k, (d, (q, (c, (z, (n, _)))))))))))) =
    record {
      station = given-read StationRead _ r.station s;
      time = given-read TimeRead _ r.time t;
      nil = refl;
      automatic = a;
      body = blank-body r.body w y x k;
      variation = v;
      runways = u;
      temperatures = d;
      qnh = q;
      recents = c;
      states = blank-states r.states z.0 z.1 n;
    }

serves : ServesRow NilRead start row stages
unfolding row
serves =
    serves-free _ _ _ _ refl (λ k g r b e. good (b, e))
    & serves-free _ _ _ _ refl (λ k g r b e. good (b, e))
    & serves-once _ _ _ _ StationRead _ (λ r. r.station) refl (λ k g r room has b e. good (b, station-read g has, e))
    & serves-once _ _ _ _ TimeRead _ (λ r. r.time) refl (λ k g r room has b e. gives-onto (λ t. set_time t r) (gives_more (time-read g) (λ t f. (b, f, e))))
    & serves-ending _ _ _ _ (λ r. r.nil) refl (λ k g r room b h e. good (nil-read r b.0.1 b.1 e))
    & serves-flag _ _ _ _ (λ r. r.automatic) refl (λ k g r b e. good (b, e))
    & serves-once _ _ _ _ (WindRead false) _ (λ r. r.body.wind) refl
    (λ k g r room has b e. gives-onto (λ x. set_body x r) (gives-onto (λ x. set_wind x r.body) (gives_more (wind-read false g) (λ x f. (b, f, e)))))
    & serves-once _ _ _ _ VariationRead _ (λ r. r.variation) refl (λ k g r room has b e. gives-onto (λ x. set_variation x r) (gives_more (variation-read g) (λ x f. (b, f, e))))
    & serves-once _ _ _ _ (VisibilityRead false) _ (λ r. r.body.visibility) refl
    (λ k g r room has b e. gives-onto (λ x. set_body x r) (gives-onto (λ x. set_visibility x r.body) (gives_more (visibility-read false g) (λ x f. (b, f, e)))))
    & serves-many _ _ _ _ _ _ refl (λ r b e. rw e runways-none)
    (λ k g r room b h e. gives-onto (λ x. set_runways (with_runway k r.runways x) r) (gives_more (runway-read g) (λ x f. (b, runways-more h room x f, e))))
    & serves-many _ _ _ _ _ _ refl (λ r b e. rw (e.0, e.1) (no-weather (observed r) (is_cavok r.body.visibility)))
    (λ k g r room b h e. gives-onto (λ x. set_body x r) (weather-sets (observed r) k g r.body room h _ (λ n ws x. (b, x, e))))
    & serves-many _ _ _ _ _ _ refl (λ r b e. rw e (sky-none false (is_cavok r.body.visibility)))
    (λ k g r room b h e. gives-onto (λ x. set_body x r) (gives-onto (λ x. set_sky x r.body) (gives_more (sky-read false (is_cavok r.body.visibility) k r.body.sky room g h) (λ x f. (b, f, e)))))
    & serves-once _ _ _ _ TemperaturesRead _ (λ r. r.temperatures) refl (λ k g r room has b e. gives-onto (λ x. set_temperatures x r) (gives_more (temperatures-read g) (λ x f. (b, f, e))))
    & serves-once _ _ _ _ QnhRead _ (λ r. r.qnh) refl (λ k g r room has b e. gives-onto (λ x. set_qnh x r) (gives_more (qnh-read g) (λ x f. (b, f, e))))
    & serves-many _ _ _ _ _ _ refl (λ r b e. rw e (weathers-none _))
    (λ k g r room b h e. gives-onto (λ w. set_recents (with_weather k r.recents w) r) (gives_more (recent-read r.automatic g) (λ w f. (b, weathers-more h room w f, e))))
    & serves-many _ _ _ _ _ _ refl (λ r b e. rw (e.0, e.1) states-none)
    (λ k g r room b h e. gives-onto (λ x. set_states x r) (states-set k g r.states h room _ (λ items held. (b, held, e))))
    & record {
      begins = λ r b e s. absurd (false≢true (sym e ∙ s));
      passes = λ k r b m h. h;
      takes = λ k g r room has b h e. gives-onto (λ x. set_states x r) (gives-agreeing (eqb r.states.count 0) (λ z. good (b, (λ s. eqb-true r.states.count 0 z), e)));
    }
    & serves-free _ _ _ _ refl (λ k g r b e. gives-onto (λ x. set_states x r) (gives_then (state-read g) (λ s f. bad)))
    & serves-free _ _ _ _ refl (λ k g r b e. bad)
    & tt

begins-at : StandsAt NilRead start stages 0 0 blank_observation
begins-at = (tt, tt, tt & refl & refl & refl & refl & refl & refl & refl & refl & (refl, refl) & refl & refl & refl & refl & (refl, refl) & refl & tt & tt & tt)

-- ---- THE OBSERVATION

variation-fine : (v : Variation) → Given VariationRead blank_observation.variation false v → judge_variation v ≡ Ok tt
unfolding judge_variation
variation-fine v (inl (free, is)) = rw is
variation-fine v (inr r) = r.fine

variation-own : (v : Variation) → Given VariationRead blank_observation.variation false v → class_variation v ≡ v
variation-own v (inl (free, is)) = rw is
variation-own v (inr r) = r.own

observation-own : (o : Observation) → class_body o.body ≡ open_body o.body → class_variation o.variation ≡ o.variation → class_runways o.runways ≡ o.runways
    → class_temperatures o.temperatures ≡ o.temperatures → class_qnh o.qnh ≡ o.qnh → class_states o.states ≡ o.states → class_observation o ≡ set_body (open_body o.body) o
unfolding class_observation row
observation-own o b v r t q s =
    ap (λ (x : Body). made x (class_variation o.variation) (class_runways o.runways) (class_temperatures o.temperatures) (class_qnh o.qnh) (class_states o.states)) b
    ∙ rw (v, r, t, q, s)
  where
    made : Body → Variation → Runways → Temperatures → Qnh → RunwayStates → Observation
    made b v r t q s = set_body b (set_variation v (set_runways r (set_temperatures t (set_qnh q (set_states s o)))))

pub record ObservationRead (o : Observation) : Type 0 where
  pub head : judge_head o ≡ Ok tt
  pub nil : o.nil ≡ false
  pub fine : judge_observation o ≡ Ok tt
  pub own : class_observation o ≡ set_body (open_body o.body) o
  pub arrays : ObservationArrays o

observation-read : (o : Observation) → Left start stages o → ObservationRead o
unfolding judge_head judge_observation
observation-read o x = go (left-all start stages o x).1
  where
    go : Past stages o → ObservationRead o
    go (_, (_, (station, (time, (nil, (_, (wind, (variation, (visibility, (runways, (weather, (sky, (temperatures, (qnh, (recents, (states, (alone, _))))))))))))))))) =
        let t = observed o in
        let place = given-read StationRead _ o.station station in
        let degrees = given-read TemperaturesRead _ o.temperatures temperatures in
        let pressure = given-read QnhRead _ o.qnh qnh in
        let body = body-read t o.body wind visibility weather.0 weather.1 sky.0 sky.1 in
        record {
          head = rw (place.fine, (given-read TimeRead _ o.time time).fine);
          nil = nil;
          fine =
              rw (
                wind-fine t o.body wind,
                variation-fine o.variation variation,
                visibility-fine t o.body visibility,
                runways-fine runways.1,
                weather-fine t o.body weather.0 weather.1,
                (sky-left false (is_cavok o.body.visibility) sky.0 o.body.sky sky.1).fine,
                degrees.fine,
                pressure.fine,
                weathers-fine recents.1,
                states-fine states.1 alone,
              );
          own = observation-own o body.own (variation-own o.variation variation) (runways-own runways.1) degrees.own pressure.own (states-own states.1);
          arrays =
              record {
                letters = place.four;
                body = body.arrays;
                runways = filled-length runways.1.filled;
                recents = filled-length recents.1.filled;
                states = filled-length states.1.filled;
              };
        }

-- ---- THE METAR, whole so far, and at its end

record Whole (m : Metar) : Type 0 where
  observation : ObservationRead m.observation
  trend : trend.TrendHeld m.trend

pub record MetarRead (m : Metar) : Type 0 where
  pub fine : judge_of m ≡ Ok tt
  pub own : classed_of m ≡ open_metar m
  pub arrays : MetarArrays m

whole-fine : (nil blank : Bool) (h o t : Result ⊤ Refusal) → nil ≡ false → h ≡ Ok tt → o ≡ Ok tt → t ≡ Ok tt
    → and_then (judge (not nil || blank) true) (and_then h (cond nil (Ok tt) (and_then o t))) ≡ Ok tt
whole-fine nil blank h o t n a b c = rw (n, a, b, c)

whole-read : (m : Metar) → Whole m → MetarRead m
unfolding judge_of classed_of
whole-read m w =
    let o = w.observation in
    let t = trend.trend-arrays m.trend w.trend in
    record {
      fine = whole-fine m.observation.nil _ (judge_head m.observation) (judge_observation m.observation) (judge_trend m.trend) o.nil o.head o.fine (trend.trend-fine m.trend w.trend);
      own = rw (o.own, trend.trend-own m.trend w.trend);
      arrays = record { observation = o.arrays; trend = t.0; each = t.1 };
    }

nil-whole : (o : Observation) → NilRead o → MetarRead (record { observation = o; trend = blank_trend })
unfolding judge_of judge_head no_observation is_blank_body classed_of
nil-whole o n =
    let t = trend.trend-arrays blank_trend trend.no-trend in
    record {
      fine = rw (n.nil, n.automatic, n.body, n.variation, n.runways, n.temperatures, n.qnh, n.recents, n.states, n.station.fine) (rw n.time.fine);
      own = rw (observation-own o (rw n.body) (rw n.variation) (rw n.runways) (rw n.temperatures) (rw n.qnh) (rw n.states), trend.trend-own blank_trend trend.no-trend);
      arrays =
          record {
            observation = record { letters = n.station.four; body = rw n.body (record { weathers = refl; layers = refl }); runways = rw n.runways; recents = rw n.recents; states = rw n.states };
            trend = t.0;
            each = t.1;
          };
    }

-- ---- what opens a part of the trend: NOSIG where nothing stands, a change where NOSIG does not

abbrev Opened : Metar → Word → TrendChange → Type 0
Opened m w c = (c ≡ start_of w) × (m.trend.nosig ≡ false) × (is_change w ≡ false → m.trend.count ≡ 0)

opens-so : (m : Metar) (w : Word) → m.trend.nosig ≡ false → (is_change w ≡ false → m.trend.count ≡ 0) → Turns Whole MetarRead Opened m (opens-word w)
opens-so m w n c = opens (good (refl, n, c))

nosig-turns : (m : Metar) → Turns Whole MetarRead Opened m (nosig_after m.trend)
nosig-turns m = go m.trend.nosig refl (ltb 0 m.trend.count) refl
  where
    go : (b : Bool) → m.trend.nosig ≡ b → (c : Bool) → ltb 0 m.trend.count ≡ c
        → Turns Whole MetarRead Opened m (cond b (Bars refusal.Order) (cond c (Bars refusal.Disagreement) (opens-word word.Nosig)))
    go true n c e = bars
    go false n true e = bars
    go false n false e = opens-so m word.Nosig n (λ x. let z = ltb-false 0 m.trend.count e in omega (arith, z))

change-turns : (m : Metar) (g : Group) → Turns Whole MetarRead Opened m (change_after m.trend g)
change-turns m g = go m.trend.nosig refl (has_pattern g (bytes "BECMG"))
  where
    go : (b : Bool) → m.trend.nosig ≡ b → (c : Bool) → Turns Whole MetarRead Opened m (cond b (Bars refusal.Disagreement) (opens-word (cond c word.Becoming word.Temporary)))
    go true n c = bars
    go false n true = opens-so m word.Becoming n (λ x. absurd (false≢true (sym x)))
    go false n false = opens-so m word.Temporary n (λ x. absurd (false≢true (sym x)))

turns : (m : Metar) (g : Group) → Turns Whole MetarRead Opened m (comes_to m.trend g)
unfolding comes_to
turns m g = go (has_any stop_words g) (has_pattern g (bytes "NOSIG"))
  where
    go : (a b : Bool) → Turns Whole MetarRead Opened m (cond a Ends (cond b (nosig_after m.trend) (change_after m.trend g)))
    go true b = ends
    go false true = nosig-turns m
    go false false = change-turns m g

-- ---- the parts

taken_in : (m : Metar) (w : Word) (c : TrendChange) → Whole m → m.trend.nosig ≡ false → (is_change w ≡ false → m.trend.count ≡ 0)
    → (is_change w ≡ true → trend.ChangeRead c) → Whole (record { observation = m.observation; trend = taking w m.trend c })
taken_in m word.Nosig c w n alone r = record { observation = w.observation; trend = record { filled = w.trend.filled; alone = λ e. alone refl } }
taken_in m word.Becoming c w n alone r = record { observation = w.observation; trend = trend.change-added m.trend c w.trend n (r refl) }
taken_in m word.Temporary c w n alone r = record { observation = w.observation; trend = trend.change-added m.trend c w.trend n (r refl) }

part-leaves : (m : Metar) (w : Word) (c : TrendChange) → Whole m → Opened m w c → Leaves Whole MetarRead Opened (part_after m w) c
part-leaves m w c h (is, n, alone) =
    record {
      over = trend.never;
      before = trend.Begun w;
      stages = trend.stages (is_change w);
      serves = trend.serves w (is_change w);
      begins = rw is (trend.begins-at w (is_change w));
      whole = λ q x e. taken_in m w q h n alone (λ change. trend.change-read w (is_change w) q change x e);
      ended = λ q e. absurd e;
      word = λ u g f k. turns u g;
    }

main-leaves : Leaves Whole MetarRead Opened main_part blank_observation
main-leaves =
    record {
      over = NilRead;
      before = start;
      stages = stages;
      serves = serves;
      begins = begins-at;
      whole = λ o x e. record { observation = observation-read o x; trend = trend.no-trend };
      ended = nil-whole;
      word = λ u g f k. turns u g;
    }

-- WHATEVER METAR OR SPECI IS ACCEPTED IS JUDGED FINE, AND COMES BACK WITH ITS SPEEDS OPENED.
pub metar-read : (tail : Option ℕ) (end : ℕ) (gs : List Piece) → Comes MetarRead (groups_read tail end gs)
unfolding groups_read
metar-read tail end gs =
    report-leaves Whole MetarRead Opened tail end parts whole-read part-leaves (λ m w c g o e. absurd (false≢true e)) 3 main_part blank_observation main-leaves gs
