-- What METAR, SPECI and TAF share: THE CAUSES for which the writer refuses a station, a time, and the body of an observation, of a trend's change or of a TAF's
-- part, in the order of judging. What they are a part of names their fields (`at`).
-- Assumes nothing.
use Rattle.std.specs.Prelude.{Err, None, Option, Some}
use Prim.Native.Nat.{ℕ, ◌+◌}
use mathlib.Core.Path.{◌≡◌, refl}
use mathlib.Core.Bool.{Bool, true, false, cond, not, ◌&&◌, ◌||◌}
use mathlib.Core.List.{List, [], ◌∷◌, ◌++◌}
use lib.ListN.{length, take, drop}
use lib.Dec.{leb, eqb}
use borrow.Author.Tests.{eqb-true}
use Rattle.figures.specs.Figures.{is_letter, every}
use Rattle.text.specs.declared.kinds.Refusal.TheVariants as refusal
use Rattle.text.specs.Judge.{judge, and_then}
use Rattle.shapes.proofs.Patterns.{both}
use Rattle.record.specs.declared.values.Direction.{Direction}
use Rattle.record.specs.declared.values.Direction.TheVariants as direction
use Rattle.record.specs.declared.values.Speed.{Speed}
use Rattle.record.specs.declared.values.Speed.TheVariants as speed
use Rattle.record.specs.declared.aerodrome.Station.{Station}
use Rattle.record.specs.declared.aerodrome.Instant.{Instant}
use Rattle.record.specs.declared.aerodrome.Unit.{Unit}
use Rattle.record.specs.declared.aerodrome.Wind.{Wind}
use Rattle.record.specs.declared.aerodrome.View.{View}
use Rattle.record.specs.declared.aerodrome.View.TheVariants as view
use Rattle.record.specs.declared.aerodrome.Visibility.{Visibility}
use Rattle.record.specs.declared.aerodrome.Phenomena.{Phenomena}
use Rattle.record.specs.declared.aerodrome.Weather.{Weather}
use Rattle.record.specs.declared.aerodrome.Weathers.{Weathers}
use Rattle.record.specs.declared.aerodrome.Cover.{Cover}
use Rattle.record.specs.declared.aerodrome.Cover.TheVariants as cover
use Rattle.record.specs.declared.aerodrome.Layer.{Layer}
use Rattle.record.specs.declared.aerodrome.Sky.{Sky}
use Rattle.record.specs.declared.aerodrome.Body.{Body}
use Rattle.record.specs.Missing.{no_speed, no_letters}
use Rattle.record.specs.SilentAerodrome.{no_station, is_blank_weather, is_blank_layer, is_blank_wind, no_view, is_layers}
use Rattle.elements.specs.Judge.{metres_fit}
use Rattle.aerodrome_groups.specs.Head.{is_day, is_hour, is_minute, instant_fits, judge_station, judge_time}
use Rattle.elements.specs.Wind.{last_exact, class_speed, wind_agrees, has_unit, most_speed, speed_fits, gust_fits, wind_fits, judge_wind}
use Rattle.elements.specs.Visibility.{is_cavok, view_fits, judge_visibility}
use Rattle.elements.specs.Weather.{phenomena_fit, has_unknown, three_fit, judge_weather, judge_each, judge_weathers}
use Rattle.elements.specs.Sky.{rises, cover_fits, has_amount, written_height, class_layer, judge_layers, judge_sky}
use Rattle.elements.specs.Body.{Terms, wind_judged, visibility_judged, nsw_agrees, weather_judged, sky_judged, judge_body}
use Rattle.report_laws.proofs.Listed.{outside-its-range, required-missing, half-of-a-pair, disagreeing, Asked, asked, unless, needed, named, Judges, Clears, group-judges, value-judges, in-turn, chosen, no-cause, no_test, both-clear, clear-unless, clear-asked, clear-needed, clear-named, each_from, counted, count-clear}

-- ---- the head

pub data InstantField : Type 0 where
  day : InstantField
  hour : InstantField
  minute : InstantField

-- four letters
abbrev station_right : Station → Bool
station_right s = eqb (length s.letters) 4 && every is_letter s.letters

module _ {F : Type 0} where
  abbrev pub station_causes : F → Station → List (Asked F)
  station_causes f s = named f (no_station s) (station_right s)

  pub station-judged : (f : F) (s : Station) → Judges (judge_station s) (station_causes f s)
  unfolding judge_station
  station-judged f s = value-judges (clear-named (no_station s) (station_right s) (go s.letters))
    where
      fails : (b : Bool) → (b && false) ≡ false
      fails true = refl
      fails false = refl

      go : (l : List ℕ) → no_letters l ≡ true → (eqb (length l) 4 && every is_letter l) ≡ false
      go [] e = refl
      go (x ∷ xs) e = rw (eqb-true x 0 (both (eqb x 0) (no_letters xs) e).0) (fails (eqb (length (x ∷ xs)) 4))

module _ {F : Type 0} (at : InstantField → F) where
  abbrev pub instant_causes : Instant → List (Asked F)
  instant_causes t = (needed (at day) is_day t.day ++ needed (at hour) is_hour t.hour) ++ needed (at minute) is_minute t.minute

  pub instant-clear : (t : Instant) → Clears refusal.Value (instant_fits t) (instant_causes t)
  instant-clear t = both-clear (both-clear (clear-needed is_day t.day) (clear-needed is_hour t.hour)) (clear-needed is_minute t.minute)

  pub time-judged : (t : Instant) → Judges (judge_time t) (instant_causes t)
  unfolding judge_time
  time-judged t = value-judges (instant-clear t)

-- ---- the body

-- the fields of a body; a weather and a layer by their number, from 0
pub data BodyField : Type 0 where
  wind-unit : BodyField
  wind-direction : BodyField
  wind-speed : BodyField
  gust : BodyField
  wind : BodyField
  visibility : BodyField
  weathers : BodyField
  nsw : BodyField
  weather : ℕ → BodyField
  layers : BodyField
  cloud-cover : BodyField
  amount-of-layer : ℕ → BodyField
  height-of-layer : ℕ → BodyField
  layer : ℕ → BodyField

-- where the second of two tests fails, the first decides
fails-or : (a b : Bool) → (a || (b && false)) ≡ a
fails-or true b = refl
fails-or false true = refl
fails-or false false = refl

module _ {F : Type 0} (at : BodyField → F) where
  abbrev Causes : Type 0
  Causes = List (Asked F)

  -- ---- metres: in a forecast not missing

  abbrev metres_causes : Bool → BodyField → Option ℕ → Causes
  metres_causes forecast f None = asked (required-missing (at f)) forecast ∷ []
  metres_causes forecast f (Some m) = unless (leb m 99999) (outside-its-range (at f))

  metres-clear : (forecast : Bool) (f : BodyField) (n : Option ℕ) → Clears refusal.Value (metres_fit forecast n) (metres_causes forecast f n)
  metres-clear forecast f None = clear-asked forecast
  metres-clear forecast f (Some m) = clear-unless (leb m 99999)

  -- ---- wind

  -- the speed beside a direction: it is there, and in its unit's range
  abbrev speed_causes : Unit → Speed → Causes
  speed_causes u speed.Missing = asked (half-of-a-pair (at wind)) true ∷ []
  speed_causes u (speed.Is s) = unless (leb s (most_speed u)) (outside-its-range (at wind-speed))
  speed_causes u (speed.Above s) = unless (eqb s (last_exact u)) (outside-its-range (at wind-speed))

  speed-clear : (u : Unit) (s : Speed) → Clears refusal.Value (speed_fits u s) (speed_causes u s)
  speed-clear u speed.Missing = clear-asked true
  speed-clear u (speed.Is s) = clear-unless (leb s (most_speed u))
  speed-clear u (speed.Above s) = clear-unless (eqb s (last_exact u))

  -- a wind that is missing, which it may not be in a forecast, has no speed and no gust
  abbrev flow_causes : Bool → Unit → Direction → Speed → Speed → Causes
  flow_causes forecast u direction.Missing s g =
      ((asked (required-missing (at wind)) forecast ∷ []) ++ unless (no_speed s) (half-of-a-pair (at wind))) ++ unless (no_speed g) (half-of-a-pair (at gust))
  flow_causes forecast u direction.Calm s g = speed_causes u s ++ unless (gust_fits u g) (outside-its-range (at gust))
  flow_causes forecast u direction.Variable s g = speed_causes u s ++ unless (gust_fits u g) (outside-its-range (at gust))
  flow_causes forecast u (direction.Degrees d) s g =
      (unless (leb d 359) (outside-its-range (at wind-direction)) ++ speed_causes u s) ++ unless (gust_fits u g) (outside-its-range (at gust))

  flow-clear : (forecast : Bool) (u : Unit) (d : Direction) (s g : Speed) → Clears refusal.Value (wind_fits forecast u d s g) (flow_causes forecast u d s g)
  flow-clear forecast u direction.Missing s g = both-clear (both-clear (clear-asked forecast) (clear-unless (no_speed s))) (clear-unless (no_speed g))
  flow-clear forecast u direction.Calm s g = both-clear (speed-clear u s) (clear-unless (gust_fits u g))
  flow-clear forecast u direction.Variable s g = both-clear (speed-clear u s) (clear-unless (gust_fits u g))
  flow-clear forecast u (direction.Degrees d) s g = both-clear (both-clear (clear-unless (leb d 359)) (speed-clear u s)) (clear-unless (gust_fits u g))

  -- "agreement being judged on the figures it would write"
  abbrev pub wind_causes : Bool → Wind → Causes
  wind_causes forecast w =
      (unless (has_unit w.unit) (required-missing (at wind-unit)) ++ flow_causes forecast w.unit w.direction w.speed w.gust)
      ++ unless (wind_agrees w.direction (class_speed w.unit w.speed) (class_speed w.unit w.gust)) (disagreeing (at wind))

  wind-judged : (forecast : Bool) (w : Wind) → Judges (judge_wind forecast w) (wind_causes forecast w)
  unfolding judge_wind
  wind-judged forecast w =
      group-judges (both-clear (clear-unless (has_unit w.unit)) (flow-clear forecast w.unit w.direction w.speed w.gust))
      (clear-unless {c = disagreeing (at wind)} (wind_agrees w.direction (class_speed w.unit w.speed) (class_speed w.unit w.gust)))

  -- ---- visibility

  abbrev visibility_causes : Bool → View → Causes
  visibility_causes forecast view.Missing = asked (required-missing (at visibility)) forecast ∷ []
  visibility_causes forecast view.Cavok = []
  visibility_causes forecast (view.Metres m) = unless (leb m 99999) (outside-its-range (at visibility))

  visibility-judged : (forecast : Bool) (v : Visibility) → Judges (judge_visibility forecast v) (visibility_causes forecast v.is)
  unfolding judge_visibility
  visibility-judged forecast v = go v.is
    where
      go : (x : View) → Judges (judge (view_fits forecast x) true) (visibility_causes forecast x)
      go view.Missing = value-judges (clear-asked forecast)
      go view.Cavok = no-cause
      go (view.Metres m) = value-judges (clear-unless (leb m 99999))

  -- ---- weather: // is none in a forecast; beside CAVOK or NSW no weather stands, and UP without AUTO does not

  abbrev phenomena_causes : Bool → ℕ → Option Phenomena → Causes
  phenomena_causes forecast n None = asked (required-missing (at (weather n))) forecast ∷ []
  phenomena_causes forecast n (Some x) = unless (phenomena_fit (Some x)) (outside-its-range (at (weather n)))

  abbrev weather_causes : Bool → Bool → Bool → ℕ → Weather → Causes
  weather_causes forecast automatic beside n w =
      phenomena_causes forecast n w.is ++ ((asked (disagreeing (at (weather n))) beside ∷ []) ++ unless (automatic || not (has_unknown w.is)) (disagreeing (at (weather n))))

  weather-judged : (forecast automatic beside : Bool) (n : ℕ) (w : Weather) → Judges (judge_weather forecast automatic beside w) (weather_causes forecast automatic beside n w)
  unfolding judge_weather
  weather-judged forecast automatic beside n w =
      group-judges (go w.is) (both-clear (clear-asked {c = disagreeing (at (weather n))} beside) (clear-unless {c = disagreeing (at (weather n))} (automatic || not (has_unknown w.is))))
    where
      missing : (b : Bool) → (false || (not b && true)) ≡ not b
      missing true = refl
      missing false = refl

      go : (x : Option Phenomena) → Clears refusal.Value (phenomena_fit x || (not forecast && is_blank_weather (record { is = x }))) (phenomena_causes forecast n x)
      go None = rw (missing forecast) (clear-asked forecast)
      go (Some x) = rw (fails-or (phenomena_fit (Some x)) (not forecast)) (clear-unless (phenomena_fit (Some x)))

  -- up to three: the count, NSW, then each weather group
  abbrev three_causes : Weathers → Causes
  three_causes ws = counted (at weathers) (leb ws.count 3) (every is_blank_weather (drop ws.count ws.items))

  each-weather : (forecast automatic beside : Bool) (n : ℕ) (ws : List Weather)
      → Judges (judge_each (judge_weather forecast automatic beside) ws) (each_from (weather_causes forecast automatic beside) n ws)
  each-weather forecast automatic beside n [] = no-cause
  each-weather forecast automatic beside n (w ∷ ws) = in-turn (weather-judged forecast automatic beside n w) (each-weather forecast automatic beside (n + 1) ws)

  abbrev weathers_causes : Terms → Body → Causes
  weathers_causes t b =
      three_causes b.weathers
      ++ (unless (nsw_agrees t b) (disagreeing (at nsw))
      ++ each_from (weather_causes t.forecast t.automatic (is_cavok b.visibility || b.nsw)) 0 (take b.weathers.count b.weathers.items))

  three-judged : (ws : Weathers) → Judges (judge (three_fit ws) true) (three_causes ws)
  three-judged ws = value-judges (count-clear (leb ws.count 3) (every is_blank_weather (drop ws.count ws.items)))

  weathers-judged : (t : Terms) (b : Body) → Judges (weather_judged t b) (weathers_causes t b)
  unfolding judge_weathers
  weathers-judged t b = go (nsw_agrees t b)
    where
      beside : Bool
      beside = is_cavok b.visibility || b.nsw

      ws : List Weather
      ws = take b.weathers.count b.weathers.items

      first : (v : Bool) → judge v false ≡ and_then (judge v true) (Err refusal.Disagreement)
      first true = refl
      first false = refl

      go : (agrees : Bool)
          → Judges (cond agrees (judge_weathers (judge_weather t.forecast t.automatic beside) b.weathers) (judge (three_fit b.weathers) false))
          (three_causes b.weathers ++ (unless agrees (disagreeing (at nsw)) ++ each_from (weather_causes t.forecast t.automatic beside) 0 ws))
      go true = in-turn (three-judged b.weathers) (record { is = (each-weather t.forecast t.automatic beside 0 ws).is })
      go false = rw (first (three_fit b.weathers)) (in-turn (three-judged b.weathers) (record { is = refl }))

  -- ---- the sky: count, cover, layers

  abbrev cover_causes : Bool → Cover → Causes
  cover_causes forecast cover.Layers = []
  cover_causes forecast cover.Clear = []
  cover_causes forecast cover.NoneSignificant = []
  cover_causes forecast cover.NoneDetected = []
  cover_causes forecast (cover.Vertical h) = metres_causes forecast cloud-cover h

  cover-clear : (forecast : Bool) (c : Cover) → Clears refusal.Value (cover_fits forecast c) (cover_causes forecast c)
  cover-clear forecast cover.Layers = no_test
  cover-clear forecast cover.Clear = no_test
  cover-clear forecast cover.NoneSignificant = no_test
  cover-clear forecast cover.NoneDetected = no_test
  cover-clear forecast (cover.Vertical h) = metres-clear forecast cloud-cover h

  -- a layer, after those before it as they would be written: beside CAVOK, SKC, NSC, NCD or VVhhh none stands, and heights do not fall
  abbrev layer_causes : Bool → Bool → List Layer → ℕ → Layer → Causes
  layer_causes forecast beside before n l =
      (unless (has_amount l.amount) (required-missing (at (amount-of-layer n))) ++ metres_causes forecast (height-of-layer n) l.height)
      ++ ((asked (disagreeing (at (layer n))) beside ∷ []) ++ unless (rises before (written_height l.height)) (disagreeing (at (layer n))))

  abbrev layers_causes : Bool → Bool → List Layer → ℕ → List Layer → Causes
  layers_causes forecast beside before n [] = []
  layers_causes forecast beside before n (l ∷ ls) = layer_causes forecast beside before n l ++ layers_causes forecast beside (before ++ (class_layer l ∷ [])) (n + 1) ls

  layers-judged : (forecast beside : Bool) (before : List Layer) (n : ℕ) (ls : List Layer) → Judges (judge_layers forecast beside before ls) (layers_causes forecast beside before n ls)
  layers-judged forecast beside before n [] = no-cause
  layers-judged forecast beside before n (l ∷ ls) =
      in-turn
      (group-judges (both-clear (clear-unless (has_amount l.amount)) (metres-clear forecast (height-of-layer n) l.height))
      (both-clear (clear-asked {c = disagreeing (at (layer n))} beside) (clear-unless {c = disagreeing (at (layer n))} (rises before (written_height l.height)))))
      (layers-judged forecast beside (before ++ (class_layer l ∷ [])) (n + 1) ls)

  abbrev sky_causes : Bool → Bool → Sky → Causes
  sky_causes forecast cavok s =
      counted (at layers) (leb s.count 4) (every is_blank_layer (drop s.count s.layers))
      ++ ((cover_causes forecast s.cover ++ unless (not cavok || is_layers s.cover) (disagreeing (at cloud-cover)))
      ++ layers_causes forecast (cavok || not (is_layers s.cover)) [] 0 (take s.count s.layers))

  sky-judged : (forecast cavok : Bool) (s : Sky) → Judges (judge_sky forecast cavok s) (sky_causes forecast cavok s)
  unfolding judge_sky
  sky-judged forecast cavok s =
      in-turn (value-judges (count-clear (leb s.count 4) (every is_blank_layer (drop s.count s.layers))))
      (in-turn (group-judges (cover-clear forecast s.cover) (clear-unless {c = disagreeing (at cloud-cover)} (not cavok || is_layers s.cover)))
      (layers-judged forecast (cavok || not (is_layers s.cover)) [] 0 (take s.count s.layers)))

  -- ---- the body, in written order; a wind or visibility that need not stand and is blank has no cause

  abbrev pub wind_of : Terms → Body → Causes
  wind_of t b = cond (not t.required && is_blank_wind b.wind) [] (wind_causes t.forecast b.wind)

  pub wind-of : (t : Terms) (b : Body) → Judges (wind_judged t b) (wind_of t b)
  wind-of t b = chosen (not t.required && is_blank_wind b.wind) no-cause (wind-judged t.forecast b.wind)

  abbrev pub visibility_of : Terms → Body → Causes
  visibility_of t b = cond (not t.required && no_view b.visibility.is) [] (visibility_causes t.forecast b.visibility.is)

  pub visibility-of : (t : Terms) (b : Body) → Judges (visibility_judged t b) (visibility_of t b)
  visibility-of t b = chosen (not t.required && no_view b.visibility.is) no-cause (visibility-judged t.forecast b.visibility)

  abbrev pub weather_of : Terms → Body → Causes
  weather_of t b = weathers_causes t b

  pub weather-of : (t : Terms) (b : Body) → Judges (weather_judged t b) (weather_of t b)
  weather-of t b = weathers-judged t b

  abbrev pub sky_of : Terms → Body → Causes
  sky_of t b = sky_causes t.forecast (is_cavok b.visibility) b.sky

  pub sky-of : (t : Terms) (b : Body) → Judges (sky_judged t b) (sky_of t b)
  sky-of t b = sky-judged t.forecast (is_cavok b.visibility) b.sky

  abbrev pub body_causes : Terms → Body → Causes
  body_causes t b = wind_of t b ++ (visibility_of t b ++ (weather_of t b ++ sky_of t b))

  pub body-judged : (t : Terms) (b : Body) → Judges (judge_body t b) (body_causes t b)
  unfolding judge_body
  body-judged t b = in-turn (wind-of t b) (in-turn (visibility-of t b) (in-turn (weather-of t b) (sky-of t b)))
