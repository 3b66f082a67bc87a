-- What each place of a body does to it: its own element is what the group says, and the others stay.
-- Assumes nothing.
use Rattle.std.specs.Prelude.{Err, Ok, Result}
use Rattle.text.specs.declared.kinds.Refusal.{Refusal}
use Prim.Native.Nat.{ℕ, ◌+◌, ◌<◌}
use mathlib.Core.Path.{◌≡◌, refl, sym, ap, subst, ◌∙◌}
use mathlib.Core.Bool.{Bool, true, false, cond, not, ◌&&◌, false≢true}
use lib.ListN.{length, take, set, length-set}
use lib.Seq.{get_or-set_same, get_or-set_other}
use lib.Dec.{eqb, ltb}
use borrow.Author.Tests.{eqb-true, eqb-false, lt-ltb}
use Rattle.figures.proofs.Impossible.{impossible}
use Rattle.shapes.specs.Shape.{has_shape}
use Rattle.places.specs.Engine.{Group, then}
use Rattle.record.specs.declared.aerodrome.Weather.{Weather}
use Rattle.record.specs.declared.aerodrome.Cover.{Cover}
use Rattle.record.specs.declared.aerodrome.Cover.TheVariants as cover
use Rattle.record.specs.declared.aerodrome.Layer.{Layer}
use Rattle.record.specs.declared.aerodrome.Sky.{Sky}
use Rattle.record.specs.declared.aerodrome.Body.{Body}
use Rattle.record.specs.Body.{blank_weather, blank_layer, set_weathers, set_nsw, set_sky}
use Rattle.record.specs.SilentAerodrome.{is_layers}
use Rattle.elements.specs.Parts.{agreeing}
use Rattle.elements.specs.Visibility.{is_cavok}
use Rattle.elements.specs.Weather.{read_weather, with_weather}
use Rattle.elements.specs.Sky.{layer_shape, read_layer, read_alone, rises, add_layer, layer_agrees, with_layer, alone_agrees, with_alone, read_sky}
use Rattle.elements.specs.Body.{Terms, is_nsw, beside_others, nsw_stands, read_weather_or_nsw, weather_place}
use Rattle.sources.proofs.Fields.{then-good, then-bind}
use Rattle.body_sources.specs.Items.{weather_at, WeatherSaid, no-weather, a-weather, sky_at, SkySaid, a-layer, a-cover}

pub agreed : {A : Type 0} (b : Bool) (x y : A) → agreeing b (Ok x) ≡ Ok y → (b ≡ true) × (y ≡ x)
agreed true x y e = (refl, cc)
agreed false x y e = impossible (cc)

-- what is read into a body, and the body into the record that it stands in
pub in_body : {R A : Type 0} (within : Body → R) (b : Body) (x : Result A Refusal) (f : A → Body → Body) (r : R) → then (then x (λ v. Ok (f v b))) (λ c. Ok (within c)) ≡ Ok r
    → (v : A) × (x ≡ Ok v) × (r ≡ within (f v b))
in_body within b x f r e =
    let (c, good, same) = then-good (then x (λ v. Ok (f v b))) within r e in
    let (v, is, put) = then-good x (λ v. f v b) c good in
    (v, is, same ∙ ap within put)

-- ---- weather

module _ (t : Terms) (k : ℕ) (g : Group) (b : Body) where
  -- NSW, or one more weather
  pub data WeatherDone : Body → Type 0 where
    with-nsw : is_nsw g ≡ true → k ≡ 0 → WeatherDone (set_nsw true b)
    with-weather : (w : Weather) → is_nsw g ≡ false → read_weather t.forecast t.automatic g ≡ Ok w → WeatherDone (set_weathers (with_weather k b.weathers w) b)

  beside-good : (x : Result Weather Refusal) (w : Weather) → beside_others b x ≡ Ok w → x ≡ Ok w
  beside-good (Ok v) w e = ap Ok (sym (agreed (not (is_cavok b.visibility) && not b.nsw) v w e).1)
  beside-good (Err f) w e = impossible (cc)

  nsw-first : (m c : Bool) → (m && eqb k 0 && c) ≡ true → k ≡ 0
  nsw-first true c e = go (eqb k 0) refl e
    where
      go : (z : Bool) → eqb k 0 ≡ z → (z && c) ≡ true → k ≡ 0
      go true is e = eqb-true k 0 is
      go false is e = absurd (false≢true e)
  nsw-first false c e = absurd (false≢true e)

  pub weather-done : (b' : Body) → (weather_place t).read k g b ≡ Ok b' → WeatherDone b'
  unfolding read_weather_or_nsw
  weather-done b' e = go (is_nsw g) refl e
    where
      go : (n : Bool) → is_nsw g ≡ n
          → cond n (agreeing (nsw_stands t k b.visibility) (Ok (set_nsw true b)))
          (then (beside_others b (read_weather t.forecast t.automatic g)) (λ w. Ok (set_weathers (with_weather k b.weathers w) b))) ≡ Ok b' → WeatherDone b'
      go true is e =
          let (a, same) = agreed (nsw_stands t k b.visibility) (set_nsw true b) b' e in
          subst WeatherDone (sym same) (with-nsw is (nsw-first t.may_nsw (not (is_cavok b.visibility)) a))
      go false is e =
          let (w, good, same) = then-good (beside_others b (read_weather t.forecast t.automatic g)) (λ w. set_weathers (with_weather k b.weathers w) b) b' e in
          subst WeatherDone (sym same) (with-weather w is (beside-good (read_weather t.forecast t.automatic g) w good))

module _ (t : Terms) (g : Group) (b : Body) where
  -- the k-th weather group says the k-th item
  pub weather-tells : (k : ℕ) {b' : Body} → k < 3 → length b.weathers.items ≡ 3 → WeatherDone t k g b b' → WeatherSaid t.forecast g (weather_at k b')
  weather-tells k few fair (with-nsw is first) = rw first (no-weather is)
  weather-tells k few fair (with-weather w is reads) =
      rw (lt-ltb k 3 few, get_or-set_same b.weathers.items k w blank_weather (rw fair few)) (a-weather t.automatic is reads)

  -- and another group leaves it as it was
  pub weather-others : (k n : ℕ) {b' : Body} → n < 3 → eqb k n ≡ false → WeatherDone t n g b b' → weather_at k b' ≡ weather_at k b
  weather-others k n few o (with-nsw is first) = rw (rw first at o)
  weather-others k n few o (with-weather w is reads) = rw (lt-ltb n 3 few, get_or-set_other b.weathers.items n k w blank_weather (eqb-false k n o))

  pub weather-stays : (n : ℕ) {b' : Body} → length b.weathers.items ≡ 3 → WeatherDone t n g b b' → length b'.weathers.items ≡ 3
  weather-stays n fair (with-nsw is first) = fair
  weather-stays n fair (with-weather w is reads) = go (ltb n 3)
    where
      go : (z : Bool) → length (cond z (record { items = set b.weathers.items n w; count = n + 1 }) b.weathers).items ≡ 3
      go true = length-set b.weathers.items n w ∙ fair
      go false = fair

-- ---- clouds

module _ (forecast cavok : Bool) (k : ℕ) (g : Group) (s : Sky) where
  pub data SkyDone : Sky → Type 0 where
    with-layer : (l : Layer) → has_shape layer_shape g ≡ true → read_layer forecast g ≡ Ok l → is_layers s.cover ≡ true → SkyDone (add_layer k s l)
    with-cover : (c : Cover) → has_shape layer_shape g ≡ false → read_alone forecast g ≡ Ok c → k ≡ 0 → SkyDone (record { cover = c; layers = s.layers; count = 0 })

  and-three : (x y z : Bool) → (x && y && z) ≡ true → y ≡ true
  and-three true true z e = refl
  and-three true false z e = absurd (false≢true e)
  and-three false y z e = absurd (false≢true e)

  first_alone : (x : Bool) → (x && eqb k 0) ≡ true → k ≡ 0
  first_alone true e = eqb-true k 0 e
  first_alone false e = absurd (false≢true e)

  pub sky-done : (s' : Sky) → read_sky forecast cavok k g s ≡ Ok s' → SkyDone s'
  unfolding read_sky
  sky-done s' e = go (has_shape layer_shape g) refl e
    where
      go : (h : Bool) → has_shape layer_shape g ≡ h
          → cond h (then (read_layer forecast g) (with_layer cavok k s)) (then (read_alone forecast g) (with_alone cavok k s)) ≡ Ok s' → SkyDone s'
      go true is e =
          let (l, reads, put) = then-bind (read_layer forecast g) (with_layer cavok k s) s' e in
          let (a, same) = agreed (layer_agrees cavok k s l) (add_layer k s l) s' put in
          subst SkyDone (sym same) (with-layer l is reads (and-three (not cavok) (is_layers s.cover) (rises (take k s.layers) l.height) a))
      go false is e =
          let (c, reads, put) = then-bind (read_alone forecast g) (with_alone cavok k s) s' e in
          let (a, same) = agreed (alone_agrees cavok k) (record { cover = c; layers = s.layers; count = 0 }) s' put in
          subst SkyDone (sym same) (with-cover c is reads (first_alone (not cavok) a))

layers-only : (c : Cover) → is_layers c ≡ true → cover.Layers ≡ c
layers-only cover.Layers e = refl
layers-only cover.Clear e = absurd (false≢true e)
layers-only cover.NoneSignificant e = absurd (false≢true e)
layers-only cover.NoneDetected e = absurd (false≢true e)
layers-only (cover.Vertical n) e = absurd (false≢true e)

module _ (forecast cavok : Bool) (g : Group) (b : Body) where
  either : (z : Bool) → cond z cover.Layers cover.Layers ≡ cover.Layers
  either true = refl
  either false = refl

  pub sky-tells : (k : ℕ) {s' : Sky} → k < 4 → length b.sky.layers ≡ 4 → SkyDone forecast cavok k g b.sky s' → SkySaid forecast g (sky_at k (set_sky s' b))
  sky-tells k few fair (with-layer l is reads agrees) =
      rw (lt-ltb k 4 few, get_or-set_same b.sky.layers k l blank_layer (rw fair few), either (eqb k 0)) (a-layer is reads)
  sky-tells k few fair (with-cover c is reads first) = rw first (a-cover is reads)

  pub sky-others : (k n : ℕ) {s' : Sky} → n < 4 → eqb k n ≡ false → SkyDone forecast cavok n g b.sky s' → sky_at k (set_sky s' b) ≡ sky_at k b
  sky-others k n few o (with-layer l is reads agrees) =
      rw (lt-ltb n 4 few, get_or-set_other b.sky.layers n k l blank_layer (eqb-false k n o), layers-only b.sky.cover agrees)
  sky-others k n few o (with-cover c is reads first) = rw (rw first at o)

  pub sky-stays : (n : ℕ) {s' : Sky} → length b.sky.layers ≡ 4 → SkyDone forecast cavok n g b.sky s' → length s'.layers ≡ 4
  sky-stays n fair (with-layer l is reads agrees) = go (ltb n 4)
    where
      go : (z : Bool) → length (cond z (record { cover = cover.Layers; layers = set b.sky.layers n l; count = n + 1 }) b.sky).layers ≡ 4
      go true = length-set b.sky.layers n l ∙ fair
      go false = fair
  sky-stays n fair (with-cover c is reads first) = fair
