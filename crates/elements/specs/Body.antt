-- THE BODY: wind, visibility or CAVOK, weather or NSW, clouds. METAR's row has these places, and so has the row of a trend's change, of a TAF's main part
-- and of each of its changes: they are defined once, over the body, with what differs as terms.
-- Assumes nothing: these are definitions.
use Rattle.std.specs.Prelude.{⊤, ℕ, Bool, true, false, cond, not, ◌&&◌, ◌||◌, List, [], ◌∷◌, ◌++◌, ltb, eqb, Err, Ok, Result}
use Rattle.text.specs.declared.kinds.Refusal.{Refusal}
use Rattle.figures.specs.Quote.{bytes}
use Rattle.text.specs.Judge.{judge, and_then}
use Rattle.shapes.specs.Pattern.{Pattern, has_pattern, has_any}
use Rattle.shapes.specs.Shape.{has_shape, parts_of, spellings}
use Rattle.places.specs.Engine.{Group, Place}
use Rattle.record.specs.declared.aerodrome.Visibility.{Visibility}
use Rattle.record.specs.declared.aerodrome.Weather.{Weather}
use Rattle.record.specs.declared.aerodrome.Body.{Body}
use Rattle.record.specs.Body.{set_wind, set_visibility, set_weathers, set_nsw, set_sky}
use Rattle.record.specs.SilentAerodrome.{is_blank_wind, no_view, is_layers}
use Rattle.elements.specs.Parts.{agreeing, then}
use Rattle.elements.specs.Wind.{wind_shape, read_wind, show_wind, has_unit, judge_wind, class_wind}
use Rattle.elements.specs.Visibility.{visibility_shapes, read_visibility, is_cavok, show_visibility, judge_visibility, class_visibility}
use Rattle.elements.specs.Weather.{weather_cover, weather_spoken, has_weather, read_weather, with_weather, show_weathers, judge_weather, three_fit, judge_weathers}
use Rattle.elements.specs.Sky.{layer_shape, alone_shapes, has_sky, read_sky, show_sky, judge_sky, class_sky}

-- What differs where a body stands.
pub record Terms : Type 0 where
  -- a forecast: the missing forms are 5, and what is blank is not written
  pub forecast : Bool
  -- wind and visibility must stand
  pub required : Bool
  -- NSW may stand, "only in change bodies (else 7)"
  pub may_nsw : Bool
  -- UP may stand: "UP without AUTO is 7."
  pub automatic : Bool
  -- nothing is written, in a NIL report
  pub silent : Bool

-- the body of a change, in a trend as under BECMG and TEMPO in a TAF: "They obey the TAF's TEMPO body's rules, UP being 7 under AUTO too"
abbrev pub changing : Terms
changing = record { forecast = true; required = false; may_nsw = true; automatic = false; silent = false }

-- a wind or visibility that is not written: in a forecast one that is blank
abbrev pub left_out : Terms → Bool → Bool
left_out t blank = cond t.forecast blank t.silent

-- ---- wind and visibility

abbrev pub wind_place : Terms → Place Body
wind_place t =
    record {
      has = has_shape wind_shape;
      cover = spellings (parts_of wind_shape);
      spoken = spellings (parts_of wind_shape);
      most = 1;
      must = t.required;
      ends = false;
      read = λ k g b. then (read_wind t.forecast g) (λ x. Ok (set_wind x b));
      show = λ b. cond (left_out t (is_blank_wind b.wind)) [] (show_wind b.wind ∷ []);
      put = λ b acc. set_wind (class_wind b.wind) acc;
    }

abbrev pub visibility_place : Terms → Place Body
visibility_place t =
    record {
      has = has_any visibility_shapes;
      cover = visibility_shapes;
      spoken = visibility_shapes;
      most = 1;
      must = t.required;
      ends = false;
      read = λ k g b. then (read_visibility t.forecast g) (λ x. Ok (set_visibility x b));
      show = λ b. cond (left_out t (no_view b.visibility.is)) [] (show_visibility b.visibility ∷ []);
      put = λ b acc. set_visibility (class_visibility b.visibility) acc;
    }

-- ---- weather, or "NSW, the sole weather"

abbrev pub is_nsw : Group → Bool
is_nsw g = has_pattern g (bytes "NSW")

abbrev pub has_weather_or_nsw : Group → Bool
has_weather_or_nsw g = is_nsw g || has_weather g

-- NSW before the patterns of weather
abbrev pub with_nsw : List Pattern → List Pattern
with_nsw ps = bytes "NSW" ∷ ps

-- "CAVOK stands for visibility, weather and clouds; weather or clouds beside it are 7."
abbrev pub beside_others : Body → Result Weather Refusal → Result Weather Refusal
beside_others b (Ok w) = agreeing (not (is_cavok b.visibility) && not b.nsw) (Ok w)
beside_others b (Err f) = Err f

-- where it is allowed, before any weather, not beside CAVOK
abbrev pub nsw_stands : Terms → ℕ → Visibility → Bool
nsw_stands t k v = t.may_nsw && eqb k 0 && not (is_cavok v)

unfoldable pub read_weather_or_nsw : Terms → ℕ → Group → Body → Result Body Refusal
read_weather_or_nsw t k g b =
    cond (is_nsw g) (agreeing (nsw_stands t k b.visibility) (Ok (set_nsw true b)))
    (then (beside_others b (read_weather t.forecast t.automatic g)) (λ w. Ok (set_weathers (with_weather k b.weathers w) b)))

abbrev pub show_weather_or_nsw : Body → List Group
show_weather_or_nsw b = cond b.nsw (bytes "NSW" ∷ []) [] ++ show_weathers b.weathers

abbrev pub weather_place : Terms → Place Body
weather_place t =
    record {
      has = has_weather_or_nsw;
      cover = with_nsw weather_cover;
      spoken = with_nsw weather_spoken;
      most = 3;
      must = false;
      ends = false;
      read = λ k g b. read_weather_or_nsw t k g b;
      show = show_weather_or_nsw;
      put = λ b acc. set_nsw b.nsw (set_weathers b.weathers acc);
    }

-- ---- clouds

abbrev pub sky_place : Terms → Place Body
sky_place t =
    record {
      has = has_sky;
      cover = spellings (parts_of layer_shape) ++ alone_shapes;
      spoken = spellings (parts_of layer_shape) ++ alone_shapes;
      most = 4;
      must = false;
      ends = false;
      read = λ k g b. then (read_sky t.forecast (is_cavok b.visibility) k g b.sky) (λ x. Ok (set_sky x b));
      show = λ b. show_sky b.sky;
      put = λ b acc. set_sky (class_sky b.sky) acc;
    }

-- THE BODY'S PLACES, in their order.
abbrev pub body_row : Terms → List (Place Body)
body_row t = wind_place t ∷ visibility_place t ∷ weather_place t ∷ sky_place t ∷ []

-- ---- judging, element by element

-- a wind or visibility that need not stand
abbrev pub unless_absent : Terms → Bool → Result ⊤ Refusal → Result ⊤ Refusal
unless_absent t absent j = cond (not t.required && absent) (Ok tt) j

abbrev pub wind_judged : Terms → Body → Result ⊤ Refusal
wind_judged t b = unless_absent t (is_blank_wind b.wind) (judge_wind t.forecast b.wind)

abbrev pub visibility_judged : Terms → Body → Result ⊤ Refusal
visibility_judged t b = unless_absent t (no_view b.visibility.is) (judge_visibility t.forecast b.visibility)

-- NSW where it may stand, and not beside CAVOK
abbrev pub nsw_agrees : Terms → Body → Bool
nsw_agrees t b = not b.nsw || (t.may_nsw && not (is_cavok b.visibility))

-- the count, NSW, then each weather group
abbrev pub weather_judged : Terms → Body → Result ⊤ Refusal
weather_judged t b =
    cond (nsw_agrees t b) (judge_weathers (judge_weather t.forecast t.automatic (is_cavok b.visibility || b.nsw)) b.weathers)
    (judge (three_fit b.weathers) false)

abbrev pub sky_judged : Terms → Body → Result ⊤ Refusal
sky_judged t b = judge_sky t.forecast (is_cavok b.visibility) b.sky

-- in written order
unfoldable pub judge_body : Terms → Body → Result ⊤ Refusal
judge_body t b = and_then (wind_judged t b) (and_then (visibility_judged t b) (and_then (weather_judged t b) (sky_judged t b)))

-- "A change body needs one element"
abbrev pub has_element : Body → Bool
has_element b =
    has_unit b.wind.unit || not (no_view b.visibility.is) || ltb 0 b.weathers.count || b.nsw || not (is_layers b.sky.cover) || ltb 0 b.sky.count

-- ---- what is read back: each rounded number the reading of its class, all else as it is

abbrev pub class_body : Body → Body
class_body b =
    record { wind = class_wind b.wind; visibility = class_visibility b.visibility; weathers = b.weathers; nsw = b.nsw; sky = class_sky b.sky }
