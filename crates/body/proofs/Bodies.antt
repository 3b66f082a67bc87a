-- A body that is judged fine: its row keeps what is written of it; what is read back is written as it was, and judged fine as it was.
-- Assumes nothing.
use Rattle.std.specs.Prelude.{⊤, Ok, Result}
use Rattle.text.specs.declared.kinds.Refusal.{Refusal}
use Prim.Native.Nat.{ℕ}
use mathlib.Core.Path.{◌≡◌, refl, sym, ap, ◌∙◌}
use mathlib.Core.Bool.{Bool, true, false, cond, not, ◌&&◌}
use mathlib.Core.List.{List, [], ◌∷◌}
use Rattle.text.proofs.Judging.{and-then}
use Rattle.shapes.specs.Pattern.{has_any}
use Rattle.shapes.proofs.Patterns.{or_cases}
use Rattle.places.specs.Engine.{Group, written}
use Rattle.places.proofs.ReadBack.{Covered}
use Rattle.places.proofs.Kept.{KeptRow, done, more}
use Rattle.record.specs.declared.values.Direction.{Direction}
use Rattle.record.specs.declared.values.Direction.TheVariants as direction
use Rattle.record.specs.declared.aerodrome.Wind.{Wind}
use Rattle.record.specs.declared.aerodrome.Visibility.{Visibility}
use Rattle.record.specs.declared.aerodrome.Body.{Body}
use Rattle.record.specs.Body.{blank_body}
use Rattle.record.specs.Arrays.{BodyArrays}
use Rattle.record.specs.Classes.{class_direction}
use Rattle.record.specs.Missing.{no_direction}
use Rattle.record.specs.SilentAerodrome.{is_blank_wind, no_view}
use Rattle.record.proofs.AerodromeBlanks.{wind-blank, visibility-blank}
use Rattle.elements.specs.Wind.{show_wind, judge_wind, class_wind}
use Rattle.elements.specs.Visibility.{is_cavok, show_visibility, judge_visibility, class_visibility}
use Rattle.elements.specs.Weather.{weather_cover, has_weather}
use Rattle.elements.specs.Body.{Terms, left_out, is_nsw, has_weather_or_nsw, with_nsw, body_row, unless_absent, wind_judged, visibility_judged, weather_judged, sky_judged, judge_body, has_element, class_body}
use Rattle.elements.proofs.Classed.{cavok-classed, view-classed, cover-classed}
use Rattle.wind.proofs.SpeedLaws.{missing-classed}
use Rattle.wind.proofs.RoundTripWind.{wind-covered, wind-again, wind-classed}
use Rattle.wind.proofs.RoundTripVisibility.{visibility-again, visibility-classed}
use Rattle.weather.proofs.Covers.{weather-covered}
use Rattle.sky.proofs.Groups.{sky-covered}
use Rattle.sky.proofs.RoundTrip.{sky-again, sky-classed}
use Rattle.body.proofs.Places.{Live, left_out_lem, stands-judged, with-nsw, kept-wind, kept-visibility, kept-weather, kept-sky}

-- ---- what is judged fine, element by element

pub record FairBody (t : Terms) (b : Body) : Type 0 where
  pub wind : wind_judged t b ≡ Ok tt
  pub visibility : visibility_judged t b ≡ Ok tt
  pub weather : weather_judged t b ≡ Ok tt
  pub sky : sky_judged t b ≡ Ok tt

pub fair-body : (t : Terms) (b : Body) → judge_body t b ≡ Ok tt → FairBody t b
unfolding judge_body
fair-body t b e =
    let w = and-then (wind_judged t b) _ e in
    let v = and-then (visibility_judged t b) _ w.1 in
    let p = and-then (weather_judged t b) (sky_judged t b) v.1 in
    record { wind = w.0; visibility = v.0; weather = p.0; sky = p.1 }

-- ---- the row

weather-or-nsw-covered : (g : Group) → has_weather_or_nsw g ≡ true → has_any (with_nsw weather_cover) g ≡ true
unfolding has_any
weather-or-nsw-covered g h = or_cases (is_nsw g) (has_weather g) h (λ e. rw e) (λ e. with-nsw weather_cover g (weather-covered g e))

-- WHAT HAS THE SHAPE OF A PLACE FITS THE PATTERNS THAT COVER IT.
pub body-covered : (t : Terms) → Covered (body_row t)
body-covered t = (wind-covered, ((λ g h. h), (weather-or-nsw-covered, (sky-covered, tt))))

-- the bytes that a group may have at each place
abbrev pub body_sizes : List ℕ
body_sizes = 15 ∷ 5 ∷ 9 ∷ 9 ∷ []

-- THE ROW KEEPS WHAT IS WRITTEN OF A BODY.
pub kept-body : (t : Terms) → Live t → (b : Body) → BodyArrays b → FairBody t b → KeptRow body_sizes (body_row t) b blank_body
kept-body t l b arrays f =
    more (kept-wind t l b _ refl f.wind) refl
    (more (kept-visibility t l b _ refl f.visibility) refl
    (more (kept-weather t b _ refl refl (cavok-classed b.visibility.is) arrays.weathers f.weather) refl
    (more (kept-sky t b _ refl (cavok-classed b.visibility.is) arrays.layers f.sky) refl done)))

-- ---- the body that is read back

pub direction-classed : (d : Direction) → no_direction (class_direction d) ≡ no_direction d
direction-classed direction.Missing = refl
direction-classed direction.Calm = refl
direction-classed direction.Variable = refl
direction-classed (direction.Degrees d) = refl

blank-classed : (x : Wind) → is_blank_wind (class_wind x) ≡ is_blank_wind x
blank-classed x = rw (direction-classed x.direction, missing-classed x.unit x.speed, missing-classed x.unit x.gust)

pub fine-anyway : (c : Bool) (j : Result ⊤ Refusal) → j ≡ Ok tt → cond c (Ok tt) j ≡ Ok tt
fine-anyway true j e = refl
fine-anyway false j e = e

module _ (t : Terms) (l : Live t) (b : Body) where
  module _ (e : wind_judged t b ≡ Ok tt) where
    abbrev wind_shown : Wind → List Group
    wind_shown x = cond (left_out t (is_blank_wind x)) [] (show_wind x ∷ [])

    abbrev wind_judge : Wind → Result ⊤ Refusal
    wind_judge x = unless_absent t (is_blank_wind x) (judge_wind t.forecast x)

    pub wind-both : (wind_shown (class_wind b.wind) ≡ wind_shown b.wind) × (wind_judge (class_wind b.wind) ≡ Ok tt)
    wind-both = go (left_out t (is_blank_wind b.wind)) refl
      where
        go : (o : Bool) → left_out t (is_blank_wind b.wind) ≡ o → (wind_shown (class_wind b.wind) ≡ wind_shown b.wind) × (wind_judge (class_wind b.wind) ≡ Ok tt)
        go true o =
            let is = wind-blank b.wind (left_out_lem t l (is_blank_wind b.wind) o).1 in
            (ap (λ (x : Wind). wind_shown (class_wind x)) is ∙ ap wind_shown (sym is), ap (λ (x : Wind). wind_judge (class_wind x)) is ∙ ap wind_judge (sym is) ∙ e)
        go false o =
            let j = stands-judged t l (is_blank_wind b.wind) (judge_wind t.forecast b.wind) o e in
            (rw (blank-classed b.wind, o, wind-again t.forecast b.wind j), fine-anyway (not t.required && is_blank_wind (class_wind b.wind)) (judge_wind t.forecast (class_wind b.wind)) (wind-classed t.forecast b.wind j))

  module _ (e : visibility_judged t b ≡ Ok tt) where
    abbrev view_shown : Visibility → List Group
    view_shown x = cond (left_out t (no_view x.is)) [] (show_visibility x ∷ [])

    abbrev view_judge : Visibility → Result ⊤ Refusal
    view_judge x = unless_absent t (no_view x.is) (judge_visibility t.forecast x)

    pub view-both : (view_shown (class_visibility b.visibility) ≡ view_shown b.visibility) × (view_judge (class_visibility b.visibility) ≡ Ok tt)
    view-both = go (left_out t (no_view b.visibility.is)) refl
      where
        go : (o : Bool) → left_out t (no_view b.visibility.is) ≡ o
            → (view_shown (class_visibility b.visibility) ≡ view_shown b.visibility) × (view_judge (class_visibility b.visibility) ≡ Ok tt)
        go true o =
            let is = visibility-blank b.visibility (left_out_lem t l (no_view b.visibility.is) o).1 in
            (ap (λ (x : Visibility). view_shown (class_visibility x)) is ∙ ap view_shown (sym is), ap (λ (x : Visibility). view_judge (class_visibility x)) is ∙ ap view_judge (sym is) ∙ e)
        go false o =
            let j = stands-judged t l (no_view b.visibility.is) (judge_visibility t.forecast b.visibility) o e in
            (rw (view-classed b.visibility.is, o, visibility-again t.forecast b.visibility j), fine-anyway (not t.required && no_view (class_visibility b.visibility).is) (judge_visibility t.forecast (class_visibility b.visibility)) (visibility-classed t.forecast b.visibility j))

pub weather-classed : (t : Terms) (b : Body) → weather_judged t b ≡ Ok tt → weather_judged t (class_body b) ≡ Ok tt
weather-classed t b e = rw (cavok-classed b.visibility.is) e

pub clouds-classed : (t : Terms) (b : Body) → sky_judged t b ≡ Ok tt → sky_judged t (class_body b) ≡ Ok tt
clouds-classed t b e = rw (cavok-classed b.visibility.is) (sky-classed t.forecast (is_cavok b.visibility) b.sky e)

module _ (t : Terms) (l : Live t) (b : Body) (f : FairBody t b) where
  -- IT IS WRITTEN AS THE BODY WAS,
  pub body-again : written (body_row t) (class_body b) ≡ written (body_row t) b
  body-again = rw ((wind-both t l b f.wind).0, (view-both t l b f.visibility).0, sky-again b.sky)

  -- AND JUDGED FINE.
  pub body-classed : judge_body t (class_body b) ≡ Ok tt
  unfolding judge_body
  body-classed = rw ((wind-both t l b f.wind).1, (view-both t l b f.visibility).1, weather-classed t b f.weather, clouds-classed t b f.sky)

-- it has an element where the body has one
pub element-classed : (b : Body) → has_element (class_body b) ≡ has_element b
element-classed b = rw (view-classed b.visibility.is, cover-classed b.sky.cover)
