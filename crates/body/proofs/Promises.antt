-- What the round trip promises of a body, in document 01's words: each exact field comes back as it was, each rounded number as the reading of its class,
-- near its value and never above it where the scale rounds down.
-- Assumes nothing.
use Rattle.std.specs.Prelude.{Ok}
use mathlib.Core.Path.{◌≡◌, refl}
use mathlib.Core.Bool.{Bool, true, false}
use Rattle.text.proofs.Judging.{fine}
use Rattle.record.specs.declared.aerodrome.Body.{Body}
use Rattle.record.specs.Body.{blank_wind, blank_body}
use Rattle.record.specs.SilentAerodrome.{is_blank_wind, no_view}
use Rattle.record.proofs.AerodromeBlanks.{wind-blank, visibility-blank}
use Rattle.record.proofs.Near.{no-direction}
use Rattle.elements.specs.Wind.{judge_wind, class_wind}
use Rattle.elements.specs.Visibility.{view_fits, judge_visibility, class_view}
use Rattle.elements.specs.Body.{Terms, left_out, wind_judged, visibility_judged, class_body}
use Rattle.wind.proofs.SpeedLaws.{no-speed}
use Rattle.wind.proofs.Promises.{WindNear, wind-near, ViewRead, visibility-read}
use Rattle.sky.proofs.Promises.{SkyBack, sky-read}
use Rattle.body.proofs.Places.{Live, left_out_lem, stands-judged}
use Rattle.body.proofs.Bodies.{FairBody}

-- "The numbers scaled here are the rounded ones; all else in a record, missing, calm, variable and trace too, is carried exactly."
-- Document 02, No. 8: a speed over its unit's figure comes back as "above" it.
pub record BodyRead (b q : Body) : Type 0 where
  pub wind : WindNear b.wind q.wind
  pub visibility : ViewRead b.visibility.is q.visibility.is
  pub weathers : q.weathers ≡ b.weathers
  pub nsw : q.nsw ≡ b.nsw
  pub sky : SkyBack b.sky q.sky

-- a wind that is not there
no-wind : WindNear blank_wind (class_wind blank_wind)
no-wind = record { direction = no-direction; speed = no-speed; gust = no-speed; unit = refl }

-- a wind and a visibility that are judged fine, or not there
module _ (t : Terms) (l : Live t) (b : Body) where
  wind-kept : wind_judged t b ≡ Ok tt → WindNear b.wind (class_wind b.wind)
  wind-kept e = go (left_out t (is_blank_wind b.wind)) refl
    where
      go : (o : Bool) → left_out t (is_blank_wind b.wind) ≡ o → WindNear b.wind (class_wind b.wind)
      go true o = rw (wind-blank b.wind (left_out_lem t l (is_blank_wind b.wind) o).1) no-wind
      go false o = wind-near t.forecast b.wind (stands-judged t l (is_blank_wind b.wind) (judge_wind t.forecast b.wind) o e)

  view-kept : visibility_judged t b ≡ Ok tt → ViewRead b.visibility.is (class_view b.visibility.is)
  unfolding judge_visibility
  view-kept e = go (left_out t (no_view b.visibility.is)) refl
    where
      go : (o : Bool) → left_out t (no_view b.visibility.is) ≡ o → ViewRead b.visibility.is (class_view b.visibility.is)
      go true o = visibility-read false b.visibility.is (rw (visibility-blank b.visibility (left_out_lem t l (no_view b.visibility.is) o).1))
      go false o =
          let j = stands-judged t l (no_view b.visibility.is) (judge_visibility t.forecast b.visibility) o e in
          visibility-read t.forecast b.visibility.is (fine (view_fits t.forecast b.visibility.is) true j).0

body_of : (b : Body) → WindNear b.wind (class_wind b.wind) → ViewRead b.visibility.is (class_view b.visibility.is) → BodyRead b (class_body b)
body_of b w v = record { wind = w; visibility = v; weathers = refl; nsw = refl; sky = sky-read b.sky }

-- A BODY THAT IS JUDGED FINE IS READ BACK SO, and a blank one.
pub body-read : (t : Terms) → Live t → (b : Body) → FairBody t b → BodyRead b (class_body b)
body-read t l b f = body_of b (wind-kept t l b f.wind) (view-kept t l b f.visibility)

pub blank-read : (b : Body) → b ≡ blank_body → BodyRead b (class_body b)
blank-read b e = rw e (body_of blank_body no-wind (visibility-read false blank_body.visibility.is refl))
