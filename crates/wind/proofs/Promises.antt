-- How far off a wind, a variation and a visibility are read back: a direction by less than ten degrees on the circle, a speed as its class, a visibility on its scale, not
-- above its value and within its class.
-- Assumes nothing.
use Rattle.std.specs.Prelude.{Ok, None, Option, Some}
use Prim.Native.Nat.{ℕ}
use mathlib.Core.Path.{◌≡◌, refl}
use mathlib.Core.Bool.{Bool, true}
use lib.Dec.{leb, eqb}
use Rattle.shapes.proofs.Patterns.{both}
use Rattle.scales.specs.Metres.{visibility}
use Rattle.scales.proofs.Down.{Down, down}
use Rattle.scales.proofs.MetresLaws.{visibility-laws}
use Rattle.record.specs.declared.aerodrome.Wind.{Wind}
use Rattle.record.specs.declared.aerodrome.Extremes.{Extremes}
use Rattle.record.specs.declared.aerodrome.Variation.{Variation}
use Rattle.record.specs.declared.aerodrome.View.{View}
use Rattle.record.specs.declared.aerodrome.View.TheVariants as view
use Rattle.record.proofs.Near.{Near, degrees-near, DirectionNear, direction-near}
use Rattle.record.specs.Values.{extremes_of}
use Rattle.elements.specs.Wind.{extremes_fit, judge_wind, judge_variation, class_extremes, class_variation, class_wind}
use Rattle.elements.specs.Visibility.{view_fits, class_view}
use Rattle.wind.proofs.SpeedLaws.{SpeedKept}
use Rattle.wind.proofs.RoundTripWind.{direction-fits, mean-kept, gust-kept}
use Rattle.wind.proofs.RoundTripVariation.{judged-fine}

-- ---- directions

-- the wind: its direction is read back near, each speed as its class
pub record WindNear (w q : Wind) : Type 0 where
  pub direction : DirectionNear w.direction q.direction
  pub speed : SpeedKept w.unit w.speed q.speed
  pub gust : SpeedKept w.unit w.gust q.gust
  pub unit : q.unit ≡ w.unit

pub wind-near : (forecast : Bool) (w : Wind) → judge_wind forecast w ≡ Ok tt → WindNear w (class_wind w)
wind-near forecast w e =
    record { direction = direction-near w.direction (direction-fits forecast w e); speed = mean-kept forecast w e; gust = gust-kept forecast w e; unit = refl }

pub data ExtremesNear : Option Extremes → Option Extremes → Type 0 where
  no-extremes : ExtremesNear None None
  between : {a b d e : ℕ} → Near a d → Near b e → ExtremesNear (Some (extremes_of a b)) (Some (extremes_of d e))

extremes-near : (x : Option Extremes) → extremes_fit x ≡ true → ExtremesNear x (class_extremes x)
extremes-near None h = no-extremes
extremes-near (Some x) h = let t = both (leb x.from 359) (leb x.to 359) h in between (degrees-near x.from t.0) (degrees-near x.to t.1)

pub variation-near : (v : Variation) → judge_variation v ≡ Ok tt → ExtremesNear v.is (class_variation v).is
variation-near v e = extremes-near v.is (judged-fine v e).0

-- ---- visibility, by its scale

pub data ViewRead : View → View → Type 0 where
  no-view : ViewRead view.Missing view.Missing
  cavok : ViewRead view.Cavok view.Cavok
  metres : {m n : ℕ} → Down visibility m n → ViewRead (view.Metres m) (view.Metres n)

pub visibility-read : (forecast : Bool) (v : View) → view_fits forecast v ≡ true → ViewRead v (class_view v)
visibility-read forecast view.Missing h = no-view
visibility-read forecast view.Cavok h = cavok
visibility-read forecast (view.Metres m) h =
    metres (down eqb visibility visibility-laws m)
