-- "They obey the TAF's TEMPO body's rules": the body of a trend's change is that of TEMPO in a TAF, by one definition each: the terms under which it
-- stands, its places, what the writer judges of it, and when the reader finds it empty.
-- Assumes nothing.
use mathlib.Core.Path.{◌≡◌, refl}
use mathlib.Core.Bool.{true, not}
use lib.ListN.{drop}
use Rattle.places.specs.Lift.{lift_all}
use Rattle.record.specs.declared.aerodrome.Opening.TheVariants as opening
use Rattle.record.specs.declared.aerodrome.Body.{Body}
use Rattle.record.specs.declared.aerodrome.Leg.{Leg}
use Rattle.record.specs.declared.aerodrome.Edition.{Edition}
use Rattle.record.specs.declared.aerodrome.TrendChange.{TrendChange}
use Rattle.record.specs.Taf as leg
use Rattle.record.specs.Trend as change
use Rattle.elements.specs.Body.{changing, body_row}
use Rattle.trend_row.specs.declared.kinds.Word.TheVariants as word
use Rattle.trend_row.specs.Row as trend-row
use Rattle.trend_row.specs.Tests.{lacks_in}
use Rattle.trend.specs.Write.{judge_change_body}
use Rattle.taf_row.specs.Row as taf-row
use Rattle.taf_row.specs.Row.{element_stands, forecast_in}
use Rattle.taf.specs.Read.{part_of}
use Rattle.taf.specs.Write.{judge_part}

-- THE TERMS: a forecast, nothing required, NSW allowed, UP not.
pub same-terms : forecast_in (part_of opening.Temporary) ≡ changing
same-terms = refl

-- THE PLACES: wind, visibility, weather and clouds, as the body's row has them, end either row.
pub same-places : (e : Edition) → (drop 8 (taf-row.row e (part_of opening.Temporary)) ≡ lift_all (λ (r : Leg). r.body) leg.set_body (body_row changing))
    × (drop 4 (trend-row.row true) ≡ lift_all (λ (c : TrendChange). c.body) change.set_body (body_row changing))
unfolding taf-row.row trend-row.row
same-places e = (refl, refl)

-- THE JUDGEMENT, element by element, and that there is one.
pub same-judged : (b : Body) → judge_part (part_of opening.Temporary) b ≡ judge_change_body b
unfolding judge_part
same-judged b = refl

-- THE ABSENCE: "A change body needs one element".
pub same-absence : (b : Body) → not (element_stands (part_of opening.Temporary) b) ≡ lacks_in word.Temporary b
same-absence b = refl
