-- A trend's change as a row of places: "each with up to two times .. and then wind, visibility or CAVOK, weather or NSW, clouds. They obey the TAF's TEMPO
-- body's rules". The observation's groups are known and never taken: they are of an earlier place, 6. After NOSIG all places are closed.
-- Assumes nothing: these are definitions.
use Rattle.std.specs.Prelude.{Bool, true, false, List, [], ◌∷◌}
use Rattle.figures.specs.Quote.{bytes}
use Rattle.places.specs.Engine.{Place}
use Rattle.places.specs.Lift.{lift, open_in, shut}
use Rattle.record.specs.declared.aerodrome.Times.{Times}
use Rattle.record.specs.declared.aerodrome.Body.{Body}
use Rattle.record.specs.declared.aerodrome.TrendChange.{TrendChange}
use Rattle.record.specs.Trend.{set_times, set_body}
use Rattle.elements.specs.Body.{changing, wind_place, visibility_place, weather_place, sky_place}
use Rattle.metar_row.specs.Row.{is_known}
use Rattle.trend_row.specs.declared.kinds.Word.{Word}
use Rattle.trend_row.specs.declared.kinds.Word.TheVariants as word
use Rattle.trend_row.specs.Times.{from_place, until_place, at_place}

-- BECMG and TEMPO open a change, "NOSIG alone" does not
abbrev pub is_change : Word → Bool
is_change word.Nosig = false
is_change word.Becoming = true
is_change word.Temporary = true

abbrev pub of_times : Bool → Place Times → Place TrendChange
of_times free p = open_in free (lift (λ (c : TrendChange). c.times) set_times p)

abbrev pub of_body : Bool → Place Body → Place TrendChange
of_body free p = open_in free (lift (λ (c : TrendChange). c.body) set_body p)

unfoldable pub row : Bool → List (Place TrendChange)
row free =
    shut is_known (bytes "*" ∷ [])
    ∷ of_times free from_place
    ∷ of_times free until_place
    ∷ of_times free at_place
    ∷ of_body free (wind_place changing)
    ∷ of_body free (visibility_place changing)
    ∷ of_body free (weather_place changing)
    ∷ of_body free (sky_place changing)
    ∷ []
