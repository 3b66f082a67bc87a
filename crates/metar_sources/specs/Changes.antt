-- THE ITEMS OF A TREND: of part q, 1 to 3, which the q-th of its words opened. Where each stands in the record, at which place of the row its group is taken, and
-- what the definition of that group says of its bytes.
-- Assumes nothing: these are definitions.
use Rattle.std.specs.Prelude.{ℕ, ◌-◌, ◌≡◌, Bool, true, false, ◌&&◌, get_or, eqb, Ok}
use Rattle.places.specs.Engine.{Group}
use Rattle.record.specs.declared.aerodrome.Moment.{Moment}
use Rattle.record.specs.declared.aerodrome.Hours.{Hours}
use Rattle.record.specs.declared.aerodrome.Hours.TheVariants as hours
use Rattle.record.specs.declared.aerodrome.Tendency.{Tendency}
use Rattle.record.specs.declared.aerodrome.Tendency.TheVariants as tendency
use Rattle.record.specs.declared.aerodrome.Wind.{Wind}
use Rattle.record.specs.declared.aerodrome.Visibility.{Visibility}
use Rattle.record.specs.declared.aerodrome.TrendChange.{TrendChange}
use Rattle.record.specs.declared.aerodrome.Metar.{Metar}
use Rattle.record.specs.Trend.{blank_trend_change}
use Rattle.trend_row.specs.declared.kinds.Word.{Word}
use Rattle.trend_row.specs.declared.kinds.Word.TheVariants as word
use Rattle.trend_row.specs.Times.{read_moment}
use Rattle.sources.specs.Trail.{Opens}
use Rattle.body_sources.specs.Items.{WindSaid, VisibilitySaid, WeatherItem, weather_at, WeatherSaid, SkyItem, sky_at, SkySaid}
use Rattle.metar_sources.specs.Trail.{word_move}
use Rattle.metar_sources.specs.declared.kinds.ChangeElement.{ChangeElement}
use Rattle.metar_sources.specs.declared.kinds.ChangeElement.TheVariants as element

-- a time of a change, or none
pub data Perhaps : Type 0 where
  none : Perhaps
  time : Moment → Perhaps

-- FM, TL and AT of a change's times
abbrev pub from_of : Hours → Perhaps
from_of hours.None = none
from_of (hours.From f) = time f
from_of (hours.Until u) = none
from_of (hours.Between f u) = time f
from_of (hours.At t) = none

abbrev pub until_of : Hours → Perhaps
until_of hours.None = none
until_of (hours.From f) = none
until_of (hours.Until u) = time u
until_of (hours.Between f u) = time u
until_of (hours.At t) = none

abbrev pub at_of : Hours → Perhaps
at_of hours.None = none
at_of (hours.From f) = none
at_of (hours.Until u) = none
at_of (hours.Between f u) = none
at_of (hours.At t) = time t

-- what a time's group says; TL may be 2400
pub data TimeSaid (until : Bool) (g : Group) : Perhaps → Type 0 where
  says : {t : Moment} → read_moment until g ≡ Ok t → TimeSaid until g (time t)

abbrev pub place_of : ChangeElement → ℕ
place_of element.From = 1
place_of element.Until = 2
place_of element.At = 3
place_of element.Wind = 4
place_of element.Visibility = 5
place_of element.Weather = 6
place_of element.Clouds = 7

abbrev pub most_of : ChangeElement → ℕ
most_of element.From = 1
most_of element.Until = 1
most_of element.At = 1
most_of element.Wind = 1
most_of element.Visibility = 1
most_of element.Weather = 3
most_of element.Clouds = 4

abbrev pub Value : ChangeElement → Type 0
Value element.From = Perhaps
Value element.Until = Perhaps
Value element.At = Perhaps
Value element.Wind = Wind
Value element.Visibility = Visibility
Value element.Weather = WeatherItem
Value element.Clouds = SkyItem

abbrev pub value_in : (e : ChangeElement) → ℕ → TrendChange → Value e
value_in element.From k c = from_of c.times.is
value_in element.Until k c = until_of c.times.is
value_in element.At k c = at_of c.times.is
value_in element.Wind k c = c.body.wind
value_in element.Visibility k c = c.body.visibility
value_in element.Weather k c = weather_at k c.body
value_in element.Clouds k c = sky_at k c.body

abbrev pub Said : (e : ChangeElement) → Group → Value e → Type 0
Said element.From g v = TimeSaid false g v
Said element.Until g v = TimeSaid true g v
Said element.At g v = TimeSaid false g v
Said element.Wind g v = WindSaid true g v
Said element.Visibility g v = VisibilitySaid true g v
Said element.Weather g v = WeatherSaid true g v
Said element.Clouds g v = SkySaid true g v

-- the change that part q of a report is, 1 to 3
abbrev pub change_at : ℕ → Metar → TrendChange
change_at q r = get_or r.trend.items (q - 1) blank_trend_change

-- ---- the word that opened part q: NOSIG, or BECMG or TEMPO of a change

pub record WordItem : Type 0 where
  pub nosig : Bool
  pub tendency : Tendency

-- NOSIG stands alone, so it opens part 1
abbrev pub word_in : ℕ → Metar → WordItem
word_in q r = record { nosig = eqb q 1 && r.trend.nosig; tendency = (change_at q r).tendency }

abbrev pub word_value : Word → WordItem
word_value word.Nosig = record { nosig = true; tendency = tendency.None }
word_value word.Becoming = record { nosig = false; tendency = tendency.Becoming }
word_value word.Temporary = record { nosig = false; tendency = tendency.Temporary }

abbrev pub no_word : WordItem
no_word = record { nosig = false; tendency = tendency.None }

-- the word that the group is, and what it stands for
pub record WordSaid (g : Group) (v : WordItem) : Type 0 where
  pub word : Word
  pub is : word_move g ≡ Opens word
  pub value : v ≡ word_value word
