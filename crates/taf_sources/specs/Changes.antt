-- THE ITEMS OF A TAF'S CHANGE GROUPS: of part q, 1 to 16, which the q-th change word opened. Where each stands in the record, at which place of the row its
-- group is taken, and what the definition of that group says of its bytes.
-- Assumes nothing: these are definitions.
use Rattle.std.specs.Prelude.{ℕ, ◌-◌, ◌≡◌, Bool, true, false, cond, get_or, Ok}
use Rattle.places.specs.Engine.{Group}
use Rattle.record.specs.declared.aerodrome.Period.{Period}
use Rattle.record.specs.declared.aerodrome.Opening.{Opening}
use Rattle.record.specs.declared.aerodrome.Opening.TheVariants as opening
use Rattle.record.specs.declared.aerodrome.Wind.{Wind}
use Rattle.record.specs.declared.aerodrome.Visibility.{Visibility}
use Rattle.record.specs.declared.aerodrome.Change.{Change}
use Rattle.record.specs.declared.aerodrome.Edition.{Edition}
use Rattle.record.specs.declared.aerodrome.Taf.{Taf}
use Rattle.record.specs.Taf.{blank_period, blank_leg, blank_change, set_period}
use Rattle.taf_row.specs.Row.{word, change_form, read_period}
use Rattle.taf.specs.Read.{opened_by}
use Rattle.body_sources.specs.Items.{WindSaid, VisibilitySaid, WeatherItem, weather_at, WeatherSaid, SkyItem, sky_at, SkySaid}
use Rattle.taf_sources.specs.declared.kinds.ChangeElement.{ChangeElement}
use Rattle.taf_sources.specs.declared.kinds.ChangeElement.TheVariants as element

-- ---- which group says a change's period: "BECMG, TEMPO, PROB30, PROB40, PROB TEMPO, each with YYGG/YYGG, or FMYYGGgg"

abbrev pub is_from : Opening → Bool
is_from opening.None = false
is_from opening.Becoming = false
is_from opening.Temporary = false
is_from (opening.Probable n) = false
is_from (opening.ProbablyTemporary n) = false
is_from opening.From = true

-- a group of its own; or FM, the word
abbrev pub period_of : Change → Period
period_of c = cond (is_from c.opening) blank_period c.period

abbrev pub beginning_of : Change → Period
beginning_of c = cond (is_from c.opening) c.period blank_period

-- ---- the items at the places of its row

abbrev pub place_of : ChangeElement → ℕ
place_of element.Period = 6
place_of element.Wind = 8
place_of element.Visibility = 9
place_of element.Weather = 10
place_of element.Clouds = 11

abbrev pub most_of : ChangeElement → ℕ
most_of element.Period = 1
most_of element.Wind = 1
most_of element.Visibility = 1
most_of element.Weather = 3
most_of element.Clouds = 4

abbrev pub Value : ChangeElement → Type 0
Value element.Period = Period
Value element.Wind = Wind
Value element.Visibility = Visibility
Value element.Weather = WeatherItem
Value element.Clouds = SkyItem

abbrev pub value_in : (e : ChangeElement) → ℕ → Change → Value e
value_in element.Period k c = period_of c
value_in element.Wind k c = c.body.wind
value_in element.Visibility k c = c.body.visibility
value_in element.Weather k c = weather_at k c.body
value_in element.Clouds k c = sky_at k c.body

abbrev pub Said : Edition → (e : ChangeElement) → Group → Value e → Type 0
Said x element.Period g v = read_period (change_form x) g ≡ Ok v
Said x element.Wind g v = WindSaid true g v
Said x element.Visibility g v = VisibilitySaid true g v
Said x element.Weather g v = WeatherSaid true g v
Said x element.Clouds g v = SkySaid true g v

-- the change that part q of a report is, 1 to 16
abbrev pub change_at : ℕ → Taf → Change
change_at q r = get_or r.changes.items (q - 1) blank_change

-- ---- the word that opened part q, and TEMPO where it belongs to that word

-- what the first word alone stands for
abbrev pub first_word : Opening → Opening
first_word opening.None = opening.None
first_word opening.Becoming = opening.Becoming
first_word opening.Temporary = opening.Temporary
first_word (opening.Probable n) = opening.Probable n
first_word (opening.ProbablyTemporary n) = opening.Probable n
first_word opening.From = opening.From

-- whether TEMPO belongs to it
abbrev pub is_joined : Opening → Bool
is_joined opening.None = false
is_joined opening.Becoming = false
is_joined opening.Temporary = false
is_joined (opening.Probable n) = false
is_joined (opening.ProbablyTemporary n) = true
is_joined opening.From = false

-- the word, and the time of FM
pub record WordItem : Type 0 where
  pub opening : Opening
  pub begins : Period

abbrev pub word_of : Change → WordItem
word_of c = record { opening = first_word c.opening; begins = beginning_of c }

abbrev pub no_word : WordItem
no_word = record { opening = opening.None; begins = blank_period }

-- what the word's definition says of its bytes: it opens such a change, of which no more is known than when it begins
abbrev pub WordSaid : Edition → Group → WordItem → Type 0
WordSaid x g v = opened_by x g ≡ Ok (record { kind = v.opening; start = set_period v.begins blank_leg })

-- TEMPO is a word: that it stands there is all it says
pub record TempoSaid (g : Group) (v : Bool) : Type 0 where
  pub is : word "TEMPO" g ≡ true
  pub value : v ≡ true
