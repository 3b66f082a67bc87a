-- The times of a trend's change: "each with up to two times (FM, TL or AT and GGgg, 0000 to 2359, TL to 2400; AT alone, FM written before TL whatever
-- their hours)". Three places, in this order, which the row of a trend's change lifts; "times otherwise joined .. are 6".
-- Assumes nothing: these are definitions.
use Rattle.std.specs.Prelude.{ℕ, Bool, true, false, cond, not, ◌&&◌, ◌||◌, List, [], ◌∷◌, ◌++◌, eqb, Err, Ok, Result}
use Rattle.text.specs.declared.kinds.Refusal.{Refusal}
use Rattle.figures.specs.Quote.{bytes}
use Rattle.figures.specs.Figures.{field_at, number_text}
use Rattle.text.specs.declared.kinds.Refusal.TheVariants as refusal
use Rattle.shapes.specs.Pattern.{Pattern, has_pattern}
use Rattle.places.specs.Engine.{Group, then, Place}
use Rattle.record.specs.declared.aerodrome.Moment.{Moment}
use Rattle.record.specs.declared.aerodrome.Hours.{Hours}
use Rattle.record.specs.declared.aerodrome.Hours.TheVariants as hours
use Rattle.record.specs.declared.aerodrome.Times.{Times}
use Rattle.record.specs.SilentAerodrome.{no_hours}
use Rattle.elements.specs.Parts.{figured, provided}
use Rattle.aerodrome_groups.specs.Head.{is_hour, is_minute}
use Rattle.trend_row.specs.declared.kinds.Mark.{Mark}
use Rattle.trend_row.specs.declared.kinds.Mark.TheVariants as mark
use Rattle.metar_row.specs.Row.{from_shape, until_shape, at_shape}

-- ---- GGgg

-- TL is where a change ends
abbrev pub is_end : Mark → Bool
is_end mark.From = false
is_end mark.Until = true
is_end mark.At = false

-- "0000 to 2359, TL to 2400"
abbrev pub moment_fits : Bool → Moment → Bool
moment_fits end t = (is_hour t.hour && is_minute t.minute) || (end && (eqb t.hour 24 && eqb t.minute 0))

abbrev pub moment_of : ℕ → ℕ → Moment
moment_of h m = record { hour = h; minute = m }

unfoldable pub read_moment : Bool → Group → Result Moment Refusal
read_moment end g = figured (field_at g 2 2) (λ h. figured (field_at g 4 2) (λ m. provided (moment_fits end (moment_of h m)) (Ok (moment_of h m))))

-- ---- reading, with the times that stand already

-- TL after FM, or alone
abbrev pub until_of : Hours → Moment → Hours
until_of hours.None u = hours.Until u
until_of (hours.From f) u = hours.Between f u
until_of (hours.Until v) u = hours.Until u
until_of (hours.Between f v) u = hours.Between f u
until_of (hours.At t) u = hours.Until u

abbrev pub with_time : Mark → Hours → Moment → Hours
with_time mark.From h t = hours.From t
with_time mark.Until h t = until_of h t
with_time mark.At h t = hours.At t

abbrev pub times_of : Hours → Times
times_of h = record { is = h }

-- "AT alone": beside another time it is 6, whatever its figures
abbrev pub is_barred : Mark → Hours → Bool
is_barred mark.From h = false
is_barred mark.Until h = false
is_barred mark.At h = not (no_hours h)

abbrev pub read_time : Mark → Group → Hours → Result Times Refusal
read_time m g h = cond (is_barred m h) (Err refusal.Order) (then (read_moment (is_end m) g) (λ t. Ok (times_of (with_time m h t))))

abbrev pub read_from : Group → Result Times Refusal
read_from g = read_time mark.From g hours.None

abbrev pub read_until : Group → Times → Result Times Refusal
read_until g t = read_time mark.Until g t.is

abbrev pub read_at : Group → Times → Result Times Refusal
read_at g t = read_time mark.At g t.is

-- ---- writing

abbrev pub show_moment : Moment → List ℕ
show_moment t = number_text 2 t.hour ++ number_text 2 t.minute

abbrev pub show_from : Hours → List Group
show_from hours.None = []
show_from (hours.From f) = (bytes "FM" ++ show_moment f) ∷ []
show_from (hours.Until u) = []
show_from (hours.Between f u) = (bytes "FM" ++ show_moment f) ∷ []
show_from (hours.At t) = []

abbrev pub show_until : Hours → List Group
show_until hours.None = []
show_until (hours.From f) = []
show_until (hours.Until u) = (bytes "TL" ++ show_moment u) ∷ []
show_until (hours.Between f u) = (bytes "TL" ++ show_moment u) ∷ []
show_until (hours.At t) = []

abbrev pub show_at : Hours → List Group
show_at hours.None = []
show_at (hours.From f) = []
show_at (hours.Until u) = []
show_at (hours.Between f u) = []
show_at (hours.At t) = (bytes "AT" ++ show_moment t) ∷ []

-- what reading it back makes of the times so far
abbrev pub put_from : Hours → Hours → Hours
put_from hours.None acc = acc
put_from (hours.From f) acc = hours.From f
put_from (hours.Until u) acc = acc
put_from (hours.Between f u) acc = hours.From f
put_from (hours.At t) acc = acc

abbrev pub put_until : Hours → Hours → Hours
put_until hours.None acc = acc
put_until (hours.From f) acc = acc
put_until (hours.Until u) acc = until_of acc u
put_until (hours.Between f u) acc = until_of acc u
put_until (hours.At t) acc = acc

abbrev pub put_at : Hours → Hours → Hours
put_at hours.None acc = acc
put_at (hours.From f) acc = acc
put_at (hours.Until u) acc = acc
put_at (hours.Between f u) acc = acc
put_at (hours.At t) acc = hours.At t

-- ---- judging: "(in a record a value outside its range)"

abbrev pub hours_fit : Hours → Bool
hours_fit hours.None = true
hours_fit (hours.From f) = moment_fits false f
hours_fit (hours.Until u) = moment_fits true u
hours_fit (hours.Between f u) = moment_fits false f && moment_fits true u
hours_fit (hours.At t) = moment_fits false t

-- ---- the places

abbrev pub moment_place : Pattern → (Group → Times → Result Times Refusal) → (Hours → List Group) → (Hours → Hours → Hours) → Place Times
moment_place shape read show put =
    record {
      has = λ g. has_pattern g shape;
      cover = shape ∷ [];
      spoken = shape ∷ [];
      most = 1;
      must = false;
      ends = false;
      read = λ k g t. read g t;
      show = λ t. show t.is;
      put = λ t acc. times_of (put t.is acc.is);
    }

abbrev pub from_place : Place Times
from_place = moment_place from_shape (λ g t. read_from g) show_from put_from

abbrev pub until_place : Place Times
until_place = moment_place until_shape read_until show_until put_until

abbrev pub at_place : Place Times
at_place = moment_place at_shape read_at show_at put_at
