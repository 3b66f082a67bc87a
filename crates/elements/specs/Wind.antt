-- Wind: "ddd 010-360 by tens or VRB, two speed figures below 100 and three for 100-199, G and gust, KT, MPS or KMH; 00000 calm. A gust not above the
-- mean or with calm, 000 or a zero speed without the other, or equal directions in dddVddd: 7." The missing form is ///// and unit; "in a TAF these
-- are 5". Document 02, No. 8: "P99KT, P49MPS and P199KMH for mean or gust above those figures".
-- Assumes nothing: these are definitions.
use Rattle.std.specs.Prelude.{⊤, ℕ, ◌+◌, Bool, true, false, cond, not, ◌&&◌, ◌||◌, List, [], ◌∷◌, ◌++◌, leb, ltb, eqb, Ok, Result, None, Option, Some}
use Rattle.text.specs.declared.kinds.Refusal.{Refusal}
use Rattle.figures.specs.Quote.{bytes}
use Rattle.figures.specs.declared.kinds.Field.{Field}
use Rattle.figures.specs.declared.kinds.Field.TheVariants as field
use Rattle.figures.specs.Figures.{field_at, figures}
use Rattle.shapes.specs.declared.kinds.Value.{Value}
use Rattle.shapes.specs.Shape.{print_of}
use Rattle.scales.specs.Rounded.{rounded_direction, ddd_figure, ddd_reading}
use Rattle.places.specs.Engine.{Group}
use Rattle.record.specs.declared.values.Direction.{Direction}
use Rattle.record.specs.declared.values.Direction.TheVariants as direction
use Rattle.record.specs.declared.values.Speed.{Speed}
use Rattle.record.specs.declared.values.Speed.TheVariants as speed
use Rattle.record.specs.declared.aerodrome.Unit.{Unit}
use Rattle.record.specs.declared.aerodrome.Unit.TheVariants as unit
use Rattle.record.specs.declared.aerodrome.Wind.{Wind}
use Rattle.record.specs.declared.aerodrome.Extremes.{Extremes}
use Rattle.record.specs.declared.aerodrome.Variation.{Variation}
use Rattle.record.specs.Missing.{no_speed, is_still}
use Rattle.record.specs.SilentAerodrome.{no_unit}
use Rattle.record.specs.Classes.{class_direction}
use Rattle.text.specs.Judge.{judge}
use Rattle.record.specs.Values.{extremes_of}
use Rattle.elements.specs.Parts.{figured, used, provided, agreeing, then, value_at, is_missing}

-- direction, speed, gust, unit
abbrev pub wind_shape : List ℕ
wind_shape = bytes "###|VRB ###|##|P###|P## G###|G##|GP###|GP##| KT|MPS|KMH"

abbrev pub unit_of : ℕ → Unit
unit_of k = cond (eqb k 0) unit.Knots (cond (eqb k 1) unit.MetresPerSecond unit.KilometresPerHour)

-- the figure that stands after P, which is the last speed that is written as a number; with no unit nothing is written
abbrev pub last_exact : Unit → ℕ
last_exact unit.Missing = 0
last_exact unit.Knots = 99
last_exact unit.MetresPerSecond = 49
last_exact unit.KilometresPerHour = 199

-- "two speed figures below 100 and three for 100-199": the alternatives of three figures are number 0 and, after P, number 2
abbrev pub in_width : ℕ → ℕ → Bool
in_width which n = cond (eqb which 0 || eqb which 2) (leb 100 n && leb n 199) true

-- a number, or after P what is above it: "P with another figure is 5"
abbrev pub speed_by : Unit → ℕ → ℕ → Result Speed Refusal
speed_by u which n = cond (leb which 1) (Ok (speed.Is n)) (provided (eqb n (last_exact u)) (Ok (speed.Above n)))

abbrev pub speed_of : Unit → Value → Result Speed Refusal
speed_of u v = figured v.field (λ n. provided (in_width v.which n) (speed_by u v.which n))

-- the gust has one alternative more, number 4, which is nothing
abbrev pub gust_of : Unit → Value → Result Speed Refusal
gust_of u v = cond (eqb v.which 4) (Ok speed.Missing) (speed_of u v)

-- 000 is calm, and alternative 1 is VRB
abbrev pub direction_of : Value → Result Direction Refusal
direction_of v =
    cond (eqb v.which 1) (Ok direction.Variable)
    (figured v.field (λ d. cond (eqb d 0) (Ok direction.Calm) (used (ddd_reading d) (λ x. Ok (direction.Degrees x)))))

abbrev pub is_calm : Direction → Bool
is_calm direction.Missing = false
is_calm direction.Calm = true
is_calm direction.Variable = false
is_calm (direction.Degrees d) = false

-- calm and zero go together; a gust is above the mean, and there is none with calm
abbrev pub both_or_neither : Bool → Bool → Bool
both_or_neither true b = b
both_or_neither false b = not b

-- "a gust number beside a mean P is 7"
abbrev pub is_below : Speed → ℕ → Bool
is_below speed.Missing g = false
is_below (speed.Is s) g = ltb s g
is_below (speed.Above s) g = false

-- "A gust P may stand over any mean but calm."
abbrev pub gust_agrees : Direction → Speed → Speed → Bool
gust_agrees d s speed.Missing = true
gust_agrees d s (speed.Is g) = not (is_calm d) && is_below s g
gust_agrees d s (speed.Above g) = not (is_calm d)

abbrev pub wind_agrees : Direction → Speed → Speed → Bool
wind_agrees d s g = both_or_neither (is_calm d) (is_still s) && gust_agrees d s g

abbrev pub wind_with : Unit → Direction → Speed → Speed → Wind
wind_with u d s g = record { direction = d; speed = s; gust = g; unit = u }

abbrev pub no_wind : Unit → Wind
no_wind u = record { direction = direction.Missing; speed = speed.Missing; gust = speed.Missing; unit = u }

-- "///// and unit": three slashes, two slashes, no gust
abbrev pub is_no_wind : Value → Value → Value → Bool
is_no_wind d s g = eqb d.which 0 && is_missing d.field && eqb s.which 1 && is_missing s.field && eqb g.which 4

unfoldable pub wind_by : Bool → Unit → Value → Value → Value → Result Wind Refusal
wind_by forecast u d s g =
    cond (is_no_wind d s g) (provided (not forecast) (Ok (no_wind u)))
    (then (direction_of d) (λ x. then (speed_of u s) (λ y. then (gust_of u g) (λ z. agreeing (wind_agrees x y z) (Ok (wind_with u x y z))))))

unfoldable pub read_wind : Bool → Group → Result Wind Refusal
read_wind forecast g =
    wind_by forecast (unit_of (value_at wind_shape g 3).which) (value_at wind_shape g 0) (value_at wind_shape g 1) (value_at wind_shape g 2)

-- dddVddd
abbrev pub variation_shape : List ℕ
variation_shape = bytes "###V###"

unfoldable pub read_variation : Group → Result Variation Refusal
read_variation g =
    figured (field_at g 0 3)
    (λ a. figured (field_at g 4 3)
    (λ b. used (ddd_reading a) (λ x. used (ddd_reading b) (λ y. agreeing (not (eqb a b)) (Ok (record { is = Some (extremes_of x y) }))))))

-- ---- writing

-- an alternative that has no figures; one with a number
abbrev pub chosen : ℕ → Value
chosen k = record { which = k; field = field.Other }

abbrev pub numbered : ℕ → Field → Value
numbered k f = record { which = k; field = f }

abbrev pub direction_value : Direction → Value
direction_value direction.Missing = numbered 0 field.Missing
direction_value direction.Calm = numbered 0 (field.Number 0)
direction_value direction.Variable = chosen 1
direction_value (direction.Degrees d) = numbered 0 (field.Number (ddd_figure d))

-- "The writer uses P for 100 knots, 50 m/s, 200 km/h and more": a speed that is over the last one written as a number
abbrev pub is_over : Unit → Speed → Bool
is_over u speed.Missing = false
is_over u (speed.Is s) = ltb (last_exact u) s
is_over u (speed.Above s) = leb (last_exact u) s

-- the class of a speed: "P is an open class, read back as "above" its figure"; every other speed is a class of its own
abbrev pub class_speed : Unit → Speed → Speed
class_speed u s = cond (is_over u s) (speed.Above (last_exact u)) s

abbrev pub speed_value : Speed → Value
speed_value speed.Missing = numbered 1 field.Missing
speed_value (speed.Is s) = numbered (cond (leb 100 s) 0 1) (field.Number s)
speed_value (speed.Above s) = numbered (cond (leb 100 s) 2 3) (field.Number s)

abbrev pub gust_value : Speed → Value
gust_value speed.Missing = chosen 4
gust_value (speed.Is s) = speed_value (speed.Is s)
gust_value (speed.Above s) = speed_value (speed.Above s)

abbrev pub unit_value : Unit → Value
unit_value unit.Missing = chosen 3
unit_value unit.Knots = chosen 0
unit_value unit.MetresPerSecond = chosen 1
unit_value unit.KilometresPerHour = chosen 2

abbrev pub wind_values : Unit → Direction → Speed → Speed → List Value
wind_values u d s g = direction_value d ∷ speed_value s ∷ gust_value g ∷ unit_value u ∷ []

unfoldable pub show_wind : Wind → Group
show_wind w = print_of wind_shape (wind_values w.unit w.direction (class_speed w.unit w.speed) (class_speed w.unit w.gust))

abbrev pub extremes_group : Option Extremes → List Group
extremes_group None = []
extremes_group (Some x) = (figures 3 (ddd_figure x.from) ++ bytes "V" ++ figures 3 (ddd_figure x.to)) ∷ []

unfoldable pub show_variation : Variation → List Group
show_variation v = extremes_group v.is

-- ---- judging: a wind in range, missing as a whole (in a TAF not at all), with a unit

abbrev pub has_unit : Unit → Bool
has_unit u = not (no_unit u)

-- "a km/h number in a record may now be 0 to 999", knots and m/s "three for 100-199"
abbrev pub most_speed : Unit → ℕ
most_speed unit.Missing = 0
most_speed unit.Knots = 199
most_speed unit.MetresPerSecond = 199
most_speed unit.KilometresPerHour = 999

-- ""above" another figure" is 11
abbrev pub speed_fits : Unit → Speed → Bool
speed_fits u speed.Missing = false
speed_fits u (speed.Is s) = leb s (most_speed u)
speed_fits u (speed.Above s) = eqb s (last_exact u)

abbrev pub gust_fits : Unit → Speed → Bool
gust_fits u g = no_speed g || speed_fits u g

abbrev pub wind_fits : Bool → Unit → Direction → Speed → Speed → Bool
wind_fits forecast u direction.Missing s g = not forecast && no_speed s && no_speed g
wind_fits forecast u direction.Calm s g = speed_fits u s && gust_fits u g
wind_fits forecast u direction.Variable s g = speed_fits u s && gust_fits u g
wind_fits forecast u (direction.Degrees d) s g = leb d 359 && speed_fits u s && gust_fits u g

-- "agreement being judged on the figures it would write"
unfoldable pub judge_wind : Bool → Wind → Result ⊤ Refusal
judge_wind forecast w =
    judge (has_unit w.unit && wind_fits forecast w.unit w.direction w.speed w.gust)
    (wind_agrees w.direction (class_speed w.unit w.speed) (class_speed w.unit w.gust))

abbrev pub extremes_fit : Option Extremes → Bool
extremes_fit None = true
extremes_fit (Some x) = leb x.from 359 && leb x.to 359

-- on the figures that would be written
abbrev pub extremes_agree : Option Extremes → Bool
extremes_agree None = true
extremes_agree (Some x) = not (eqb (ddd_figure x.from) (ddd_figure x.to))

unfoldable pub judge_variation : Variation → Result ⊤ Refusal
judge_variation v = judge (extremes_fit v.is) (extremes_agree v.is)

-- ---- what is read back

abbrev pub class_wind : Wind → Wind
class_wind w =
    record {
      direction = class_direction w.direction;
      speed = class_speed w.unit w.speed;
      gust = class_speed w.unit w.gust;
      unit = w.unit;
    }

-- speeds of one unit in order: "above" a number is "greater than each number up to it"
abbrev pub speed_rank : Speed → ℕ
speed_rank speed.Missing = 0
speed_rank (speed.Is s) = s
speed_rank (speed.Above s) = s + 1

abbrev pub class_extremes : Option Extremes → Option Extremes
class_extremes None = None
class_extremes (Some x) = Some (extremes_of (rounded_direction x.from) (rounded_direction x.to))

abbrev pub class_variation : Variation → Variation
class_variation v = record { is = class_extremes v.is }
