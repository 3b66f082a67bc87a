-- T/Td, in tenths of a degree in the record and in whole degrees in the text; and Q, in tenths of hPa.
-- Assumes nothing: these are definitions.
use Rattle.std.specs.Prelude.{ℤ, ⊤, ℕ, Bool, true, cond, not, ◌&&◌, List, [], ◌∷◌, ◌++◌, eqb, None, Ok, Option, Result, Some}
use Rattle.text.specs.declared.kinds.Refusal.{Refusal}
use Rattle.figures.specs.Quote.{bytes}
use Rattle.figures.specs.declared.kinds.Field.{Field}
use Rattle.figures.specs.declared.kinds.Field.TheVariants as field
use Rattle.figures.specs.Figures.{field_at, field_text}
use Rattle.text.specs.Judge.{judge}
use Rattle.shapes.specs.Pattern.{Pattern}
use Rattle.shapes.specs.declared.kinds.Value.{Value}
use Rattle.shapes.specs.Shape.{print_of}
use Rattle.places.specs.Engine.{Group}
use Rattle.scales.specs.declared.kinds.Degrees.{Degrees}
use Rattle.scales.specs.Degrees.{degrees_fit, rounded_degrees, degrees_of, degrees_reading}
use Rattle.scales.specs.Rounded.{pressure_figure, pressure_reading, rounded_pressure}
use Rattle.scales.specs.Fields.{field_by}
use Rattle.record.specs.declared.aerodrome.Temperatures.{Temperatures}
use Rattle.record.specs.declared.aerodrome.Qnh.{Qnh}
use Rattle.record.specs.Missing.{between, optional}
use Rattle.elements.specs.Parts.{wrong, may_miss, used, provided, then, value_at}
use Rattle.elements.specs.Wind.{chosen, numbered}

abbrev pub temperatures_shape : List ℕ
temperatures_shape = bytes "M| ## / M| ##"

abbrev pub degrees_is : Option ℤ → Result (Option ℤ) Refusal
degrees_is (Some t) = Ok (Some t)
degrees_is None = wrong

-- M is alternative 0
abbrev pub read_degrees : Value → Value → Result (Option ℤ) Refusal
read_degrees mark f =
    may_miss f.field (provided (not (eqb mark.which 0)) (Ok None)) (λ n. degrees_is (degrees_reading (eqb mark.which 0) n))

abbrev pub temperatures_by : Value → Value → Value → Value → Result Temperatures Refusal
temperatures_by m a n b = then (read_degrees m a) (λ x. then (read_degrees n b) (λ y. Ok (record { air = x; dew = y })))

unfoldable pub read_temperatures : Group → Result Temperatures Refusal
read_temperatures g =
    temperatures_by (value_at temperatures_shape g 0) (value_at temperatures_shape g 1) (value_at temperatures_shape g 3) (value_at temperatures_shape g 4)

-- Q, and Q//// is missing

abbrev pub qnh_shape : Pattern
qnh_shape = bytes "Q####"

unfoldable pub read_qnh : Group → Result Qnh Refusal
read_qnh g =
    may_miss (field_at g 1 4) (Ok (record { is = None })) (λ n. used (pressure_reading n) (λ p. Ok (record { is = Some p })))

-- ---- writing

-- M and the figures of whole degrees
abbrev pub minus_value : Option Degrees → Value
minus_value (Some x) = chosen (cond x.minus 0 1)
minus_value None = chosen 2

abbrev pub whole_value : Option Degrees → Value
whole_value (Some x) = numbered 0 (field.Number x.whole)
whole_value None = chosen 0

abbrev pub degrees_values : Option ℤ → List Value
degrees_values None = chosen 1 ∷ numbered 0 field.Missing ∷ []
degrees_values (Some t) = minus_value (degrees_of t) ∷ whole_value (degrees_of t) ∷ []

unfoldable pub show_temperatures : Temperatures → Group
show_temperatures t = print_of temperatures_shape (degrees_values t.air ++ (chosen 0 ∷ degrees_values t.dew))

abbrev pub pressure_field : Option ℕ → Field
pressure_field None = field.Missing
pressure_field (Some p) = field_by (pressure_figure p)

unfoldable pub show_qnh : Qnh → Group
show_qnh q = bytes "Q" ++ field_text 4 (pressure_field q.is)

-- ---- judging

abbrev pub tenths_fit : Option ℤ → Bool
tenths_fit None = true
tenths_fit (Some t) = degrees_fit t

unfoldable pub judge_temperatures : Temperatures → Result ⊤ Refusal
judge_temperatures t = judge (tenths_fit t.air && tenths_fit t.dew) true

-- 0.0 to 9,999.9 hPa: what four figures of whole hPa can say
abbrev pub is_pressure : ℕ → Bool
is_pressure = between 0 99999

unfoldable pub judge_qnh : Qnh → Result ⊤ Refusal
judge_qnh q = judge (optional is_pressure q.is) true

-- ---- what is read back

abbrev pub class_tenths : Option ℤ → Option ℤ
class_tenths None = None
class_tenths (Some t) = Some (rounded_degrees t)

abbrev pub class_temperatures : Temperatures → Temperatures
class_temperatures t = record { air = class_tenths t.air; dew = class_tenths t.dew }

abbrev pub class_pressure : Option ℕ → Option ℕ
class_pressure None = None
class_pressure (Some p) = Some (rounded_pressure p)

abbrev pub class_qnh : Qnh → Qnh
class_qnh q = record { is = class_pressure q.is }
