-- The round trip of T/Td and of Q: what the writer judges fine and writes has its shape, is read back as its class, and the class is written alike.
-- Assumes nothing.
use Rattle.std.specs.Prelude.{ℤ, None, Ok, Option, Some}
use Prim.Native.Nat.{ℕ}
use native.Mathlib.Omega.{arith}
use mathlib.Core.Path.{◌≡◌, refl, ◌∙◌}
use mathlib.Core.Bool.{Bool, true, false, cond}
use mathlib.Core.List.{[], ◌∷◌, append-nil}
use lib.ListN.{replicate}
use lib.Dec.{leb, leb-zero, eqb}
use Rattle.figures.specs.Quote.{bytes}
use Rattle.figures.specs.declared.kinds.Field.TheVariants as field
use Rattle.figures.specs.Figures.{field_at, field_text, Fits}
use Rattle.figures.proofs.Figures.{field_back}
use Rattle.text.proofs.Judging.{fine}
use Rattle.shapes.specs.Pattern.{low, high, fits, has_pattern, has_any}
use Rattle.shapes.specs.declared.kinds.Value.{Value}
use Rattle.shapes.specs.Shape.{leading, split, parts_of, spellings, unled, unled_each, clear, printable, sound, has_shape}
use Rattle.shapes.proofs.Patterns.{both, pattern-append, field-pattern}
use Rattle.shapes.proofs.Shapes.{covered}
use Rattle.places.specs.Engine.{Group}
use Rattle.scales.specs.Degrees.{rounded_degrees}
use Rattle.scales.specs.Rounded.{pressure_reading, rounded_pressure}
use Rattle.scales.proofs.DegreesLaws.{degrees-rounds, fit_written, written-fits, two-figures}
use Rattle.scales.proofs.PressureLaws as pressures
use Rattle.record.specs.declared.aerodrome.Temperatures.{Temperatures}
use Rattle.record.specs.declared.aerodrome.Qnh.{Qnh}
use Rattle.record.specs.Missing.{optional}
use Rattle.elements.specs.Parts.{may_miss, used}
use Rattle.elements.specs.Wind.{chosen, numbered}
use Rattle.aerodrome_groups.specs.Temperatures.{temperatures_shape, read_degrees, read_temperatures, degrees_values, show_temperatures, tenths_fit, is_pressure, judge_temperatures, class_tenths, class_temperatures, qnh_shape, read_qnh, pressure_field, show_qnh, judge_qnh, class_pressure, class_qnh}
use Rattle.aerodrome_groups.proofs.Printed.{SaidAt, Shaped, Printed, printed}

pub temperatures-covered : (g : Group) → has_shape temperatures_shape g ≡ true → has_any (spellings (parts_of temperatures_shape)) g ≡ true
temperatures-covered g h = covered temperatures_shape g h

-- ---- one temperature

-- M or nothing, and two figures or slashes, which are read as the class
record Told (x : Option ℤ) : Type 0 where
  mark : Value
  whole : Value
  same : degrees_values x ≡ mark ∷ whole ∷ []
  mark-said : SaidAt (bytes "M" ∷ [] ∷ []) mark
  whole-said : SaidAt (bytes "##" ∷ []) whole
  back : read_degrees mark whole ≡ Ok (class_tenths x)

minus-said : (minus : Bool) → SaidAt (bytes "M" ∷ [] ∷ []) (chosen (cond minus 0 1))
unfolding leading
minus-said true = (refl, refl)
minus-said false = (refl, refl)

minus-back : (minus : Bool) → eqb (cond minus 0 1) 0 ≡ minus
minus-back true = refl
minus-back false = refl

told : (x : Option ℤ) → tenths_fit x ≡ true → Told x
unfolding leading
told None e =
    record { mark = chosen 1; whole = numbered 0 field.Missing; same = refl; mark-said = minus-said false; whole-said = (refl, tt); back = refl }
told (Some t) e =
    let w = fit_written t e in
    let r = degrees-rounds.back t w.0 w.1 in
    record {
      mark = chosen (cond w.0.0 0 1);
      whole = numbered 0 (field.Number w.0.1);
      same = rw w.1;
      mark-said = minus-said w.0.0;
      whole-said = (refl, omega (arith, two-figures w.0.0 w.0.1 r));
      back = rw (minus-back w.0.0, r);
    }

tenths-again : (x : Option ℤ) → tenths_fit x ≡ true → degrees_values (class_tenths x) ≡ degrees_values x
tenths-again None e = refl
tenths-again (Some t) e = let w = fit_written t e in rw (w.1, degrees-rounds.again t w.0 w.1)

tenths-classed : (x : Option ℤ) → tenths_fit x ≡ true → tenths_fit (class_tenths x) ≡ true
tenths-classed None e = refl
tenths-classed (Some t) e =
    let w = fit_written t e in
    written-fits (rounded_degrees t) w.0.0 w.0.1 (degrees-rounds.again t w.0 w.1)

-- ---- T/Td

temperatures-sound : sound temperatures_shape ≡ true
unfolding sound clear printable parts_of split leading spellings unled_each unled low high
temperatures-sound = refl

temperatures-fit : (t : Temperatures) → judge_temperatures t ≡ Ok tt → (tenths_fit t.air ≡ true) × (tenths_fit t.dew ≡ true)
unfolding judge_temperatures
temperatures-fit t e = both (tenths_fit t.air) (tenths_fit t.dew) (fine _ true e).0

module _ (t : Temperatures) (e : judge_temperatures t ≡ Ok tt) where
  air : Told t.air
  air = told t.air (temperatures-fit t e).0

  dew : Told t.dew
  dew = told t.dew (temperatures-fit t e).1

  temperatures-printed : Printed temperatures_shape (air.mark ∷ air.whole ∷ chosen 0 ∷ dew.mark ∷ dew.whole ∷ []) (show_temperatures t)
  unfolding show_temperatures parts_of split leading
  temperatures-printed =
      rw (air.same, dew.same)
      (printed temperatures_shape (air.mark ∷ air.whole ∷ chosen 0 ∷ dew.mark ∷ dew.whole ∷ []) temperatures-sound
      (air.mark-said, (air.whole-said, ((refl, refl), (dew.mark-said, (dew.whole-said, tt)))))
      refl)

  pub temperatures-shaped : Shaped temperatures_shape (show_temperatures t)
  temperatures-shaped = temperatures-printed.shaped

  pub temperatures-back : read_temperatures (show_temperatures t) ≡ Ok (class_temperatures t)
  unfolding read_temperatures
  temperatures-back =
      let p = temperatures-printed in
      rw (p.says 0, p.says 1, p.says 3, p.says 4, air.back, dew.back)

  pub temperatures-again : show_temperatures (class_temperatures t) ≡ show_temperatures t
  unfolding show_temperatures
  temperatures-again = let f = temperatures-fit t e in rw (tenths-again t.air f.0, tenths-again t.dew f.1)

  pub temperatures-classed : judge_temperatures (class_temperatures t) ≡ Ok tt
  unfolding judge_temperatures
  temperatures-classed = let f = temperatures-fit t e in rw (tenths-classed t.air f.0, tenths-classed t.dew f.1)

-- ---- Q

-- a pressure in range is not above the greatest
not-over : (p : ℕ) → is_pressure p ≡ true → leb p 99999 ≡ true
not-over p e = (both (leb 0 p) (leb p 99999) e).1

-- what is in range has a figure of four figures
pressure-fits : (n : Option ℕ) → optional is_pressure n ≡ true → Fits 4 (pressure_field n)
pressure-fits None e = tt
pressure-fits (Some p) e = let w = pressures.pressure-written p (not-over p e) in rw w.1 (omega (arith, w.2))

module _ (q : Qnh) (e : judge_qnh q ≡ Ok tt) where
  in-range : optional is_pressure q.is ≡ true
  unfolding judge_qnh
  in-range = (fine (optional is_pressure q.is) true e).0

  four : Fits 4 (pressure_field q.is)
  four = pressure-fits q.is in-range

  pub qnh-shaped : has_pattern (show_qnh q) qnh_shape ≡ true
  unfolding show_qnh has_pattern fits low high
  qnh-shaped =
      pattern-append (bytes "Q") (field_text 4 (pressure_field q.is)) (bytes "Q") (replicate 4 35) refl refl
      ∙ field-pattern 4 (pressure_field q.is) (omega arith) four

  field_is : field_at (show_qnh q) 1 4 ≡ pressure_field q.is
  unfolding show_qnh
  field_is = rw append-nil at (field_back (bytes "Q") [] 4 (pressure_field q.is) (omega arith) (omega arith) four)

  pub qnh-back : read_qnh (show_qnh q) ≡ Ok (class_qnh q)
  unfolding read_qnh
  qnh-back = rw field_is (by q.is in-range)
    where
      by : (n : Option ℕ) → optional is_pressure n ≡ true
          → may_miss {A = Qnh} (pressure_field n) (Ok (record { is = None })) (λ n. used (pressure_reading n) (λ p. Ok (record { is = Some p }))) ≡ Ok (record { is = class_pressure n })
      by None h = refl
      by (Some p) h = let w = pressures.pressure-written p (not-over p h) in rw (w.1, (pressures.pressure-rounds).back p w.0 w.1)

  pub qnh-classed : judge_qnh (class_qnh q) ≡ Ok tt
  unfolding judge_qnh
  qnh-classed = rw (by q.is in-range)
    where
      by : (n : Option ℕ) → optional is_pressure n ≡ true → optional is_pressure (class_pressure n) ≡ true
      by None h = refl
      by (Some p) h = rw (leb-zero (rounded_pressure p)) (pressures.pressure-low p (not-over p h))

pub qnh-again : (q : Qnh) → show_qnh (class_qnh q) ≡ show_qnh q
unfolding show_qnh
qnh-again q = rw (by q.is)
  where
    by : (n : Option ℕ) → pressure_field (class_pressure n) ≡ pressure_field n
    by None = refl
    by (Some p) = rw (pressures.pressure-again p)
