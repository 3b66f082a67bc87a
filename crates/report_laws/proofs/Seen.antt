-- Document 02, No. 11, of accepted records and what is read of their texts: no nearer figure was passed over. And "a table says visibility 4000 m, so what may
-- the observer have seen?", on every scale.
-- Assumes nothing.
use Rattle.std.specs.Prelude.{None, Ok, Option, Some}
use Prim.Native.Nat.{ℕ, zero, suc, ◌≤◌, ◌<◌}
use native.Mathlib.Omega.{arith}
use mathlib.Core.Path.{◌≡◌, refl, sym, ap, ◌∙◌}
use mathlib.Core.Bool.{Bool, true, false, ◌&&◌, and-eq-true_iff}
use mathlib.Core.List.{List, [], ◌∷◌, map}
use mathlib.Core.Logic.{◌↔◌}
use lib.ListN.{get_or}
use lib.IntN.{ℤ, pos, nat_abs, ◌*ℤ◌}
use lib.Dec.{leb, eqb}
use borrow.Author.Tests.{leb-true, le-leb, eqb-true}
use Rattle.figures.specs.Figures.{every}
use Rattle.figures.specs.Signed.{negative}
use Rattle.text.proofs.Judging as judging
use Rattle.scales.specs.Scale.{run, class_in, length_in, figure_of, read_of}
use Rattle.scales.specs.Metres as scale
use Rattle.scales.specs.Degrees.{degrees_fit, whole_degrees, is_minus_zero, rounded_degrees, degrees_of, degrees_with}
use Rattle.scales.specs.Rounded.{pressure_figure, pressure_reading, rounded_pressure, rain_fits, rounded_rain, rounded_direction}
use Rattle.scales.specs.declared.kinds.Rain.{Rain}
use Rattle.scales.proofs.Nearest.{nearest-feet, pressure-nearest}
use Rattle.scales.proofs.DegreesNearest.{far_apart, no-degree-nearer}
use Rattle.scales.proofs.PressureLaws.{pressure-written, pressure-rounds}
use Rattle.seen_values.specs.Seen.{Within, seen_on}
use Rattle.seen_values.specs.Rounded.{seen_pressure, seen_rain, WithinRain, seen_direction, WithinArc, seen_degrees, WithinDegrees}
use Rattle.seen_values.proofs.Exactly as metres
use Rattle.seen_values.proofs.Rounds as rounded
use Rattle.seen_values.proofs.DegreesLaws.{degrees-seen}
use Rattle.record.specs.Missing.{optional}
use Rattle.record.specs.declared.aerodrome.Edition.{Edition}
use Rattle.record.specs.declared.aerodrome.Metar.{Metar}
use Rattle.record.specs.Arrays.{MetarArrays}
use Rattle.aerodrome_groups.specs.Temperatures.{class_tenths, class_pressure, tenths_fit, is_pressure, judge_temperatures, judge_qnh}
use Rattle.metar.specs.Write as metar
use Rattle.metar_laws.proofs.Report.{fair-observation, fair-bare}
use Rattle.report_record.specs.declared.kinds.Report.{Report}
use Rattle.report.specs.Write.{judge_in}
use Rattle.report_laws.proofs.Numbers.{Table, visibility, Figures, scale_of, same_of, laws_of, foot_on, class_on, numbers_of, temperatures_of, pressures_of, read_at}
use Rattle.report_laws.proofs.RoundTrip.{Arrays, Fair, surface, observed, forecast, fair}
use Rattle.report_laws.proofs.Demands.{Exactly, back, classes-read, temperatures-read, pressures-read}

-- the figure that a value is written as, and what a figure is read as, on each scale that rounds down
abbrev pub figure_on : (t : Table) → ℕ → Figures t
figure_on t v = figure_of (scale_of t) v

abbrev pub read_on : (t : Table) → Figures t → Option ℕ
read_on t f = read_of (same_of t) (scale_of t) f

-- what stands at a place of a list, and what stands there once each number was read back
came-back : {A : Type 0} (none : A) (f : A → A) → f none ≡ none → (xs : List A) {ys : List A} → ys ≡ map f xs → (i : ℕ) {a b : A} → get_or xs i none ≡ a → get_or ys i none ≡ b → f a ≡ b
came-back {A} none f z xs e i p q = ap f (sym p) ∙ sym (read_at none f z xs i) ∙ ap (λ (zs : List A). get_or zs i none) (sym e) ∙ q

-- ---- what an accepted record has may be written

module _ (m : Metar) (arrays : MetarArrays m) (e : metar.judge_of m ≡ Ok tt) where
  temperatures-fit : tenths_fit m.observation.temperatures.air && tenths_fit m.observation.temperatures.dew ≡ true
  unfolding judge_temperatures
  temperatures-fit = go m.observation.nil refl
    where
      go : (b : Bool) → m.observation.nil ≡ b → tenths_fit m.observation.temperatures.air && tenths_fit m.observation.temperatures.dew ≡ true
      go true n = rw (fair-bare m arrays e n).temperatures
      go false n = (judging.fine (tenths_fit m.observation.temperatures.air && tenths_fit m.observation.temperatures.dew) true (fair-observation m e n).temperatures).0

  pressure-fits : optional is_pressure m.observation.qnh.is ≡ true
  unfolding judge_qnh
  pressure-fits = go m.observation.nil refl
    where
      go : (b : Bool) → m.observation.nil ≡ b → optional is_pressure m.observation.qnh.is ≡ true
      go true n = rw (fair-bare m arrays e n).qnh
      go false n = (judging.fine (optional is_pressure m.observation.qnh.is) true (fair-observation m e n).qnh).0

all-temperatures : {chosen : Edition} {r : Report} → Fair chosen r → every tenths_fit (temperatures_of r) ≡ true
all-temperatures (surface s arrays e) = refl
all-temperatures (observed m arrays e) =
    let b = (and-eq-true_iff (tenths_fit m.observation.temperatures.air) (tenths_fit m.observation.temperatures.dew)).0 (temperatures-fit m arrays e) in
    rw (b.0, b.1)
all-temperatures (forecast t arrays own e) = refl

all-pressures : {chosen : Edition} {r : Report} → Fair chosen r → every (optional is_pressure) (pressures_of r) ≡ true
all-pressures (surface s arrays e) = refl
all-pressures (observed m arrays e) = rw (pressure-fits m arrays e)
all-pressures (forecast t arrays own e) = refl

one-of : {A : Type 0} (ok : A → Bool) (none : A) → ok none ≡ true → (xs : List A) (i : ℕ) → every ok xs ≡ true → ok (get_or xs i none) ≡ true
one-of ok none z [] i e = z
one-of ok none z (x ∷ xs) zero e = ((and-eq-true_iff (ok x) (every ok xs)).0 e).0
one-of ok none z (x ∷ xs) (suc i) e = one-of ok none z xs i ((and-eq-true_iff (ok x) (every ok xs)).0 e).1

-- written as M00: -0.5 to -0.1
minus-zero-written : (t : ℤ) → degrees_fit t ≡ true → is_minus_zero t ≡ true → degrees_of t ≡ Some (degrees_with true 0)
unfolding degrees_of is_minus_zero
minus-zero-written t h z =
    let p = (and-eq-true_iff (negative t) (eqb (nat_abs (whole_degrees t)) 0)).0 z in
    rw (h, p.0, eqb-true (nat_abs (whole_degrees t)) 0 p.1)

-- ==== Nothing nearer below. Of an accepted record, v is the number at one place among its numbers of a scale, and w what stands there once its text was read.

module _ (chosen : Edition) (r : Report) (arrays : Arrays r) (fine : judge_in chosen r ≡ Ok tt) (i : ℕ) where
  module _ (t : Table) (v w : ℕ) (is : get_or (numbers_of t r) i None ≡ Some v) (read : get_or (numbers_of t (back chosen r)) i None ≡ Some w) where
    number_read : foot_on t v ≡ w
    number_read =
        let e : Some (foot_on t v) ≡ Some w = came-back None (class_on t) refl (numbers_of t r) (classes-read chosen r arrays fine t) i is read in
        cc

    -- "no figure of that same scale has a reading greater than the one written and still not above the observation"
    pub nothing-nearer : (g : Figures t) (n : ℕ) → read_on t g ≡ Some n → w < n → n ≤ v → ⊥
    nothing-nearer g n q l h =
        (nearest-feet (laws_of t)).nothing-nearer v (figure_on t v) (foot_on t v) refl ((laws_of t).reads-back v) g n q (omega (arith, number_read, l)) h

    -- the value is one of those that may have been seen where w is read
    pub number-within : Within (seen_on (scale_of t) w) v
    number-within = (metres.seen-exactly (laws_of t) w v).0 number_read

  -- the same of Q, in tenths of hPa
  module _ (v w : ℕ) (is : get_or (pressures_of r) i None ≡ Some v) (read : get_or (pressures_of (back chosen r)) i None ≡ Some w) where
    pressure-is : rounded_pressure v ≡ w
    pressure-is =
        let e : Some (rounded_pressure v) ≡ Some w = came-back None class_pressure refl (pressures_of r) (pressures-read chosen r arrays fine) i is read in
        cc

    pressure-fit : v ≤ 99999
    pressure-fit =
        let o : is_pressure v ≡ true = rw is at (one-of (optional is_pressure) None refl (pressures_of r) i (all-pressures (fair chosen r arrays fine))) in
        leb-true v 99999 ((and-eq-true_iff (leb 0 v) (leb v 99999)).0 o).1

    pub pressure-nothing-nearer : (g n : ℕ) → pressure_reading g ≡ Some n → w < n → n ≤ v → ⊥
    pressure-nothing-nearer g n q l h =
        let (f, e, k) = pressure-written v (le-leb v 99999 pressure-fit) in
        pressure-nearest.nothing-nearer v f w e (pressure-rounds.back v f e ∙ ap Some pressure-is) g n q l h

    pub pressure-within : Within (seen_pressure w) v
    pressure-within = (rounded.pressure-seen w v pressure-fit).0 pressure-is

  -- Aerodrome temperature: "no writable whole degree is nearer to the observation, M00 aside"; in tenths.
  module _ (v w : ℤ) (is : get_or (temperatures_of r) i None ≡ Some v) (read : get_or (temperatures_of (back chosen r)) i None ≡ Some w) where
    temperature-is : rounded_degrees v ≡ w
    temperature-is =
        let e : Some (rounded_degrees v) ≡ Some w = came-back None class_tenths refl (temperatures_of r) (temperatures-read chosen r arrays fine) i is read in
        cc

    temperature-fits : degrees_fit v ≡ true
    temperature-fits = rw is at (one-of tenths_fit None refl (temperatures_of r) i (all-temperatures (fair chosen r arrays fine)))

    pub temperature-nothing-nearer : (degrees_of v ≡ Some (degrees_with true 0) → ⊥) → (k : ℤ) → far_apart v w ≤ far_apart v (k *ℤ pos 10)
    temperature-nothing-nearer n k = rw temperature-is at (no-degree-nearer v (whole (is_minus_zero v) refl) k)
      where
        whole : (b : Bool) → is_minus_zero v ≡ b → b ≡ false
        whole true e = absurd (n (minus-zero-written v temperature-fits e))
        whole false e = refl

    pub temperature-within : WithinDegrees (seen_degrees w) v
    temperature-within = (degrees-seen w v temperature-fits).0 temperature-is

-- "each used figure is the one written for its own reading"
pub own-figure : (t : Table) (f : Figures t) (m : ℕ) → read_on t f ≡ Some m → figure_on t m ≡ f
own-figure t = (nearest-feet (laws_of t)).own-figure

pub pressure-own-figure : (f m : ℕ) → pressure_reading f ≡ Some m → pressure_figure m ≡ Some f
pressure-own-figure = pressure-nearest.own-figure

-- ==== What may the observer have seen where a table says m? Exactly the values that come back as m; what `seen_values` answers is that.

exactly : {A B : Type 0} → A ↔ B → Exactly A B
exactly (only, all) = record { only = only; all = all }

pub seen : (t : Table) (m v : ℕ) → Exactly (foot_on t v ≡ m) (Within (seen_on (scale_of t) m) v)
seen t m v = exactly (metres.seen-exactly (laws_of t) m v)

-- of what may be written on the other scales
pub pressure-seen : (m v : ℕ) → v ≤ 99999 → Exactly (rounded_pressure v ≡ m) (Within (seen_pressure m) v)
pressure-seen m v h = exactly (rounded.pressure-seen m v h)

pub temperature-seen : (m v : ℤ) → degrees_fit v ≡ true → Exactly (rounded_degrees v ≡ m) (WithinDegrees (seen_degrees m) v)
temperature-seen m v h = exactly (degrees-seen m v h)

pub rain-seen : (m v : Rain) → rain_fits v ≡ true → Exactly (rounded_rain v ≡ m) (WithinRain (seen_rain m) v)
rain-seen m v h = exactly (rounded.rain-seen m v h)

pub direction-seen : (d v : ℕ) → v ≤ 359 → Exactly (rounded_direction v ≡ d) (WithinArc (seen_direction d) v)
direction-seen d v h = exactly (rounded.direction-seen d v h)

-- visibility 4000 m: 4,000 m or more and less than 4,100 m, and nothing else
pub seen-4000 : (v : ℕ) → Exactly (foot_on visibility v ≡ 4000) ((4000 ≤ v) × (v < 4100))
unfolding seen_on scale.visibility run class_in length_in
seen-4000 v =
    let s : Exactly (foot_on visibility v ≡ 4000) ((4000 ≤ v) × (v ≤ 4099)) = seen visibility 4000 v in
    record { only = λ e. let (l, h) = s.only e in (l, omega arith); all = λ (l, h). s.all (l, omega arith) }
