-- The groups of a SYNOP or SHIP that are read are judged fine and are their own class.
-- Assumes nothing.
use Rattle.std.specs.Prelude.{None, Ok, Option, Some}
use Prim.Native.Nat.{ℕ, zero, suc, ◌+◌, ◌/◌, ◌%◌, ◌≤◌, ◌<◌}
use native.Mathlib.Omega.{arith}
use native.Mathlib.Nat.{mod-lt}
use mathlib.Core.Path.{◌≡◌, refl, sym, ap, ◌∙◌}
use mathlib.Core.Bool.{Bool, true, false, cond, not, ◌&&◌, ◌||◌, or-true, false≢true}
use mathlib.Core.List.{[], ◌∷◌}
use lib.ListN.{length, take, drop}
use lib.Dec.{leb, ltb, eqb}
use lib.IntN.{ℤ, nat_abs}
use borrow.Author.Tests.{leb-true, leb-false, le-leb, lt-leb, ltb-true, ltb-false, lt-ltb, le-ltb, eqb-true, eqb-false, ne_eqb, not-false}
use Rattle.figures.proofs.Impossible.{impossible}
use Rattle.figures.specs.declared.kinds.Field.TheVariants as field
use Rattle.figures.specs.Quote.{bytes}
use Rattle.figures.specs.Figures.{field_at, is_slash, every}
use Rattle.figures.specs.Signed.{negative, with_sign}
use Rattle.figures.proofs.Signs.{magnitude-back, sign-back}
use Rattle.text.specs.Judge.{judge}
use Rattle.text.proofs.Judging.{fine}
use Rattle.shapes.specs.Pattern.{low, high, fits, has_pattern}
use Rattle.shapes.proofs.Patterns.{both, both_false, pattern-length}
use Rattle.places.specs.Engine.{Group}
use Rattle.scales.specs.declared.kinds.Rain.{Rain}
use Rattle.scales.specs.declared.kinds.Rain.TheVariants as rain
use Rattle.scales.specs.Metres.{land, sea, base, metres_reading}
use Rattle.scales.specs.Rounded.{rain_fits, rain_figure, rain_reading, direction_reading}
use Rattle.scales.specs.Degrees.{signed_reading}
use Rattle.scales.specs.Layers.{layer_steps, layer_bands}
use Rattle.scales.proofs.MetresRounds.{land-rounds, sea-rounds, base-rounds}
use Rattle.scales.proofs.LayersLaws.{steps-rounds, bands-rounds}
use Rattle.scales.proofs.RainLaws.{rain-rounds}
use Rattle.record.specs.declared.values.Direction.{Direction}
use Rattle.record.specs.declared.values.Direction.TheVariants as direction
use Rattle.record.specs.declared.values.Speed.{Speed}
use Rattle.record.specs.declared.values.Speed.TheVariants as speed
use Rattle.record.specs.declared.surface.Position.{Position}
use Rattle.record.specs.declared.surface.Sight.{Sight}
use Rattle.record.specs.declared.surface.Sight.TheVariants as sight
use Rattle.record.specs.declared.surface.Indicators.{Indicators}
use Rattle.record.specs.declared.surface.Wind.{Wind}
use Rattle.record.specs.declared.surface.Rainfall.{Rainfall}
use Rattle.record.specs.declared.surface.BaseHeight.{BaseHeight}
use Rattle.record.specs.declared.surface.BaseHeight.TheVariants as height
use Rattle.record.specs.declared.surface.CloudLayer.{CloudLayer}
use Rattle.record.specs.Missing.{is_missing, between, optional}
use Rattle.record.specs.SilentSurface.{no_height, is_blank_layer}
use Rattle.record.specs.Classes.{class_direction}
use Rattle.record.specs.Values.{fall_of}
use Rattle.synop_groups.specs.declared.kinds.Said.{Said}
use Rattle.synop_groups.specs.declared.kinds.Said.TheVariants as said
use Rattle.synop_groups.specs.Position.{is_quadrant, is_south, is_west, latitude_of, longitude_of}
use Rattle.synop_groups.specs.Reads.{figured, may_miss, missing, part, unless, is_unit, time_of, said_time, said_station, latitude_is, said_latitude, read_latitude, position_of, said_longitude, base_of, sight_of, indicators_of, said_indicators, wind_by, no_wind, said_wind, speed_is, said_speed, air_is, said_air, moisture_is, said_moisture, pressure_of, said_pressure, is_level, level_is, said_level, tendency_is, said_tendency, rainfall_of, said_rainfall, said_weather, said_clouds, clock_is, said_clock, height_of, said_layer}
use Rattle.synop_groups.specs.Judge.{metres, judge_time, judge_station, latitude_fits, longitude_fits, judge_position, sight_fits, judge_indicators, wind_fits, wind_agrees, judge_wind, judge_air, judge_moisture, judge_pressure, judge_level, change_suits, judge_tendency, judge_rainfall, judge_weather, judge_clouds, judge_clock, height_fits, layer_fits}
use Rattle.synop_groups.specs.Classes.{class_base, class_sight, class_indicators, class_wind, class_rainfall, class_height, class_layer}
use Rattle.synop_groups.specs.Shows.{is_in_three}
use Rattle.accepted_laws.proofs.Tells.{Tells, told, refused, tells-cond, tells-figured, tells-may-miss, tells-missing, tells-part, tells-part-or-none, tells-used, tells-either, tells-tenths, tells-rain, tells-unless}
use Rattle.accepted_laws.proofs.Values.{metres-own, metres-low, direction-own, direction-low, rain-own}
use Rattle.accepted_laws.proofs.Fields.{field_bound, field-missing}

from_zero : (n : ℕ) → leb 0 n ≡ true
from_zero n = le-leb 0 n (omega arith)

-- ---- time, station, position

pub time-told : (g : Group) → Tells said.Time (λ t. judge_time t ≡ Ok tt) (said_time g)
unfolding said_time time_of judge_time
time-told g =
    tells-figured (field_at g 0 2)
    (λ d a. tells-figured (field_at g 2 2)
    (λ h b. tells-figured (field_at g 4 1)
    (λ w c. tells-cond (leb 1 d && leb d 31 && leb h 23 && is_unit w) (λ e. told (fits d h w e)) (λ e. refused))))
  where
    fits : (d h w : ℕ) → (leb 1 d && leb d 31 && leb h 23 && is_unit w) ≡ true
        → judge ((leb 1 d && leb d 31) && (leb 0 h && leb h 23) && is_unit w) true ≡ Ok tt
    fits d h w e =
        let unit = both (leb 1 d && leb d 31 && leb h 23) (is_unit w) e in
        let hour = both (leb 1 d && leb d 31) (leb h 23) unit.0 in
        rw (hour.0, from_zero h, hour.1, unit.1)

pub station-told : (g : Group) → Tells said.Station (λ n. judge_station (Some n) ≡ Ok tt) (said_station g)
unfolding said_station judge_station
station-told g = tells-figured (field_at g 0 5) (λ n e. told (rw (from_zero n, le-leb n 99999 (omega (arith, field_bound g 0 5 n e)))))

pub latitude-told : (g : Group) → Tells said.Position (λ p. Unit {0}) (said_latitude g)
unfolding said_latitude latitude_is
latitude-told g = tells-figured (field_at g 2 3) (λ m e. tells-cond (leb m 900) (λ h. told tt) (λ h. refused))

west-fits : (west : Bool) (m : ℕ) → m ≤ 1800 → longitude_fits (Some (with_sign (west && not (eqb m 1800)) m)) ≡ true
west-fits false m h = le-leb m 1800 h
west-fits true m h = go (eqb m 1800) refl
  where
    cold : (m : ℕ) → m ≤ 1799 → longitude_fits (Some (with_sign true m)) ≡ true
    cold zero h = refl
    cold (suc m) h = rw (le-leb m 1798 (omega (arith, h)))

    go : (b : Bool) → eqb m 1800 ≡ b → longitude_fits (Some (with_sign (true && not b) m)) ≡ true
    go true e = le-leb m 1800 h
    go false e = cold m (omega (arith, h, eqb-false m 1800 e))

pub longitude-told : (p : Position) (g : Group) → Tells said.Position (λ q. judge_position q ≡ Ok tt) (said_longitude p g)
unfolding said_longitude position_of judge_position
longitude-told p g =
    tells-figured (field_at g 0 1)
    (λ q a. tells-figured (field_at g 1 4)
    (λ m b. tells-cond (leb (read_latitude p.latitude) 900 && leb m 1800 && is_quadrant q) (λ e. told (fits q m e)) (λ e. refused)))
  where
    fits : (q m : ℕ) → (leb (read_latitude p.latitude) 900 && leb m 1800 && is_quadrant q) ≡ true
        → judge (latitude_fits (Some (latitude_of q (read_latitude p.latitude))) && longitude_fits (Some (longitude_of q m))) true ≡ Ok tt
    fits q m e =
        let x = (both (leb (read_latitude p.latitude) 900 && leb m 1800) (is_quadrant q) e).0 in
        let y = both (leb (read_latitude p.latitude) 900) (leb m 1800) x in
        rw (magnitude-back (is_south q) (read_latitude p.latitude), y.0, west-fits (is_west q) m (leb-true m 1800 y.1))

-- ---- iR ix h VV

pub record IndicatorsRead (i : Indicators) : Type 0 where
  pub fine : judge_indicators i ≡ Ok tt
  pub own : class_indicators i ≡ i

pub indicators-told : (g : Group) → Tells said.Indicators IndicatorsRead (said_indicators g)
unfolding said_indicators indicators_of judge_indicators
indicators-told g =
    tells-figured (field_at g 0 1)
    (λ r a. tells-figured (field_at g 1 1)
    (λ x b. base-told (λ h. sight_of (field_at g 3 2) (λ v. indicators_of r x h v)) (λ h hr. sight-told (λ v. indicators_of r x h v)
    (λ v vr. tells-cond (leb r 4 && leb 1 x && leb x 7) (λ e. told (record { fine = fits r x h v e hr.0 vr.0; own = rw (hr.1, vr.1) })) (λ e. refused)))))
  where
    base-told : (k : Option ℕ → Said) → ((h : Option ℕ) → (optional metres h ≡ true) × (class_base h ≡ h) → Tells said.Indicators IndicatorsRead (k h))
        → Tells said.Indicators IndicatorsRead (base_of (field_at g 2 1) k)
    base-told k p =
        tells-may-miss (field_at g 2 1) (λ none. p None (refl, refl))
        (λ n e. tells-used (metres_reading base n) (λ m f. p (Some m) (metres-low base base-rounds n m f, ap Some (metres-own base base-rounds n m f))))

    sight-told : (k : Sight → Said) → ((v : Sight) → (sight_fits v ≡ true) × (class_sight v ≡ v) → Tells said.Indicators IndicatorsRead (k v))
        → Tells said.Indicators IndicatorsRead (sight_of (field_at g 3 2) k)
    sight-told k p =
        tells-either (λ v. (sight_fits v ≡ true) × (class_sight v ≡ v)) land sea sight.Land sight.Sea sight.Missing (field_at g 3 2) k land-rounds sea-rounds
        (λ none. (refl, refl)) (λ m low own. (low, ap sight.Land own)) (λ m low own. (low, ap sight.Sea own)) p

    fits : (r x : ℕ) (h : Option ℕ) (v : Sight) → (leb r 4 && leb 1 x && leb x 7) ≡ true → optional metres h ≡ true → sight_fits v ≡ true
        → judge ((leb 0 r && leb r 4) && (leb 1 x && leb x 7) && optional metres h && sight_fits v) true ≡ Ok tt
    fits r x h v e a b =
        let l = both (leb r 4 && leb 1 x) (leb x 7) e in
        let m = both (leb r 4) (leb 1 x) l.0 in
        rw (from_zero r, m.0, m.1, l.1, a, b)

-- ---- N dd ff, and 00fff after ff 99

pub record WindRead (w : Wind) : Type 0 where
  pub fine : judge_wind w ≡ Ok tt
  pub own : class_wind w ≡ w

wind-by-told : (n : Option ℕ) (dd ff : ℕ) → optional (between 0 9) n ≡ true → ff < 100 → Tells said.Wind WindRead (wind_by n dd ff)
unfolding wind_by judge_wind
wind-by-told n dd ff c few =
    let most = le-leb ff 999 (omega (arith, few)) in
    tells-cond (eqb dd 0) (λ z. tells-cond (eqb ff 0) (λ s. told (record { fine = rw (c, most, s); own = refl })) (λ s. refused))
    (λ z. tells-cond (eqb dd 99) (λ y. tells-cond (not (eqb ff 0)) (λ s. told (record { fine = rw (c, most, s); own = refl })) (λ s. refused))
    (λ y. tells-used (direction_reading dd)
    (λ d e. tells-cond (not (eqb ff 0)) (λ s. told (record { fine = rw (c, direction-low dd d e, most, s); own = rw (direction-own dd d e) })) (λ s. refused))))

pub wind-told : (g : Group) → Tells said.Wind WindRead (said_wind g)
unfolding said_wind judge_wind
wind-told g =
    tells-part g 0 1 9 (λ n. may_miss (field_at g 1 2) (missing (field_at g 3 2) (no_wind n)) (λ dd. figured (field_at g 3 2) (λ ff. wind_by n dd ff))) (omega arith)
    (λ n c. tells-may-miss (field_at g 1 2) (λ none. tells-missing (field_at g 3 2) (told (record { fine = rw c; own = refl })))
    (λ dd a. tells-figured (field_at g 3 2) (λ ff b. wind-by-told n dd ff c (field_bound g 3 2 ff b))))

pub speed-told : (due : Bool) (g : Group) → Tells said.Speed (λ n. (due ≡ true) × (99 ≤ n) × (n ≤ 999)) (said_speed due g)
unfolding said_speed speed_is
speed-told due g =
    tells-figured (field_at g 2 3)
    (λ n e. tells-cond (leb 99 n) (λ h. tells-cond due (λ d. told (d, leb-true 99 n h, omega (arith, field_bound g 2 3 n e))) (λ d. refused)) (λ h. refused))

-- a wind of 99 units or more, with the speed that 00fff gives it
pub speed-set : (w : Wind) (n : ℕ) → WindRead w → is_in_three w.speed ≡ true → 99 ≤ n → n ≤ 999 → WindRead (record { cover = w.cover; direction = w.direction; speed = speed.Is n })
unfolding judge_wind
speed-set w n r three low high = go w.direction w.speed three (fine _ _ r.fine) (ap (λ (x : Wind). x.direction) r.own)
  where
    go : (d : Direction) (s : Speed) → is_in_three s ≡ true → ((optional (between 0 9) w.cover && wind_fits d s) ≡ true) × (wind_agrees d s ≡ true) → class_direction d ≡ d
        → WindRead (record { cover = w.cover; direction = d; speed = speed.Is n })
    go d speed.Missing t j o = absurd (false≢true t)
    go d (speed.Above k) t j o = absurd (false≢true t)
    go direction.Missing (speed.Is k) t j o = absurd (false≢true (both (optional (between 0 9) w.cover) false j.0).1)
    go direction.Calm (speed.Is k) t j o =
        let some : 99 ≤ k = leb-true 99 k t in
        let none : k ≡ 0 = eqb-true k 0 j.1 in
        absurd (omega (arith, some, none))
    go direction.Variable (speed.Is k) t j o =
        record { fine = rw ((both (optional (between 0 9) w.cover) (leb k 999) j.0).0, le-leb n 999 high, ne_eqb n 0 (omega (arith, low))); own = refl }
    go (direction.Degrees d) (speed.Is k) t j o =
        let c = both (optional (between 0 9) w.cover) (leb d 359 && leb k 999) j.0 in
        record { fine = rw (c.0, (both (leb d 359) (leb k 999) c.1).0, le-leb n 999 high, ne_eqb n 0 (omega (arith, low))); own = ap (λ (x : Direction). record { cover = w.cover; direction = x; speed = speed.Is n }) o }

-- ---- 1, 2, 3, 4, 5

signed_low : (s t : ℕ) (z : ℤ) → signed_reading s t ≡ Some z → leb (nat_abs z) 999 ≡ true
unfolding signed_reading
signed_low s t z e = go (ltb 1 s || ltb 999 t || (eqb s 1 && eqb t 0)) refl e
  where
    go : (b : Bool) → (ltb 1 s || ltb 999 t || (eqb s 1 && eqb t 0)) ≡ b → cond b None (Some (with_sign (eqb s 1) t)) ≡ Some z → leb (nat_abs z) 999 ≡ true
    go true q e = impossible (cc)
    go false q e =
        let is : with_sign (eqb s 1) t ≡ z = cc in
        let low = (both_false (ltb 1 s) (ltb 999 t) (both_false (ltb 1 s || ltb 999 t) _ q).0).1 in
        rw (← is, magnitude-back (eqb s 1) t) (le-leb t 999 (ltb-false 999 t low))

pub air-told : (g : Group) → Tells said.Air (λ a. judge_air a ≡ Ok tt) (said_air g)
unfolding said_air air_is judge_air
air-told g = tells-may-miss (field_at g 1 4) (λ none. told refl) (λ n e. tells-tenths (signed_reading (n / 1000) (n % 1000)) (λ t f. told (rw (signed_low _ _ t f))))

pub moisture-told : (g : Group) → Tells said.Moisture (λ m. judge_moisture m ≡ Ok tt) (said_moisture g)
unfolding said_moisture moisture_is judge_moisture
moisture-told g =
    tells-may-miss (field_at g 1 4) (λ none. told refl)
    (λ n e. tells-cond (eqb (n / 1000) 9) (λ u. tells-cond (leb (n % 1000) 100) (λ h. told (rw h)) (λ h. refused))
    (λ u. tells-tenths (signed_reading (n / 1000) (n % 1000)) (λ t f. told (rw (signed_low _ _ t f)))))

pressure-within : (n low : ℕ) → n < 10000 → low ≤ 10000 → (999 < n → low ≤ n) → between low 10999 (pressure_of n) ≡ true
pressure-within n low h z l = go (leb n 999) refl
  where
    go : (b : Bool) → leb n 999 ≡ b → between low 10999 (cond b (n + 10000) n) ≡ true
    go true e = let m = leb-true n 999 e in rw (le-leb low (n + 10000) (omega arith), le-leb (n + 10000) 10999 (omega (arith, m)))
    go false e = let m = leb-false n 999 e in rw (le-leb low n (l m), le-leb n 10999 (omega arith))

pub pressure-told : (g : Group) → Tells said.Pressure (λ p. judge_pressure p ≡ Ok tt) (said_pressure g)
unfolding said_pressure judge_pressure
pressure-told g =
    tells-may-miss (field_at g 1 4) (λ none. told refl) (λ n e. told (rw (pressure-within n 1000 (field_bound g 1 4 n e) (omega arith) (λ h. omega arith))))

pub level-told : (g : Group) → Tells said.Level (λ l. judge_level l ≡ Ok tt) (said_level g)
unfolding said_level level_is judge_level
level-told g =
    tells-may-miss (field_at g 1 4) (λ none. told refl)
    (λ n e. tells-cond (leb n 999 || leb 9000 n) (λ t. told (rw (pressure-within n 9000 (field_bound g 1 4 n e) (omega arith) (λ h. high n t h))))
    (λ t. tells-cond (is_level (n / 1000)) (λ l. told (rw (l, le-leb (n % 1000) 999 (omega (arith, mod-lt n {m = 1000} (omega arith)))))) (λ l. refused)))
  where
    high : (n : ℕ) → (leb n 999 || leb 9000 n) ≡ true → 999 < n → 9000 ≤ n
    high n t h = leb-true 9000 n (rw (lt-leb n 999 h) at t)

pub tendency-told : (g : Group) → Tells said.Tendency (λ t. judge_tendency t ≡ Ok tt) (said_tendency g)
unfolding said_tendency tendency_is judge_tendency
tendency-told g =
    tells-may-miss (field_at g 1 4) (λ none. told refl)
    (λ n e. tells-cond (ltb 8 (n / 1000) || (eqb (n / 1000) 4 && not (eqb (n % 1000) 0))) (λ t. refused)
    (λ t. told (fits (n / 1000) (n % 1000) (omega (arith, mod-lt n {m = 1000} (omega arith))) t)))
  where
    suits : (a p : ℕ) → (eqb a 4 && not (eqb p 0)) ≡ false → change_suits a (with_sign (ltb 4 a) p) ≡ true
    suits a p t = less (ltb a 4) refl (eqb a 4) refl
      where
        less : (b : Bool) → ltb a 4 ≡ b → (c : Bool) → eqb a 4 ≡ c
            → cond b (not (negative (with_sign (ltb 4 a) p))) (cond c (eqb (nat_abs (with_sign (ltb 4 a) p)) 0) (negative (with_sign (ltb 4 a) p) || eqb (nat_abs (with_sign (ltb 4 a) p)) 0)) ≡ true
        less true l c q = rw (le-ltb 4 a (omega (arith, ltb-true a 4 l)))
        less false l true q = rw (magnitude-back (ltb 4 a) p) (not-false (eqb p 0) (rw q at t))
        less false l false q = some (eqb p 0) refl
          where
            some : (b : Bool) → eqb p 0 ≡ b → (negative (with_sign (ltb 4 a) p) || eqb (nat_abs (with_sign (ltb 4 a) p)) 0) ≡ true
            some true z = rw (magnitude-back (ltb 4 a) p, z) (or-true (negative (with_sign (ltb 4 a) p)))
            some false z =
                let far = lt-ltb 4 a (omega (arith, ltb-false a 4 l, eqb-false a 4 q)) in
                let minus = sign-back true p (omega (arith, eqb-false p 0 z)) in
                rw (far, minus)

    fits : (a p : ℕ) → p ≤ 999 → (ltb 8 a || (eqb a 4 && not (eqb p 0))) ≡ false
        → judge (leb a 8 && leb (nat_abs (with_sign (ltb 4 a) p)) 999) (change_suits a (with_sign (ltb 4 a) p)) ≡ Ok tt
    fits a p h t =
        let x = both_false (ltb 8 a) (eqb a 4 && not (eqb p 0)) t in
        rw (suits a p x.1, le-leb a 8 (ltb-false 8 a x.0), magnitude-back (ltb 4 a) p, le-leb p 999 h)

-- ---- 6, 7, 8, 9

rain-fits : (f : ℕ) (r : Rain) → rain_figure r ≡ Some f → rain_fits r ≡ true
unfolding rain_figure
rain-fits f rain.Trace e = refl
rain-fits f (rain.Tenths t) e = go (eqb t 0 || ltb 99999 t) refl e
  where
    go : (b : Bool) → (eqb t 0 || ltb 99999 t) ≡ b → cond b None (cond (ltb t 10) (Some (990 + t)) (cond (ltb t 9885) (Some ((t + 5) / 10)) (Some 989))) ≡ Some f
        → (leb 1 t && leb t 99999) ≡ true
    go true q e = impossible (cc)
    go false q e =
        let x = both_false (eqb t 0) (ltb 99999 t) q in
        rw (le-leb 1 t (omega (arith, eqb-false t 0 x.0)), le-leb t 99999 (ltb-false 99999 t x.1))

pub record RainfallRead (forbidden : Bool) (r : Rainfall) : Type 0 where
  pub fine : judge_rainfall forbidden r ≡ Ok tt
  pub own : class_rainfall r ≡ r

pub rainfall-told : (forbidden : Bool) (g : Group) → Tells said.Rainfall (RainfallRead forbidden) (said_rainfall forbidden g)
unfolding said_rainfall judge_rainfall
rainfall-told forbidden g =
    tells-may-miss (field_at g 1 3) (λ none. tells-missing (field_at g 4 1) (tells-unless forbidden (λ may. told {a = record { is = None }} (record { fine = rw may; own = refl }))))
    (λ n e. tells-part g 4 1 9 (λ t. rainfall_of forbidden n t) (omega arith)
    (λ t c. tells-rain (rain_reading n)
    (λ r f. tells-unless forbidden (λ may. told {a = record { is = Some (fall_of r t) }} (record { fine = rw (rain-fits n r (rain-rounds.own n r f), c, may); own = rw (rain-own n r f) })))))

pub weather-told : (forbidden : Bool) (g : Group) → Tells said.Weather (λ w. judge_weather forbidden w ≡ Ok tt) (said_weather forbidden g)
unfolding said_weather judge_weather
weather-told forbidden g =
    tells-part g 1 2 99 (λ w. part (field_at g 3 1) (λ p. part (field_at g 4 1) (λ q. said-so w p q))) (omega arith)
    (λ w a. tells-part g 3 1 9 (λ p. part (field_at g 4 1) (λ q. said-so w p q)) (omega arith)
    (λ p b. tells-part g 4 1 9 (λ q. said-so w p q) (omega arith) (λ q c. tells-unless forbidden (λ may. told (rw (a, b, c, may))))))
  where
    said-so : Option ℕ → Option ℕ → Option ℕ → Said
    said-so w p q = unless forbidden (said.Weather (record { present = w; past = p; past2 = q }))

pub clouds-told : (g : Group) → Tells said.Clouds (λ c. judge_clouds c ≡ Ok tt) (said_clouds g)
unfolding said_clouds judge_clouds
clouds-told g =
    tells-part g 1 1 9 (λ n. part (field_at g 2 1) (λ l. part (field_at g 3 1) (λ m. part (field_at g 4 1) (λ h. said-so n l m h)))) (omega arith)
    (λ n a. tells-part g 2 1 9 (λ l. part (field_at g 3 1) (λ m. part (field_at g 4 1) (λ h. said-so n l m h))) (omega arith)
    (λ l b. tells-part g 3 1 9 (λ m. part (field_at g 4 1) (λ h. said-so n l m h)) (omega arith)
    (λ m c. tells-part g 4 1 9 (λ h. said-so n l m h) (omega arith) (λ h d. told (rw (a, b, c, d))))))
  where
    said-so : Option ℕ → Option ℕ → Option ℕ → Option ℕ → Said
    said-so n l m h = said.Clouds (record { amount = n; low = l; middle = m; high = h })

pub clock-told : (g : Group) → Tells said.Clock (λ c. judge_clock c ≡ Ok tt) (said_clock g)
unfolding said_clock clock_is judge_clock
clock-told g =
    tells-figured (field_at g 1 2) (λ h a. tells-figured (field_at g 3 2) (λ m b. tells-cond (leb h 23 && leb m 59) (λ e. told (rw e)) (λ e. refused)))

-- ---- 8NChh of section 3

pub record LayerRead (l : CloudLayer) : Type 0 where
  pub fits : layer_fits l ≡ true
  pub own : class_layer l ≡ l

-- a group of this shape in which all is missing is 8////
only-slashes : (g : Group) → has_pattern g (bytes "8####") ≡ true → field_at g 1 1 ≡ field.Missing → field_at g 2 1 ≡ field.Missing → field_at g 3 2 ≡ field.Missing
    → has_pattern g (bytes "8////") ≡ true
unfolding has_pattern fits low high
only-slashes g h p q r = go g (pattern-length g (bytes "8####") refl h) h (field-missing g 1 1 p) (field-missing g 2 1 q) (field-missing g 3 2 r)
  where
    go : (g : Group) → length g ≡ 5 → has_pattern g (bytes "8####") ≡ true → every is_slash (take 1 (drop 1 g)) ≡ true → every is_slash (take 1 (drop 2 g)) ≡ true
        → every is_slash (take 2 (drop 3 g)) ≡ true → has_pattern g (bytes "8////") ≡ true
    go [] five h p q r = absurd (omega (arith, five))
    go (a ∷ []) five h p q r = absurd (omega (arith, five))
    go (a ∷ b ∷ []) five h p q r = absurd (omega (arith, five))
    go (a ∷ b ∷ c ∷ []) five h p q r = absurd (omega (arith, five))
    go (a ∷ b ∷ c ∷ d ∷ []) five h p q r = absurd (omega (arith, five))
    go (a ∷ b ∷ c ∷ d ∷ e ∷ []) five h p q r =
        let eight = (both (leb 56 a && leb a 56) _ h).0 in
        let amount = eqb-true b 47 (both (is_slash b) true p).0 in
        let cloud = eqb-true c 47 (both (is_slash c) true q).0 in
        let x = both (is_slash d) (is_slash e && true) r in
        let tens = eqb-true d 47 x.0 in
        let ones = eqb-true e 47 (both (is_slash e) true x.1).0 in
        rw (amount, cloud, tens, ones, eight)
    go (a ∷ b ∷ c ∷ d ∷ e ∷ f ∷ g) five h p q r = absurd (omega (arith, five))

-- any other says something
pub layer-told : (g : Group) → has_pattern g (bytes "8####") ≡ true → has_pattern g (bytes "8////") ≡ false → Tells said.Layer LayerRead (said_layer g)
unfolding said_layer layer_fits
layer-told g has filled =
    tells-part-or-none g 1 1 9 (λ n. part (field_at g 2 1) (λ c. height_of (field_at g 3 2) (λ h. said-so n c h))) (omega arith)
    (λ n a x. tells-part-or-none g 2 1 9 (λ c. height_of (field_at g 3 2) (λ h. said-so n c h)) (omega arith)
    (λ c b y. tells-either HeightRead layer_steps layer_bands height.Steps height.Bands height.Missing (field_at g 3 2) (λ h. said-so n c h) steps-rounds bands-rounds
    (λ none. (refl, refl, λ m. none)) (λ m low own. (low, ap height.Steps own, λ m. absurd (false≢true m))) (λ m low own. (low, ap height.Bands own, λ m. absurd (false≢true m)))
    (λ h d. told (record { fits = rw (some n c h x y d.2, a, b, d.0); own = rw d.1 }))))
  where
    said-so : Option ℕ → Option ℕ → BaseHeight → Said
    said-so n c h = said.Layer (record { amount = n; cloud = c; height = h })

    HeightRead : BaseHeight → Type 0
    HeightRead h = (height_fits h ≡ true) × (class_height h ≡ h) × (no_height h ≡ true → field_at g 3 2 ≡ field.Missing)

    some : (n c : Option ℕ) (h : BaseHeight) → (is_missing n ≡ true → field_at g 1 1 ≡ field.Missing) → (is_missing c ≡ true → field_at g 2 1 ≡ field.Missing)
        → (no_height h ≡ true → field_at g 3 2 ≡ field.Missing) → is_blank_layer (record { amount = n; cloud = c; height = h }) ≡ false
    some n c h x y z = go (is_missing n && is_missing c && no_height h) refl
      where
        go : (b : Bool) → (is_missing n && is_missing c && no_height h) ≡ b → b ≡ false
        go true e =
            let p = both (is_missing n && is_missing c) (no_height h) e in
            let q = both (is_missing n) (is_missing c) p.0 in
            absurd (false≢true (sym filled ∙ only-slashes g has (x q.0) (y q.1) (z p.1)))
        go false e = refl
