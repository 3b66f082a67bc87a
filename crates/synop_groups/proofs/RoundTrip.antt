-- The round trip of section 1 after Nddff, group by group: what the writer judges fine and writes has its shape, and is read back as it was.
-- Assumes nothing.
use Rattle.std.specs.Prelude.{None, Ok, Option, Some}
use mathlib.Core.Path.{◌≡◌, refl, ap, ◌∙◌}
use mathlib.Core.Bool.{Bool, true, false, cond, not, ◌&&◌, ◌||◌, or-true, false≢true}
use mathlib.Core.List.{List, [], ◌∷◌, ◌++◌}
use mathlib.Core.Logic.{◌⊎◌, inl, inr, ⊎_elim}
use Prim.Native.Nat.{ℕ, suc, ◌+◌, ◌*◌, ◌/◌, ◌%◌, ◌≤◌, ◌<◌}
use native.Mathlib.Omega.{arith}
use lib.Dec.{leb, ltb, eqb}
use lib.IntN.{ℤ, pos, negsuc, nat_abs}
use borrow.Author.Tests.{leb-true, leb-false, le-leb, lt-leb, le-ltb, lt-ltb, ltb-true, ltb-false, eqb-true, eqb-false, ne_eqb, not-true}
use Rattle.figures.specs.declared.kinds.Field.TheVariants as field
use Rattle.figures.specs.Quote.{bytes}
use Rattle.figures.specs.Figures.{figures, field_at, every, is_figure, number_text, slashes, field_text}
use Rattle.figures.specs.Signed.{negative, with_sign}
use Rattle.figures.proofs.Signs.{with-sign}
use Rattle.shapes.specs.Pattern.{Pattern, has_pattern, has_any}
use Rattle.shapes.proofs.Patterns.{both, or_cases, or_right}
use Rattle.scales.specs.Degrees.{signed_reading}
use Rattle.scales.specs.declared.kinds.Rain.{Rain}
use Rattle.scales.specs.Rounded.{rain_fits, rain_figure, rain_reading}
use Rattle.scales.specs.Fields.{field_by}
use Rattle.scales.proofs.Laws.{reached}
use Rattle.scales.proofs.DegreesLaws.{signed-exact}
use Rattle.scales.proofs.RainLaws.{rain-written, rain-rounds, rain-again, rain-classed}
use Rattle.record.specs.declared.values.Direction.{Direction}
use Rattle.record.specs.declared.values.Direction.TheVariants as direction
use Rattle.record.specs.declared.values.Speed.{Speed}
use Rattle.record.specs.declared.values.Speed.TheVariants as speed
use Rattle.record.specs.declared.surface.Wind.{Wind}
use Rattle.record.specs.declared.surface.Air.{Air}
use Rattle.record.specs.declared.surface.Moist.{Moist}
use Rattle.record.specs.declared.surface.Moist.TheVariants as moist
use Rattle.record.specs.declared.surface.Moisture.{Moisture}
use Rattle.record.specs.declared.surface.Pressure.{Pressure}
use Rattle.record.specs.declared.surface.AtLevel.{AtLevel}
use Rattle.record.specs.declared.surface.AtLevel.TheVariants as at_level
use Rattle.record.specs.declared.surface.Level.{Level}
use Rattle.record.specs.declared.surface.PressureChange.{PressureChange}
use Rattle.record.specs.declared.surface.Tendency.{Tendency}
use Rattle.record.specs.declared.surface.Fall.{Fall}
use Rattle.record.specs.declared.surface.Rainfall.{Rainfall}
use Rattle.record.specs.declared.surface.Weather.{Weather}
use Rattle.record.specs.declared.surface.Clouds.{Clouds}
use Rattle.record.specs.declared.surface.Observed.{Observed}
use Rattle.record.specs.declared.surface.Clock.{Clock}
use Rattle.record.specs.Blank.{blank_surface}
use Rattle.synop_groups.specs.declared.kinds.Said.{Said}
use Rattle.synop_groups.specs.declared.kinds.Said.TheVariants as said
use Rattle.text.specs.Judge.{judge}
use Rattle.text.proofs.Judging.{fine}
use Rattle.synop_groups.specs.Reads.{Group, wrong, may_miss, used_rain, speed_is, said_speed, pressure_of, is_level, air_is, said_air, moisture_is, said_moisture, said_pressure, level_is, said_level, tendency_is, said_tendency, said_rainfall, said_weather, said_clouds, clock_is, said_clock}
use Rattle.synop_groups.specs.Shows.{moisture_spoken, field_of, is_in_three, speed_group, show_speed, sign_text, signed_group, show_air, show_minimum, minimum_spoken, moist_group, show_moisture, pressure_group, show_pressure, level_group, show_level, tendency_group, show_tendency, rainfall_group, show_rainfall, weather_text, show_weather, clouds_text, show_clouds, clock_group, show_clock}
use Rattle.record.specs.Missing.{is_missing, between, optional}
use Rattle.record.specs.SilentSurface.{no_weather, no_clouds}
use Rattle.record.proofs.SurfaceBlanks.{weather-blank, clouds-blank}
use Rattle.record.specs.Values.{change_of, fall_of}
use Rattle.synop_groups.specs.Judge.{wind_fits, judge_wind, tenths_fit, judge_air, moist_fits, judge_moisture, judge_pressure, level_fits, judge_level, change_fits, change_agrees, judge_tendency, fall_fits, judge_rainfall, judge_weather, judge_clouds, clock_fits, judge_clock}
use Rattle.synop_groups.specs.Classes.{class_fall, class_rainfall, speed_in_two}
use Rattle.synop_groups.proofs.RoundTripParts.{figures-join, at, Laid, parts}
use Rattle.synop_groups.proofs.RoundTripFields.{in-range, chosen, optional-fits, one_figure, one-fits, Slot, slot, parts_of, nth, part-is, asked-back}
use Rattle.synop_groups.proofs.RoundTripHead.{wind-fine}

-- The groups written for a part x of the record: none, where none must stand and the part is blank, or one that has the shape and says the part.
pub data Back {X : Type 0} (shape : Pattern) (must : Bool) (says : Group → Said) (meant : X → Said) (blank x : X) : List Group → Type 0 where
  none : must ≡ false → x ≡ blank → Back shape must says meant blank x []
  one : {g : Group} → has_pattern g shape ≡ true → says g ≡ meant x → Back shape must says meant blank x (g ∷ [])

abbrev pub Each : (Group → Type 0) → List Group → Type 0
Each P [] = Unit {0}
Each P (g ∷ gs) = P g × Each P gs

-- so there is at most one, there is one where one must stand, each has the shape and says the part, and where there is none the part is blank
module _ {X : Type 0} {shape : Pattern} {must : Bool} {says : Group → Said} {meant : X → Said} {blank x : X} where
  pub back-shaped : {gs : List Group} → Back shape must says meant blank x gs → Each (λ g. has_pattern g shape ≡ true) gs
  back-shaped (none m e) = tt
  back-shaped (one h s) = (h, tt)

-- ---- 00fff

-- what 00fff says of a speed
abbrev pub meant_speed : Speed → Said
meant_speed speed.Missing = wrong
meant_speed (speed.Is s) = said.Speed s
meant_speed (speed.Above s) = wrong

speed-small : (d : Direction) (s : ℕ) → wind_fits d (speed.Is s) ≡ true → s ≤ 999
speed-small direction.Missing s f = absurd (false≢true f)
speed-small direction.Calm s f = leb-true s 999 f
speed-small direction.Variable s f = leb-true s 999 f
speed-small (direction.Degrees d) s f = leb-true s 999 (both (leb d 359) (leb s 999) f).1

-- The speed is what Nddff left of it, or 00fff says it.
pub speed-back : (w : Wind) → judge_wind w ≡ Ok tt
    → Back (bytes "00###") (is_in_three w.speed) (said_speed (is_in_three w.speed)) meant_speed (speed_in_two w.speed) w.speed (show_speed w)
unfolding show_speed said_speed speed_is field_text number_text
speed-back w e = go w.direction w.speed (wind-fine w e).1
  where
    go : (d : Direction) (s : Speed) → wind_fits d s ≡ true → Back (bytes "00###") (is_in_three s) (said_speed (is_in_three s)) meant_speed (speed_in_two s) s (speed_group s)
    go d speed.Missing f = none refl refl
    go d (speed.Above s) f = none refl refl
    go d (speed.Is s) f =
        ⊎_elim
        (λ h.
        let l = parts (bytes "00") (at 3 (field.Number s) ∷ []) refl refl (omega (arith, speed-small d s f), tt) in
        rw (le-leb 99 s h) (one l.shaped (rw (l.holds.0, le-leb 99 s h))))
        (λ h. rw (lt-leb 99 s h) (none refl refl))
        (reached 99 s)

-- ---- groups of one field of four figures

-- the figure x and the four figures of n, which k reads as the part y
four-back : {X : Type 0} (meant : X → Said) (blank y : X) (absent : Said) (k : ℕ → Said) (x n : ℕ) (text : List ℕ) → is_figure x ≡ true → n < 10000
    → text ≡ figures 4 n → k n ≡ meant y → Back (x ∷ bytes "####") false (λ g. may_miss (field_at g 1 4) absent k) meant blank y ((x ∷ text) ∷ [])
unfolding field_text number_text
four-back meant blank y absent k x n text e h t r =
    let l : Laid (x ∷ bytes "####") 1 (at 4 (field.Number n) ∷ []) (x ∷ figures 4 n) =
    parts (x ∷ []) (at 4 (field.Number n) ∷ []) (rw e) refl (h, tt) in
    rw t (one l.shaped (rw l.holds.0 r))

-- such a field that is written as one figure and three
split : (a n : ℕ) → n ≤ 999 → ((a * 1000 + n) / 1000 ≡ a) × ((a * 1000 + n) % 1000 ≡ n)
split a n h = (omega arith, omega arith)

-- ---- 1sTTT

-- the figure of a sign
abbrev sign_figure : ℤ → ℕ
sign_figure t = cond (negative t) 1 0

sign_text_lem : (t : ℤ) → nat_abs t ≤ 999 → sign_text t ≡ figures 4 (sign_figure t * 1000 + nat_abs t)
unfolding figures
sign_text_lem (pos n) h = figures-join 1 3 0 n (omega arith)
sign_text_lem (negsuc n) h = figures-join 1 3 1 (suc n) (omega arith)

sign_small : (t : ℤ) → nat_abs t ≤ 999 → sign_figure t * 1000 + nat_abs t < 10000
sign_small (pos n) h = omega arith
sign_small (negsuc n) h = omega arith

-- the field of a sign and three figures is read as they were
signed-field : (t : ℤ) → nat_abs t ≤ 999
    → signed_reading ((sign_figure t * 1000 + nat_abs t) / 1000) ((sign_figure t * 1000 + nat_abs t) % 1000) ≡ Some t
signed-field t h = let d = split (sign_figure t) (nat_abs t) h in rw (d.0, d.1) (signed-exact t h)

-- a temperature after any first figure x
signed_back : (x : ℕ) → is_figure x ≡ true → (a : Air) → judge_air a ≡ Ok tt
    → Back (x ∷ bytes "####") false said_air said.Air blank_surface.air a (signed_group x a.temperature)
unfolding judge_air said_air air_is
signed_back x f a e = go a.temperature e
  where
    go : (t : Option ℤ) → judge (tenths_fit t) true ≡ Ok tt → Back (x ∷ bytes "####") false said_air said.Air blank_surface.air (record { temperature = t }) (signed_group x t)
    go None e = none refl refl
    go (Some t) e =
        let h = leb-true (nat_abs t) 999 (fine _ true e).0 in
        four-back said.Air blank_surface.air (record { temperature = Some t }) (said.Air blank_surface.air) air_is x
        (sign_figure t * 1000 + nat_abs t) (sign_text t) f (sign_small t h) (sign_text_lem t h) (rw (signed-field t h))

pub air-back : (a : Air) → judge_air a ≡ Ok tt → Back (bytes "1####") false said_air said.Air blank_surface.air a (show_air a)
unfolding show_air
air-back = signed_back 49 refl

-- in section 3 the minimum too
pub minimum-back : (a : Air) → judge_air a ≡ Ok tt → Back (bytes "2####") false said_air said.Air blank_surface.air a (show_minimum a)
unfolding show_minimum
minimum-back = signed_back 50 refl

-- ---- 2sTTT, 29UUU

no_nine : (t : ℤ) → eqb (sign_figure t) 9 ≡ false
no_nine (pos n) = refl
no_nine (negsuc n) = refl

dew-read : (t : ℤ) → nat_abs t ≤ 999 → moisture_is (sign_figure t * 1000 + nat_abs t) ≡ said.Moisture (record { is = moist.DewPoint t })
unfolding moisture_is
dew-read t h = rw (signed-field t h, (split (sign_figure t) (nat_abs t) h).0, no_nine t)

humidity-read : (u : ℕ) → u ≤ 100 → moisture_is (9 * 1000 + u) ≡ said.Moisture (record { is = moist.Humidity u })
unfolding moisture_is
humidity-read u h = let d = split 9 u (omega arith) in rw (d.0, d.1, le-leb u 100 h)

pub moisture-back : (m : Moisture) → judge_moisture m ≡ Ok tt
    → Back (bytes "2####") false said_moisture said.Moisture blank_surface.moisture m (show_moisture m)
unfolding judge_moisture show_moisture said_moisture figures
moisture-back m e = go m.is e
  where
    absent : Said
    absent = said.Moisture blank_surface.moisture

    go : (w : Moist) → judge (moist_fits w) true ≡ Ok tt
        → Back (bytes "2####") false said_moisture said.Moisture blank_surface.moisture (record { is = w }) (moist_group w)
    go moist.Missing e = none refl refl
    go (moist.DewPoint t) e =
        let h = leb-true (nat_abs t) 999 (fine _ true e).0 in
        four-back said.Moisture blank_surface.moisture (record { is = moist.DewPoint t }) absent moisture_is 50
        (sign_figure t * 1000 + nat_abs t) (sign_text t) refl (sign_small t h) (sign_text_lem t h) (dew-read t h)
    go (moist.Humidity u) e =
        let h = leb-true u 100 (fine _ true e).0 in
        four-back said.Moisture blank_surface.moisture (record { is = moist.Humidity u }) absent moisture_is 50
        (9 * 1000 + u) (bytes "9" ++ figures 3 u) refl (omega arith) (figures-join 1 3 9 u (omega arith)) (humidity-read u h)

-- "222 with two more characters" stops the reading, and has the shape 2sTTT: but the second figure that is written is 0, 1 or 9
any : (p : Pattern) (g : Group) (ps qs : List Pattern) → has_pattern g p ≡ true → has_any (ps ++ (p ∷ qs)) g ≡ true
unfolding has_any
any p g [] qs h = rw h
any p g (q ∷ ps) qs h = or_right (has_pattern g q) (has_any (ps ++ (p ∷ qs)) g) (any p g ps qs h)

-- the bytes x and three figures
after : (x : List ℕ) (n : ℕ) → every is_figure x ≡ true → n ≤ 999 → has_pattern (x ++ figures 3 n) (x ++ bytes "###") ≡ true
unfolding field_text number_text
after x n f h = (parts x (at 3 (field.Number n) ∷ []) f refl (omega arith, tt)).shaped

pub minimum-covered : (a : Air) → judge_air a ≡ Ok tt → Each (λ g. has_any minimum_spoken g ≡ true) (show_minimum a)
unfolding judge_air show_minimum
minimum-covered a e = go a.temperature (fine (tenths_fit a.temperature) true e).0
  where
    go : (t : Option ℤ) → tenths_fit t ≡ true → Each (λ g. has_any minimum_spoken g ≡ true) (signed_group 50 t)
    go None e = tt
    go (Some (pos n)) e = (any _ _ [] (bytes "21###" ∷ []) (after (bytes "20") n refl (leb-true n 999 e)), tt)
    go (Some (negsuc n)) e = (any _ _ (bytes "20###" ∷ []) [] (after (bytes "21") (suc n) refl (leb-true (suc n) 999 e)), tt)

pub moisture-covered : (m : Moisture) → judge_moisture m ≡ Ok tt → Each (λ g. has_any moisture_spoken g ≡ true) (show_moisture m)
unfolding judge_moisture show_moisture
moisture-covered m e = go m.is (fine (moist_fits m.is) true e).0
  where
    go : (w : Moist) → moist_fits w ≡ true → Each (λ g. has_any moisture_spoken g ≡ true) (moist_group w)
    go moist.Missing e = tt
    go (moist.DewPoint (pos n)) e = (any _ _ [] (bytes "21###" ∷ bytes "29###" ∷ []) (after (bytes "20") n refl (leb-true n 999 e)), tt)
    go (moist.DewPoint (negsuc n)) e =
        (any _ _ (bytes "20###" ∷ []) (bytes "29###" ∷ []) (after (bytes "21") (suc n) refl (leb-true (suc n) 999 e)), tt)
    go (moist.Humidity u) e =
        let h = leb-true u 100 e in
        (any _ _ (bytes "20###" ∷ bytes "21###" ∷ []) [] (after (bytes "29") u refl (omega arith)), tt)

-- ---- 3PPPP

pressure-read : (p : ℕ) → 1000 ≤ p → p ≤ 10999 → pressure_of (p % 10000) ≡ p
pressure-read p low high = go (leb p 9999) refl
  where
    go : (b : Bool) → leb p 9999 ≡ b → pressure_of (p % 10000) ≡ p
    go true e =
        let h = leb-true p 9999 e in
        let same : p % 10000 ≡ p = omega arith in
        rw (same, lt-leb p 999 (omega arith))
    go false e =
        let h = leb-false p 9999 e in
        rw (le-leb (p % 10000) 999 (omega arith)) (omega arith)

pub pressure-back : (p : Pressure) → judge_pressure p ≡ Ok tt
    → Back (bytes "3####") false said_pressure said.Pressure blank_surface.pressure p (show_pressure p)
unfolding judge_pressure show_pressure said_pressure
pressure-back p e = go p.station e
  where
    go : (n : Option ℕ) → judge (optional (between 1000 10999) n) true ≡ Ok tt
        → Back (bytes "3####") false said_pressure said.Pressure blank_surface.pressure (record { station = n }) (pressure_group n)
    go None e = none refl refl
    go (Some n) e =
        let r = in-range 1000 10999 n (fine _ true e).0 in
        four-back said.Pressure blank_surface.pressure (record { station = Some n }) (said.Pressure blank_surface.pressure)
        (λ k. said.Pressure (record { station = Some (pressure_of k) })) 51
        (n % 10000) (figures 4 (n % 10000)) refl (omega arith) refl (rw (pressure-read n r.0 r.1))

-- ---- 4PPPP, 4ahhh

sea-read : (p : ℕ) → 9000 ≤ p → p ≤ 10999 → level_is (p % 10000) ≡ said.Level (record { is = at_level.Pressure p })
unfolding level_is
sea-read p low high = rw (pressure-read p (omega arith) high, near (leb p 9999) refl)
  where
    near : (b : Bool) → leb p 9999 ≡ b → (leb (p % 10000) 999 || leb 9000 (p % 10000)) ≡ true
    near true e =
        let h = leb-true p 9999 e in
        rw (le-leb 9000 (p % 10000) (omega arith)) (or-true (leb (p % 10000) 999))
    near false e = let h = leb-false p 9999 e in rw (le-leb (p % 10000) 999 (omega arith))

-- the figures of the isobaric surfaces
level-bounds : (a : ℕ) → is_level a ≡ true → (1 ≤ a) × (a ≤ 8)
level-bounds a e = chosen 1 8 a (1 ∷ 2 ∷ 5 ∷ 7 ∷ 8 ∷ []) refl e

surface-read : (a h : ℕ) → is_level a ≡ true → h ≤ 999 → level_is (a * 1000 + h) ≡ said.Level (record { is = at_level.Isobaric a h })
unfolding level_is
surface-read a h e s =
    let r = level-bounds a e in
    let d = split a h s in
    rw (lt-leb (a * 1000 + h) 999 (omega arith), lt-leb 9000 (a * 1000 + h) (omega arith), d.0, d.1, e)

pub level-back : (l : Level) → judge_level l ≡ Ok tt → Back (bytes "4####") false said_level said.Level blank_surface.level l (show_level l)
unfolding judge_level show_level said_level
level-back l e = go l.is e
  where
    go : (h : AtLevel) → judge (level_fits h) true ≡ Ok tt
        → Back (bytes "4####") false said_level said.Level blank_surface.level (record { is = h }) (level_group h)
    go at_level.Missing e = none refl refl
    go (at_level.Pressure p) e =
        let r = in-range 9000 10999 p (fine _ true e).0 in
        four-back said.Level blank_surface.level (record { is = at_level.Pressure p }) (said.Level blank_surface.level) level_is 52
        (p % 10000) (figures 4 (p % 10000)) refl (omega arith) refl (sea-read p r.0 r.1)
    go (at_level.Isobaric a h) e =
        let t = both (is_level a) (leb h 999) (fine _ true e).0 in
        let r = level-bounds a t.0 in
        let s = leb-true h 999 t.1 in
        four-back said.Level blank_surface.level (record { is = at_level.Isobaric a h }) (said.Level blank_surface.level) level_is 52
        (a * 1000 + h) (figures 1 a ++ figures 3 h) refl (omega arith) (figures-join 1 3 a h (omega arith)) (surface-read a h t.0 s)

-- ---- 5appp

-- a magnitude gets its sign back where the sign is the number's, or the number is zero
sign-given : (s : Bool) (c : ℤ) → (negative c ≡ s) ⊎ (nat_abs c ≡ 0) → with_sign s (nat_abs c) ≡ c
sign-given s c h = ⊎_elim (λ e. rw (← e) (with-sign c)) (λ z. nothing s c z) h
  where
    nothing : (s : Bool) (c : ℤ) → nat_abs c ≡ 0 → with_sign s (nat_abs c) ≡ c
    nothing true (pos n) z = rw z
    nothing false (pos n) z = refl
    nothing s (negsuc n) z = absurd (omega arith)

change-read : (a : ℕ) (c : ℤ) → a ≤ 8 → change_agrees (Some (change_of a c)) ≡ true → tendency_is a (nat_abs c) ≡ said.Tendency (record { is = Some (change_of a c) })
unfolding tendency_is
change-read a c eight e = rw (le-ltb 8 a eight) (go (ltb a 4) (eqb a 4) refl refl)
  where
    go : (rise level : Bool) → ltb a 4 ≡ rise → eqb a 4 ≡ level
        → cond (eqb a 4 && not (eqb (nat_abs c) 0)) wrong (said.Tendency (record { is = Some (change_of a (with_sign (ltb 4 a) (nat_abs c))) }))
        ≡ said.Tendency (record { is = Some (change_of a c) })
    go true level r l =
        let h = ltb-true a 4 r in
        rw (ne_eqb a 4 (λ q. omega arith), le-ltb 4 a (omega arith), sign-given false c (inl (not-true (negative c) (rw r at e))))
    go false true r l =
        let z : eqb (nat_abs c) 0 ≡ true = rw (r, l) at e in
        rw (l, z, le-ltb 4 a (omega (arith, eqb-true a 4 l)), sign-given false c (inr (eqb-true (nat_abs c) 0 z)))
    go false false r l =
        let h = ltb-false a 4 r in
        let n = eqb-false a 4 l in
        rw (
          l,
          lt-ltb 4 a (omega arith),
          sign-given true c (or_cases (negative c) (eqb (nat_abs c) 0) (rw (r, l) at e) (λ q. inl q) (λ q. inr (eqb-true (nat_abs c) 0 q))),
        )

pub tendency-back : (t : Tendency) → judge_tendency t ≡ Ok tt
    → Back (bytes "5####") false said_tendency said.Tendency blank_surface.tendency t (show_tendency t)
unfolding judge_tendency show_tendency said_tendency
tendency-back t e = go t.is e
  where
    go : (x : Option PressureChange) → judge (change_fits x) (change_agrees x) ≡ Ok tt
        → Back (bytes "5####") false said_tendency said.Tendency blank_surface.tendency (record { is = x }) (tendency_group x)
    go None e = none refl refl
    go (Some x) e =
        let f = fine (change_fits (Some (change_of x.tendency x.change))) (change_agrees (Some (change_of x.tendency x.change))) e in
        let t = both (leb x.tendency 8) (leb (nat_abs x.change) 999) f.0 in
        let eight = leb-true x.tendency 8 t.0 in
        let small = leb-true (nat_abs x.change) 999 t.1 in
        let d = split x.tendency (nat_abs x.change) small in
        four-back said.Tendency blank_surface.tendency (record { is = Some (change_of x.tendency x.change) }) (said.Tendency blank_surface.tendency)
        (λ n. tendency_is (n / 1000) (n % 1000)) 53
        (x.tendency * 1000 + nat_abs x.change) (figures 1 x.tendency ++ figures 3 (nat_abs x.change)) refl (omega arith) (figures-join 1 3 x.tendency (nat_abs x.change) (omega arith))
        (rw (d.0, d.1) (change-read x.tendency x.change eight f.1))

-- ---- 6RRRt

-- an amount and its period
fall-back : (r : Rain) (t : Option ℕ) → fall_fits (Some (fall_of r t)) ≡ true
    → Back (bytes "6####") true (said_rainfall false) said.Rainfall blank_surface.rainfall (record { is = class_fall (Some (fall_of r t)) }) (rainfall_group true (Some (fall_of r t)))
unfolding said_rainfall
fall-back r t e =
    let s = both (rain_fits r) (one_figure t) e in
    let w = rain-written r s.0 in
    let l =
    parts (bytes "6") (at 3 (field_by (rain_figure r)) ∷ at 1 (field_of t) ∷ []) refl refl
    (rw w.1 (omega (arith, w.2)), (one-fits t s.1, tt)) in
    one l.shaped
    (rw (l.holds.0 ∙ ap field_by w.1)
    (part-is _ t (λ n. used_rain (rain_reading w.0) (λ a. said.Rainfall (record { is = Some (fall_of a n) }))) l.holds.1.0
    ∙ rw (rain-rounds.back r w.0 w.1)))

-- required or forbidden by iR
pub rainfall-back : (required : Bool) (r : Rainfall) → judge_rainfall (not required) r ≡ Ok tt
    → Back (bytes "6####") required (said_rainfall (not required)) said.Rainfall blank_surface.rainfall (class_rainfall r) (show_rainfall required r)
unfolding judge_rainfall show_rainfall said_rainfall field_text slashes
rainfall-back required r e = go required r.is (fine (fall_fits r.is) (not (not required) || is_missing r.is) e)
  where
    go : (required : Bool) (f : Option Fall) → (fall_fits f ≡ true) × ((not (not required) || is_missing f) ≡ true)
        → Back (bytes "6####") required (said_rainfall (not required)) said.Rainfall blank_surface.rainfall (record { is = class_fall f }) (rainfall_group required f)
    go true None t =
        let l = parts (bytes "6") (at 3 field.Missing ∷ at 1 field.Missing ∷ []) refl refl (tt, (tt, tt)) in
        one l.shaped (rw (l.holds.0, l.holds.1.0))
    go false None t = none refl refl
    go true (Some x) t = fall-back x.amount x.period t.0
    go false (Some x) t = absurd (false≢true t.1)

-- written again
fall-again : (f : Option Fall) → fall_fits f ≡ true → (fall_fits (class_fall f) ≡ true) × (is_missing (class_fall f) ≡ is_missing f) × ((required : Bool) → rainfall_group required (class_fall f) ≡ rainfall_group required f)
fall-again None e = (refl, refl, λ required. refl)
fall-again (Some x) e =
    let s = both (rain_fits x.amount) (one_figure x.period) e in
    (rw (rain-classed x.amount s.0, s.1), refl, λ required. rw (rain-again x.amount s.0))

pub rainfall-again : (required forbidden : Bool) (r : Rainfall) → judge_rainfall forbidden r ≡ Ok tt → show_rainfall required (class_rainfall r) ≡ show_rainfall required r
unfolding judge_rainfall show_rainfall
rainfall-again required forbidden r e = (fall-again r.is (fine (fall_fits r.is) (not forbidden || is_missing r.is) e).0).2 required

pub rainfall-classed : (forbidden : Bool) (r : Rainfall) → judge_rainfall forbidden r ≡ Ok tt → judge_rainfall forbidden (class_rainfall r) ≡ Ok tt
unfolding judge_rainfall
rainfall-classed forbidden r e =
    let f = fine (fall_fits r.is) (not forbidden || is_missing r.is) e in
    let a = fall-again r.is f.0 in
    rw (a.0, a.1, f.1)

-- ---- 7wwWW

abbrev weather_in : Weather → List Slot
weather_in w = slot 2 w.present ∷ slot 1 w.past ∷ slot 1 w.past2 ∷ []

weather-laid : (forbidden : Bool) (w : Weather) → judge_weather forbidden w ≡ Ok tt → Laid (bytes "7####") 1 (parts_of (weather_in w)) (weather_text w)
unfolding judge_weather weather_text
weather-laid forbidden w e =
    let ok = (fine _ (not forbidden || no_weather w) e).0 in
    let t = both (optional (between 0 99) w.present && one_figure w.past) (one_figure w.past2) ok in
    let s = both (optional (between 0 99) w.present) (one_figure w.past) t.0 in
    parts (bytes "7") (parts_of (weather_in w)) refl refl
    (optional-fits 2 99 w.present (omega arith) s.0, (one-fits w.past s.1, (one-fits w.past2 t.1, tt)))

abbrev weather_of : List (Option ℕ) → Said
weather_of ns = said.Weather (record { present = nth 0 ns; past = nth 1 ns; past2 = nth 2 ns })

either : (b : Bool) (gs : List Group) → cond b gs gs ≡ gs
either true gs = refl
either false gs = refl

-- required or forbidden by ix
pub weather-back : (required : Bool) (w : Weather) → judge_weather (not required) w ≡ Ok tt
    → Back (bytes "7####") required (said_weather (not required)) said.Weather blank_surface.weather w (show_weather required w)
unfolding judge_weather show_weather said_weather
weather-back true w e =
    let l = weather-laid false w e in
    rw (either (no_weather w) (weather_text w ∷ [])) (one l.shaped (asked-back (weather_text w) 1 (weather_in w) weather_of l.holds))
weather-back false w e =
    let h = (fine (optional (between 0 99) w.present && one_figure w.past && one_figure w.past2) (no_weather w) e).1 in
    rw h (none refl (weather-blank w h))

-- ---- 9GGgg

pub clock-back : (c : Clock) → judge_clock c ≡ Ok tt → Back (bytes "9####") false said_clock said.Clock blank_surface.clock c (show_clock c)
unfolding judge_clock show_clock said_clock clock_is field_text number_text
clock-back c e = go c.is e
  where
    go : (o : Option Observed) → judge (clock_fits o) true ≡ Ok tt
        → Back (bytes "9####") false said_clock said.Clock blank_surface.clock (record { is = o }) (clock_group o)
    go None e = none refl refl
    go (Some x) e =
        let t = both (leb x.hour 23) (leb x.minute 59) (fine _ true e).0 in
        let hour = leb-true x.hour 23 t.0 in
        let minute = leb-true x.minute 59 t.1 in
        let l = parts (bytes "9") (at 2 (field.Number x.hour) ∷ at 2 (field.Number x.minute) ∷ []) refl refl (omega arith, (omega arith, tt)) in
        one l.shaped (rw (l.holds.0, l.holds.1.0, t.0, t.1))

-- ---- 8NCCC

abbrev clouds_in : Clouds → List Slot
clouds_in c = slot 1 c.amount ∷ slot 1 c.low ∷ slot 1 c.middle ∷ slot 1 c.high ∷ []

abbrev clouds_of : List (Option ℕ) → Said
clouds_of ns = said.Clouds (record { amount = nth 0 ns; low = nth 1 ns; middle = nth 2 ns; high = nth 3 ns })

clouds-laid : (c : Clouds) → judge_clouds c ≡ Ok tt → Laid (bytes "8####") 1 (parts_of (clouds_in c)) (clouds_text c)
unfolding judge_clouds clouds_text
clouds-laid c e =
    let t = both (one_figure c.amount && one_figure c.low && one_figure c.middle) (one_figure c.high) (fine _ true e).0 in
    let s = both (one_figure c.amount && one_figure c.low) (one_figure c.middle) t.0 in
    let r = both (one_figure c.amount) (one_figure c.low) s.0 in
    parts (bytes "8") (parts_of (clouds_in c)) refl refl
    (one-fits c.amount r.0, (one-fits c.low r.1, (one-fits c.middle s.1, (one-fits c.high t.1, tt))))

pub clouds-back : (c : Clouds) → judge_clouds c ≡ Ok tt → Back (bytes "8####") false said_clouds said.Clouds blank_surface.clouds c (show_clouds c)
unfolding show_clouds said_clouds
clouds-back c e = go (no_clouds c) refl
  where
    go : (b : Bool) → no_clouds c ≡ b → Back (bytes "8####") false said_clouds said.Clouds blank_surface.clouds c (cond b [] (clouds_text c ∷ []))
    go true h = none refl (clouds-blank c h)
    go false h = let l = clouds-laid c e in one l.shaped (asked-back (clouds_text c) 1 (clouds_in c) clouds_of l.holds)
