-- The round trip of the groups through Nddff, which always stand: what the writer judges fine and writes has its shape, and is read back as its class.
-- Assumes nothing.
use Rattle.std.specs.Prelude.{None, Ok, Option, Some}
use mathlib.Core.Path.{◌≡◌, refl, sym, ◌∙◌}
use mathlib.Core.Bool.{Bool, true, false, cond, not, ◌&&◌, ◌||◌, false≢true}
use mathlib.Core.List.{List, [], ◌∷◌, ◌++◌}
use mathlib.Core.Logic.{⊎_elim}
use Prim.Native.Nat.{ℕ, zero, suc, ◌+◌, ◌≤◌, ◌<◌}
use native.Mathlib.Omega.{arith}
use lib.ListN.{length, take, drop, replicate}
use lib.Seq.{length-take-le}
use lib.Dec.{leb, eqb}
use lib.IntN.{ℤ, pos, negsuc, nat_abs}
use lib.Signed.{le_z}
use borrow.Author.Tests.{leb-true, le-leb, lt-leb, eqb-true, ne_eqb}
use Rattle.figures.specs.declared.kinds.Field.{Field}
use Rattle.figures.specs.declared.kinds.Field.TheVariants as field
use Rattle.figures.specs.Quote.{bytes}
use Rattle.figures.specs.Figures.{is_figure, is_letter, every, number_text, field_text, field_at, Fits}
use Rattle.figures.specs.Signed.{negative, with_sign}
use Rattle.figures.proofs.Signs.{with-sign}
use Rattle.shapes.specs.Pattern.{Pattern, has_pattern}
use Rattle.shapes.proofs.Patterns.{both}
use Rattle.scales.proofs.Laws.{reached}
use Rattle.scales.specs.Rounded.{rounded_direction}
use Rattle.scales.proofs.DirectionLaws.{direction-rounds, direction-written, rounded-below}
use Rattle.record.specs.declared.values.Direction.{Direction}
use Rattle.record.specs.declared.values.Direction.TheVariants as direction
use Rattle.record.specs.declared.values.Speed.{Speed}
use Rattle.record.specs.declared.values.Speed.TheVariants as speed
use Rattle.record.specs.declared.surface.CallSign.{CallSign}
use Rattle.record.specs.declared.surface.Position.{Position}
use Rattle.record.specs.declared.surface.Sight.{Sight}
use Rattle.record.specs.declared.surface.Indicators.{Indicators}
use Rattle.record.specs.declared.surface.Wind.{Wind}
use Rattle.record.specs.declared.surface.Time.{Time}
use Rattle.synop_groups.specs.declared.kinds.Said.{Said}
use Rattle.synop_groups.specs.declared.kinds.Said.TheVariants as said
use Rattle.text.proofs.Judging.{fine}
use Rattle.synop_groups.specs.Position.{is_quadrant, is_south, is_west, quadrant_of}
use Rattle.synop_groups.specs.Reads.{Group, is_unit, time_of, said_time, said_station, latitude_is, said_latitude, position_of, said_longitude, sight_of, indicators_of, said_indicators, figured, may_miss, missing, wind_by, no_wind, said_wind}
use Rattle.synop_groups.specs.Shows.{field_of, magnitude_of, show_time, show_station, show_sign, show_latitude, show_longitude, base_field, sight_field, show_indicators, direction_field, show_wind}
use Rattle.synop_groups.specs.Judge.{present_tenths, metres, is_station, judge_time, judge_station, judge_sign, judge_position, sight_fits, judge_indicators, speed_fits, wind_fits, wind_agrees, judge_wind}
use Rattle.record.specs.Classes.{class_direction}
use Rattle.record.specs.Missing.{between, present, optional}
use Rattle.synop_groups.specs.Classes.{class_base, class_sight, class_indicators, class_wind, unsigned_position, in_two, wind_in_two}
use Rattle.synop_groups.proofs.RoundTripParts.{Part, at, parts}
use Rattle.synop_groups.proofs.RoundTripFields.{in-range, chosen, one_figure, one-fits, part-is}
use Rattle.synop_groups.proofs.RoundTripScales.{base-fits, base-is, base-again, base-classed, sight-fits, sight-is, sight-again, sight-classed}

-- A group that has the shape, and says what is meant.
pub record Stands (shape : Pattern) (says : Group → Said) (meant : Said) (g : Group) : Type 0 where
  pub shaped : has_pattern g shape ≡ true
  pub said : says g ≡ meant

-- ---- YYGGiw

pub time-back : (t : Time) → judge_time t ≡ Ok tt → Stands (bytes "#####") said_time (said.Time t) (show_time t)
unfolding judge_time show_time said_time time_of
time-back t e = go t.day t.hour t.unit (fine _ true e).0
  where
    go : (d h u : Option ℕ) → (present (between 1 31) d && present (between 0 23) h && present is_unit u) ≡ true
        → Stands (bytes "#####") said_time (said.Time (record { day = d; hour = h; unit = u })) (field_text 2 (field_of d) ++ field_text 2 (field_of h) ++ field_text 1 (field_of u))
    go None h u e = absurd (false≢true e)
    go (Some d) None u e = absurd (false≢true (both (between 1 31 d) false (both (between 1 31 d && false) (present is_unit u) e).0).1)
    go (Some d) (Some h) None e = absurd (false≢true (both (between 1 31 d && between 0 23 h) false e).1)
    go (Some d) (Some h) (Some u) e =
        let t = both (between 1 31 d && between 0 23 h) (is_unit u) e in
        let s = both (between 1 31 d) (between 0 23 h) t.0 in
        let day = both (leb 1 d) (leb d 31) s.0 in
        let hour = both (leb 0 h) (leb h 23) s.1 in
        let l =
        parts [] (at 2 (field.Number d) ∷ at 2 (field.Number h) ∷ at 1 (field.Number u) ∷ []) refl refl
        (omega (arith, leb-true d 31 day.1), (omega (arith, leb-true h 23 hour.1), (omega (arith, chosen 0 4 u (0 ∷ 1 ∷ 3 ∷ 4 ∷ []) refl t.1), tt))) in
        record {
          shaped = l.shaped;
          said = rw (l.holds.0, l.holds.1.0, l.holds.1.1.0, day.0, day.1, hour.1, t.1);
        }

-- ---- IIiii

pub station-back : (n : Option ℕ) → judge_station n ≡ Ok tt → (k : ℕ) × (n ≡ Some k) × Stands (bytes "#####") said_station (said.Station k) (show_station n)
unfolding judge_station show_station said_station
station-back None e = absurd (false≢true (fine false true e).0)
station-back (Some k) e =
    let l = parts [] (at 5 (field.Number k) ∷ []) refl refl (omega (arith, (in-range 0 99999 k (fine (is_station k) true e).0).1), tt) in
    (k, refl, record { shaped = l.shaped; said = rw l.holds.0 })

-- ---- the call sign

-- zeros past the first n bytes of a text come back
refilled : (l : List ℕ) (n k : ℕ) → length l ≤ n + k → every (λ b. eqb b 0) (drop n l) ≡ true → take (length l) (take n l ++ replicate k 0) ≡ l
refilled [] n k h e = refl
refilled (b ∷ l) zero zero h e = absurd (omega arith)
refilled (b ∷ l) zero (suc k) h e =
    let t = both (eqb b 0) (every (λ b. eqb b 0) l) e in
    rw (eqb-true b 0 t.0, refilled l zero k (omega arith) t.1)
refilled (b ∷ l) (suc n) k h e = rw (refilled l n k (omega arith) e)

-- It is written as 3 to 9 letters and figures, from which its bytes and its length come back.
pub sign-back : (s : CallSign) → length s.letters ≡ 9 → judge_sign s ≡ Ok tt
    → let g = show_sign s in ((leb 3 (length g) && leb (length g) 9 && every (λ b. is_letter b || is_figure b) g) ≡ true) × (take 9 (g ++ replicate 9 0) ≡ s.letters) × (length g ≡ s.length)
unfolding judge_sign show_sign
sign-back s nine e =
    let t = both (between 3 9 s.length && every (λ b. is_letter b || is_figure b) (take s.length s.letters)) (every (λ b. eqb b 0) (drop s.length s.letters)) (fine _ true e).0 in
    let u = both (between 3 9 s.length) (every (λ b. is_letter b || is_figure b) (take s.length s.letters)) t.0 in
    let r = in-range 3 9 s.length u.0 in
    let len : length (take s.length s.letters) ≡ s.length = length-take-le s.length s.letters (omega arith) in
    (rw (len, u.0, u.1), rw nine at (refilled s.letters s.length 9 (omega arith) t.1), len)

-- ---- 99LaLaLa QcLoLoLoLo

-- what the writer judges of a latitude and a longitude
abbrev north_fits : Option ℤ → Bool
north_fits = present_tenths (λ t. leb (nat_abs t) 900)

abbrev east_fits : Option ℤ → Bool
east_fits = present_tenths (λ t. le_z (negsuc 1798) t && le_z t (pos 1800))

pub latitude-back : (p : Position) → judge_position p ≡ Ok tt → Stands (bytes "99###") said_latitude (said.Position (unsigned_position p)) (show_latitude p)
unfolding judge_position show_latitude said_latitude latitude_is field_text number_text
latitude-back p e =
    let small = north p.latitude (both (north_fits p.latitude) (east_fits p.longitude) (fine _ true e).0).0 in
    let l = parts (bytes "99") (at 3 (field.Number (magnitude_of p.latitude)) ∷ []) refl refl (omega arith, tt) in
    record { shaped = l.shaped; said = rw (l.holds.0, le-leb (magnitude_of p.latitude) 900 small) }
  where
    north : (t : Option ℤ) → north_fits t ≡ true → magnitude_of t ≤ 900
    north None e = absurd (false≢true e)
    north (Some t) e = leb-true (nat_abs t) 900 e

-- the quadrant tells both signs
abbrev quadrant : Bool → Bool → ℕ
quadrant south west = cond west (cond south 5 7) (cond south 3 1)

quadrant-is : (s w : Bool) → (is_quadrant (quadrant s w) ≡ true) × (is_south (quadrant s w) ≡ s) × (is_west (quadrant s w) ≡ w)
quadrant-is true true = (refl, refl, refl)
quadrant-is true false = (refl, refl, refl)
quadrant-is false true = (refl, refl, refl)
quadrant-is false false = (refl, refl, refl)

-- a longitude in range, of which 180.0 is east
east-is : (t : ℤ) → east_fits (Some t) ≡ true → (nat_abs t ≤ 1800) × (with_sign (negative t && not (eqb (nat_abs t) 1800)) (nat_abs t) ≡ t)
east-is (pos n) e = (leb-true n 1800 e, refl)
east-is (negsuc n) e =
    let h = leb-true n 1798 (both (leb n 1798) true e).0 in
    (omega arith, rw (ne_eqb (suc n) 1800 (λ q. omega arith)))

pub longitude-back : (p : Position) → judge_position p ≡ Ok tt → Stands (bytes "#####") (said_longitude (unsigned_position p)) (said.Position p) (show_longitude p)
unfolding judge_position show_longitude said_longitude position_of field_text number_text
longitude-back p e = let t = both (north_fits p.latitude) (east_fits p.longitude) (fine _ true e).0 in go p.latitude p.longitude t.0 t.1
  where
    go : (a o : Option ℤ) → north_fits a ≡ true → east_fits o ≡ true
        → Stands (bytes "#####") (said_longitude (unsigned_position (record { latitude = a; longitude = o }))) (said.Position (record { latitude = a; longitude = o }))
        (show_longitude (record { latitude = a; longitude = o }))
    go None o f g = absurd (false≢true f)
    go (Some a) None f g = absurd (false≢true g)
    go (Some a) (Some o) f g =
        let q = quadrant-is (negative a) (negative o) in
        let t = east-is o g in
        let l =
        parts [] (at 1 (field.Number (quadrant_of a o)) ∷ at 4 (field.Number (nat_abs o)) ∷ []) refl refl
        (omega (arith, chosen 1 7 (quadrant_of a o) (1 ∷ 3 ∷ 5 ∷ 7 ∷ []) refl q.0), (omega (arith, t.0), tt)) in
        record {
          shaped = l.shaped;
          said = rw (l.holds.0, l.holds.1.0, f, le-leb (nat_abs o) 1800 t.0, q.0, q.1, with-sign a, q.2, t.1);
        }

-- ---- iR ix h VV

-- what the writer judges of iR, ix and h
abbrev rain_fits : Option ℕ → Bool
rain_fits = present (between 0 4)

abbrev weather_fits : Option ℕ → Bool
weather_fits = present (between 1 7)

-- what is judged fine: iR and ix are there and in range, h and VV in range
indicators-fine : (i : Indicators) → judge_indicators i ≡ Ok tt
    → (rain_fits i.rain ≡ true) × (weather_fits i.weather ≡ true) × (optional metres i.base ≡ true) × (sight_fits i.sight ≡ true)
unfolding judge_indicators
indicators-fine i e =
    let t = both (rain_fits i.rain && weather_fits i.weather && optional metres i.base) (sight_fits i.sight) (fine _ true e).0 in
    let s = both (rain_fits i.rain && weather_fits i.weather) (optional metres i.base) t.0 in
    let r = both (rain_fits i.rain) (weather_fits i.weather) s.0 in
    (r.0, r.1, s.1, t.1)

pub indicators-back : (i : Indicators) → judge_indicators i ≡ Ok tt
    → Stands (bytes "#####") said_indicators (said.Indicators (class_indicators i)) (show_indicators i)
unfolding show_indicators said_indicators indicators_of
indicators-back i e = let t = indicators-fine i e in go i.rain i.weather i.base i.sight t.0 t.1 t.2 t.3
  where
    go : (a b h : Option ℕ) (v : Sight) → rain_fits a ≡ true → weather_fits b ≡ true → optional metres h ≡ true → sight_fits v ≡ true
        → Stands (bytes "#####") said_indicators (said.Indicators (record { rain = a; weather = b; base = class_base h; sight = class_sight v }))
        (field_text 1 (field_of a) ++ field_text 1 (field_of b) ++ field_text 1 (base_field h) ++ field_text 2 (sight_field v))
    go None b h v p q r s = absurd (false≢true p)
    go (Some a) None h v p q r s = absurd (false≢true q)
    go (Some a) (Some b) h v p q r s =
        let four = both (leb 0 a) (leb a 4) p in
        let seven = both (leb 1 b) (leb b 7) q in
        let l =
        parts [] (at 1 (field.Number a) ∷ at 1 (field.Number b) ∷ at 1 (base_field h) ∷ at 2 (sight_field v) ∷ []) refl refl
        (omega (arith, leb-true a 4 four.1), (omega (arith, leb-true b 7 seven.1), (base-fits h r, (sight-fits v s, tt)))) in
        let f = l.holds in
        record {
          shaped = l.shaped;
          said =
              rw (f.0, f.1.0)
              (base-is _ h (λ x. sight_of (field_at (show_indicators (record { rain = Some a; weather = Some b; base = h; sight = v })) 3 2) (λ y. indicators_of a b x y)) r f.1.1.0
              ∙ sight-is _ v (λ y. indicators_of a b (class_base h) y) s f.1.1.1.0
              ∙ rw (four.1, seven.0, seven.1));
        }

-- written again
pub indicators-again : (i : Indicators) → judge_indicators i ≡ Ok tt → show_indicators (class_indicators i) ≡ show_indicators i
unfolding show_indicators
indicators-again i e = let t = indicators-fine i e in rw (base-again i.base t.2, sight-again i.sight t.3)

pub indicators-classed : (i : Indicators) → judge_indicators i ≡ Ok tt → judge_indicators (class_indicators i) ≡ Ok tt
unfolding judge_indicators
indicators-classed i e = let t = indicators-fine i e in rw (t.0, t.1, base-classed i.base t.2, sight-classed i.sight t.3)

-- ---- N dd ff

-- ff has two figures, and is zero only where the speed is
two-figures : (s : ℕ) → (in_two s ≤ 99) × (eqb (in_two s) 0 ≡ eqb s 0)
two-figures s = ⊎_elim (λ h. rw (le-leb 99 s h) (omega arith, sym (ne_eqb s 0 (λ q. omega arith)))) (λ h. rw (lt-leb 99 s h) (omega arith, refl)) (reached 99 s)

-- a direction that is there, and the speed in range: dd has two figures and is read back as the class
record Blows (n : Option ℕ) (d : Direction) (s : ℕ) : Type 0 where
  figure : ℕ
  written : direction_field d ≡ field.Number figure
  again : direction_field (class_direction d) ≡ field.Number figure
  small : figure < 100
  read : wind_by n figure (in_two s) ≡ said.Wind (record { cover = n; direction = class_direction d; speed = speed.Is (in_two s) })

blows : (n : Option ℕ) (d : Direction) (s : ℕ) → wind_fits d (speed.Is s) ≡ true → wind_agrees d (speed.Is s) ≡ true → Blows n d s
unfolding wind_by
blows n direction.Missing s f a = absurd (false≢true f)
blows n direction.Calm s f a = record { figure = 0; written = refl; again = refl; small = omega arith; read = rw ((two-figures s).1, a) }
blows n direction.Variable s f a = record { figure = 99; written = refl; again = refl; small = omega arith; read = rw ((two-figures s).1, a) }
blows n (direction.Degrees d) s f a =
    let w = direction-written d (leb-true d 359 (both (leb d 359) (leb s 999) f).0) in
    let back = direction-rounds.back d w.0 w.1 in
    record {
      figure = w.0;
      written = rw w.1;
      again = rw (direction-rounds.again d w.0 w.1);
      small = omega (arith, w.3);
      read = rw (back, ne_eqb w.0 0 (λ q. omega (arith, w.2)), ne_eqb w.0 99 (λ q. omega (arith, w.3)), (two-figures s).1, a);
    }

-- what is judged fine: each part is in range, and they agree
pub wind-fine : (w : Wind) → judge_wind w ≡ Ok tt → (one_figure w.cover ≡ true) × (wind_fits w.direction w.speed ≡ true) × (wind_agrees w.direction w.speed ≡ true)
unfolding judge_wind
wind-fine w e =
    let f = fine (one_figure w.cover && wind_fits w.direction w.speed) (wind_agrees w.direction w.speed) e in
    let t = both (one_figure w.cover) (wind_fits w.direction w.speed) f.0 in
    (t.0, t.1, f.1)

-- a direction without a speed is missing
no-speed : (d : Direction) → wind_fits d speed.Missing ≡ true → d ≡ direction.Missing
no-speed direction.Missing e = refl
no-speed direction.Calm e = absurd (false≢true e)
no-speed direction.Variable e = absurd (false≢true e)
no-speed (direction.Degrees d) e = absurd (false≢true (both (leb d 359) false e).1)

-- an "above" stands beside no direction
no_above : {A : Type 0} (d : Direction) (s : ℕ) → wind_fits d (speed.Above s) ≡ true → A
no_above direction.Missing s e = absurd (false≢true e)
no_above direction.Calm s e = absurd (false≢true e)
no_above direction.Variable s e = absurd (false≢true e)
no_above (direction.Degrees d) s e = absurd (false≢true (both (leb d 359) false e).1)

-- the figures of a wind
abbrev wind_in : Option ℕ → Field → Field → List Part
wind_in n d s = at 1 (field_of n) ∷ at 2 d ∷ at 2 s ∷ []

-- what is read after N
abbrev wind_after : Group → Option ℕ → Said
wind_after g n = may_miss (field_at g 1 2) (missing (field_at g 3 2) (no_wind n)) (λ dd. figured (field_at g 3 2) (λ ff. wind_by n dd ff))

pub wind-back : (w : Wind) → judge_wind w ≡ Ok tt → Stands (bytes "#####") said_wind (said.Wind (wind_in_two w)) (show_wind w)
unfolding show_wind said_wind
wind-back w e = let t = wind-fine w e in go w.direction w.speed t.1 t.2
  where
    cover : Fits 1 (field_of w.cover)
    cover = one-fits w.cover (wind-fine w e).0

    still : Stands (bytes "#####") said_wind (said.Wind (record { cover = w.cover; direction = direction.Missing; speed = speed.Missing }))
        (show_wind (record { cover = w.cover; direction = direction.Missing; speed = speed.Missing }))
    still =
        let l = parts [] (wind_in w.cover field.Missing field.Missing) refl refl (cover, (tt, (tt, tt))) in
        record { shaped = l.shaped; said = part-is _ w.cover (wind_after _) l.holds.0 ∙ rw (l.holds.1.0, l.holds.1.1.0) }

    go : (d : Direction) (s : Speed) → wind_fits d s ≡ true → wind_agrees d s ≡ true
        → Stands (bytes "#####") said_wind (said.Wind (wind_in_two (record { cover = w.cover; direction = d; speed = s })))
        (show_wind (record { cover = w.cover; direction = d; speed = s }))
    go d speed.Missing f a = rw (no-speed d f) still
    go d (speed.Above s) f a = no_above d s f
    go d (speed.Is s) f a =
        let b = blows w.cover d s f a in
        let l =
        parts [] (wind_in w.cover (direction_field d) (field.Number (in_two s))) refl refl
        (cover, (rw b.written b.small, (omega (arith, (two-figures s).0), tt))) in
        record {
          shaped = l.shaped;
          said = part-is _ w.cover (wind_after _) l.holds.0 ∙ rw (l.holds.1.0 ∙ b.written, l.holds.1.1.0) b.read;
        }

-- written again
pub wind-again : (w : Wind) → judge_wind w ≡ Ok tt → show_wind (class_wind w) ≡ show_wind w
unfolding show_wind
wind-again w e = let t = wind-fine w e in rw (go w.direction w.speed t.1 t.2)
  where
    go : (d : Direction) (s : Speed) → wind_fits d s ≡ true → wind_agrees d s ≡ true → direction_field (class_direction d) ≡ direction_field d
    go d speed.Missing f a = rw (no-speed d f)
    go d (speed.Above s) f a = no_above d s f
    go d (speed.Is s) f a = let b = blows None d s f a in b.again ∙ sym b.written

pub wind-classed : (w : Wind) → judge_wind w ≡ Ok tt → judge_wind (class_wind w) ≡ Ok tt
unfolding judge_wind
wind-classed w e =
    let t = wind-fine w e in
    let f = go w.direction w.speed t.1 in
    rw (t.0, f.0, f.1, t.2)
  where
    go : (d : Direction) (s : Speed) → wind_fits d s ≡ true → (wind_fits (class_direction d) s ≡ true) × (wind_agrees (class_direction d) s ≡ wind_agrees d s)
    go direction.Missing s f = (f, refl)
    go direction.Calm s f = (f, refl)
    go direction.Variable s f = (f, refl)
    go (direction.Degrees d) s f =
        let t = both (leb d 359) (speed_fits s) f in
        (rw (le-leb (rounded_direction d) 359 (omega (arith, rounded-below d)), t.1), refl)
