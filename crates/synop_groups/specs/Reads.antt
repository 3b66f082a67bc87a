-- What each group of a SYNOP or SHIP says: document 01's list, in its order. A number field is a number, missing ("Missing is slashes, as many as
-- letters"), or neither: "any mixture of slashes and figures not named here is 5".
-- Assumes nothing: these are definitions.
use Rattle.std.specs.Prelude.{ℕ, ◌+◌, ◌/◌, ◌%◌, Bool, true, false, cond, not, ◌&&◌, ◌||◌, List, leb, ltb, eqb, ℤ, pos, nat_abs, None, Option, Some}
use Rattle.figures.specs.declared.kinds.Field.{Field}
use Rattle.figures.specs.declared.kinds.Field.TheVariants as field
use Rattle.figures.specs.Figures.{field_at}
use Rattle.figures.specs.Signed.{with_sign}
use Rattle.text.specs.declared.kinds.Refusal.TheVariants as refusal
use Rattle.scales.specs.declared.kinds.Rain.{Rain}
use Rattle.scales.specs.Scale.{Scale}
use Rattle.scales.specs.Metres.{land, sea, base, metres_reading}
use Rattle.scales.specs.Layers.{layer_steps, layer_bands}
use Rattle.scales.specs.Rounded.{rain_reading, direction_reading}
use Rattle.scales.specs.Degrees.{signed_reading}
use Rattle.record.specs.declared.values.Direction.{Direction}
use Rattle.record.specs.declared.values.Direction.TheVariants as direction
use Rattle.record.specs.declared.values.Speed.TheVariants as speed
use Rattle.record.specs.declared.surface.Sight.{Sight}
use Rattle.record.specs.declared.surface.Sight.TheVariants as sight
use Rattle.record.specs.declared.surface.Moist.TheVariants as moist
use Rattle.record.specs.declared.surface.AtLevel.TheVariants as at_level
use Rattle.record.specs.declared.surface.BaseHeight.{BaseHeight}
use Rattle.record.specs.declared.surface.BaseHeight.TheVariants as height
use Rattle.record.specs.declared.surface.Position.{Position}
use Rattle.record.specs.Values.{change_of, fall_of, observed_of}
use Rattle.synop_groups.specs.declared.kinds.Said.{Said}
use Rattle.synop_groups.specs.declared.kinds.Said.TheVariants as said
use Rattle.synop_groups.specs.Position.{is_quadrant, latitude_of, longitude_of}

abbrev pub Group : Type 0
Group = List ℕ

-- "right shape, figure not in the table or range"
abbrev pub wrong : Said
wrong = said.Refused refusal.Figure

-- "groups each right that disagree"
abbrev pub disagrees : Said
disagrees = said.Refused refusal.Disagreement

-- ---- what a number field says in a group: it has to be a number, or it may be missing, or it has to be missing

abbrev pub figured : Field → (ℕ → Said) → Said
figured (field.Number n) k = k n
figured field.Missing k = wrong
figured field.Mixed k = wrong
figured field.Other k = wrong

abbrev pub may_miss : Field → Said → (ℕ → Said) → Said
may_miss (field.Number n) absent k = k n
may_miss field.Missing absent k = absent
may_miss field.Mixed absent k = wrong
may_miss field.Other absent k = wrong

abbrev pub missing : Field → Said → Said
missing (field.Number n) s = wrong
missing field.Missing s = s
missing field.Mixed s = wrong
missing field.Other s = wrong

-- a part that may be missing
abbrev pub part : Field → (Option ℕ → Said) → Said
part f k = may_miss f (k None) (λ n. k (Some n))

-- a figure that has to be used
abbrev pub used : Option ℕ → (ℕ → Said) → Said
used (Some m) k = k m
used None k = wrong

abbrev pub used_tenths : Option ℤ → (ℤ → Said) → Said
used_tenths (Some t) k = k t
used_tenths None k = wrong

abbrev pub used_rain : Option Rain → (Rain → Said) → Said
used_rain (Some r) k = k r
used_rain None k = wrong

-- ---- YYGGiw: "YY 01-31, GG 00-23, iw 0, 1 (m/s), 3, 4 (knots)"

abbrev pub is_unit : ℕ → Bool
is_unit w = eqb w 0 || eqb w 1 || eqb w 3 || eqb w 4

unfoldable pub time_of : ℕ → ℕ → ℕ → Said
time_of d h w =
    cond (leb 1 d && leb d 31 && leb h 23 && is_unit w) (said.Time (record { day = Some d; hour = Some h; unit = Some w })) wrong

unfoldable pub said_time : Group → Said
said_time g = figured (field_at g 0 2) (λ d. figured (field_at g 2 2) (λ h. figured (field_at g 4 1) (λ w. time_of d h w)))

-- ---- IIiii

unfoldable pub said_station : Group → Said
said_station g = figured (field_at g 0 5) (λ n. said.Station n)

-- ---- 99LaLaLa, whose sign the next group gives; QcLoLoLoLo

unfoldable pub latitude_is : ℕ → Said
latitude_is m = cond (leb m 900) (said.Position (record { latitude = Some (pos m); longitude = None })) wrong

unfoldable pub said_latitude : Group → Said
said_latitude g = figured (field_at g 2 3) latitude_is

-- the magnitude of the latitude that was read before
abbrev pub read_latitude : Option ℤ → ℕ
read_latitude None = 0
read_latitude (Some t) = nat_abs t

-- a latitude over 90 degrees, which no group gives, is refused too
unfoldable pub position_of : ℕ → ℕ → ℕ → Said
position_of latitude q m =
    cond (leb latitude 900 && leb m 1800 && is_quadrant q)
    (said.Position (record { latitude = Some (latitude_of q latitude); longitude = Some (longitude_of q m) }))
    wrong

unfoldable pub said_longitude : Position → Group → Said
said_longitude p g = figured (field_at g 0 1) (λ q. figured (field_at g 1 4) (λ m. position_of (read_latitude p.latitude) q m))

-- ---- iR ix h VV: "iR 0-4, ix 1-7"; h by table 1600, VV by table 4377, 90-99 at sea

abbrev pub base_of : Field → (Option ℕ → Said) → Said
base_of f k = may_miss f (k None) (λ n. used (metres_reading base n) (λ m. k (Some m)))

-- two figures of two scales, those from 90 on of the second
abbrev pub either_of : {X : Type 0} → Scale ℕ → (ℕ → X) → Scale ℕ → (ℕ → X) → X → Field → (X → Said) → Said
either_of lower low upper high none f k =
    may_miss f (k none)
    (λ n. cond (leb 90 n) (used (metres_reading upper n) (λ m. k (high m))) (used (metres_reading lower n) (λ m. k (low m))))

abbrev pub sight_of : Field → (Sight → Said) → Said
sight_of f k = either_of land sight.Land sea sight.Sea sight.Missing f k

unfoldable pub indicators_of : ℕ → ℕ → Option ℕ → Sight → Said
indicators_of r x h v =
    cond (leb r 4 && leb 1 x && leb x 7) (said.Indicators (record { rain = Some r; weather = Some x; base = h; sight = v })) wrong

unfoldable pub said_indicators : Group → Said
said_indicators g =
    figured (field_at g 0 1)
    (λ r. figured (field_at g 1 1) (λ x. base_of (field_at g 2 1) (λ h. sight_of (field_at g 3 2) (λ v. indicators_of r x h v))))

-- ---- N dd ff: "N 0-9. dd 00 with ff 00 is calm, 01-36 tens of degrees, 99 variable." "dd and ff are missing together."
-- "A zero speed with dd not 00, or the reverse, is 7."

-- a wind's direction and whether it is calm have to agree with its speed
abbrev pub agree : Bool → Bool → Bool
agree true still = still
agree false still = not still

abbrev pub wind_of : Option ℕ → Direction → Bool → ℕ → Said
wind_of n d calm ff = cond (agree calm (eqb ff 0)) (said.Wind (record { cover = n; direction = d; speed = speed.Is ff })) disagrees

unfoldable pub wind_by : Option ℕ → ℕ → ℕ → Said
wind_by n dd ff =
    cond (eqb dd 0) (wind_of n direction.Calm true ff)
    (cond (eqb dd 99) (wind_of n direction.Variable false ff) (used (direction_reading dd) (λ d. wind_of n (direction.Degrees d) false ff)))

abbrev pub no_wind : Option ℕ → Said
no_wind n = said.Wind (record { cover = n; direction = direction.Missing; speed = speed.Missing })

unfoldable pub said_wind : Group → Said
said_wind g =
    part (field_at g 0 1)
    (λ n. may_miss (field_at g 1 2) (missing (field_at g 3 2) (no_wind n)) (λ dd. figured (field_at g 3 2) (λ ff. wind_by n dd ff)))

-- "A speed of 99 units or more is ff 99 and at once 00fff, fff 099-999; .. 00fff after any other ff is 7." due: ff was 99
unfoldable pub speed_is : Bool → ℕ → Said
speed_is due n = cond (leb 99 n) (cond due (said.Speed n) disagrees) wrong

unfoldable pub said_speed : Bool → Group → Said
said_speed due g = figured (field_at g 2 3) (speed_is due)

-- ---- 1sTTT, 2sTTT: "tenths of a degree, s 0 or 1; s 1 with 000 is 5. 29UUU instead is humidity 000-100."

unfoldable pub air_is : ℕ → Said
air_is n = used_tenths (signed_reading (n / 1000) (n % 1000)) (λ t. said.Air (record { temperature = Some t }))

unfoldable pub said_air : Group → Said
said_air g = may_miss (field_at g 1 4) (said.Air (record { temperature = None })) air_is

unfoldable pub moisture_is : ℕ → Said
moisture_is n =
    cond (eqb (n / 1000) 9) (cond (leb (n % 1000) 100) (said.Moisture (record { is = moist.Humidity (n % 1000) })) wrong)
    (used_tenths (signed_reading (n / 1000) (n % 1000)) (λ t. said.Moisture (record { is = moist.DewPoint t })))

unfoldable pub said_moisture : Group → Said
said_moisture g = may_miss (field_at g 1 4) (said.Moisture (record { is = moist.Missing })) moisture_is

-- ---- 3PPPP: "tenths of hPa, 0000-0999 means 1000.0-1099.9, the rest as read from 100.0"

abbrev pub pressure_of : ℕ → ℕ
pressure_of n = cond (leb n 999) (n + 10000) n

unfoldable pub said_pressure : Group → Said
said_pressure g =
    may_miss (field_at g 1 4) (said.Pressure (record { station = None }))
    (λ n. said.Pressure (record { station = Some (pressure_of n) }))

-- ---- 4PPPP: "the same with first figure 0 or 9; 4ahhh with a 1, 2, 5, 7, 8 for 1000, 925, 500, 700, 850 hPa, hhh kept as three figures. Other
-- first figures: 5."

abbrev pub is_level : ℕ → Bool
is_level a = eqb a 1 || eqb a 2 || eqb a 5 || eqb a 7 || eqb a 8

unfoldable pub level_is : ℕ → Said
level_is n =
    cond (leb n 999 || leb 9000 n) (said.Level (record { is = at_level.Pressure (pressure_of n) }))
    (cond (is_level (n / 1000)) (said.Level (record { is = at_level.Isobaric (n / 1000) (n % 1000) })) wrong)

unfoldable pub said_level : Group → Said
said_level g = may_miss (field_at g 1 4) (said.Level (record { is = at_level.Missing })) level_is

-- ---- 5appp: "a 0-3 rise or no change, 4 requires 000 (else 5), 5-8 fall or no change; a signed change in tenths."

unfoldable pub tendency_is : ℕ → ℕ → Said
tendency_is a p =
    cond (ltb 8 a || (eqb a 4 && not (eqb p 0))) wrong (said.Tendency (record { is = Some (change_of a (with_sign (ltb 4 a) p)) }))

unfoldable pub said_tendency : Group → Said
said_tendency g = may_miss (field_at g 1 4) (said.Tendency (record { is = None })) (λ n. tendency_is (n / 1000) (n % 1000))

-- ---- 6RRRt: "001-988 mm, 989 that or more, 990 trace, 991-999 0.1-0.9 mm; 000 is 5. t 0-9."
-- "RRR and t are missing together only, but t alone may be missing."
-- "iR 0 or 1 requires the 6 group, ix 1, 4 or 7 the 7 group (absent: 8); other figures forbid it, even as slashes (7)."

-- what is right may still be forbidden
abbrev pub unless : Bool → Said → Said
unless true s = disagrees
unless false s = s

abbrev pub rainfall_of : Bool → ℕ → Option ℕ → Said
rainfall_of forbidden n t = used_rain (rain_reading n) (λ r. unless forbidden (said.Rainfall (record { is = Some (fall_of r t) })))

unfoldable pub said_rainfall : Bool → Group → Said
said_rainfall forbidden g =
    may_miss (field_at g 1 3) (missing (field_at g 4 1) (unless forbidden (said.Rainfall (record { is = None }))))
    (λ n. part (field_at g 4 1) (λ t. rainfall_of forbidden n t))

-- ---- 7wwWW, 8NCCC: "figures, each part may be missing"

unfoldable pub said_weather : Bool → Group → Said
said_weather forbidden g =
    part (field_at g 1 2)
    (λ w. part (field_at g 3 1) (λ p. part (field_at g 4 1) (λ q. unless forbidden (said.Weather (record { present = w; past = p; past2 = q })))))

unfoldable pub said_clouds : Group → Said
said_clouds g =
    part (field_at g 1 1)
    (λ n. part (field_at g 2 1) (λ l. part (field_at g 3 1) (λ m. part (field_at g 4 1) (λ h. said.Clouds (record { amount = n; low = l; middle = m; high = h })))))

-- ---- 9GGgg: "00-23, 00-59; 9//// is 5"

unfoldable pub clock_is : ℕ → ℕ → Said
clock_is h m = cond (leb h 23 && leb m 59) (said.Clock (record { is = Some (observed_of h m) })) wrong

unfoldable pub said_clock : Group → Said
said_clock g = figured (field_at g 1 2) (λ h. figured (field_at g 3 2) (λ m. clock_is h m))

-- ---- 8NChh of section 3: "N, C and hh may each be missing, hh by table 1677"

abbrev pub height_of : Field → (BaseHeight → Said) → Said
height_of f k = either_of layer_steps height.Steps layer_bands height.Bands height.Missing f k

unfoldable pub said_layer : Group → Said
said_layer g =
    part (field_at g 1 1)
    (λ n. part (field_at g 2 1) (λ c. height_of (field_at g 3 2) (λ h. said.Layer (record { amount = n; cloud = c; height = h }))))
