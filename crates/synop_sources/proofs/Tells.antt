-- What a group of a SYNOP or SHIP tells, where it is not refused, beside what the laws of accepted records say of it.
-- Assumes nothing.
use Rattle.std.specs.Prelude.{Err, None, Ok, Option, Result, Some}
use Prim.Native.Nat.{ℕ, ◌<◌}
use native.Mathlib.Omega.{arith}
use mathlib.Core.Path.{◌≡◌, refl, sym, ap, ◌∙◌}
use mathlib.Core.Bool.{Bool, true, false, cond, not, ◌&&◌}
use lib.Dec.{leb, eqb}
use lib.IntN.{pos}
use borrow.Author.Tests.{le-leb, leb-true}
use Rattle.figures.specs.Figures.{field_at}
use Rattle.figures.proofs.Impossible.{impossible}
use Rattle.figures.proofs.Signs.{magnitude-back}
use Rattle.text.specs.declared.kinds.Refusal.{Refusal}
use Rattle.scales.specs.Metres.{metres_reading}
use Rattle.scales.specs.Layers.{layer_steps, layer_bands}
use Rattle.scales.specs.Rounded.{rain_reading, direction_reading}
use Rattle.places.specs.Engine.{Group}
use Rattle.record.specs.declared.values.Direction.{Direction}
use Rattle.record.specs.declared.values.Direction.TheVariants as direction
use Rattle.record.specs.declared.values.Speed.TheVariants as speed
use Rattle.record.specs.declared.surface.Position.{Position}
use Rattle.record.specs.declared.surface.BaseHeight.{BaseHeight}
use Rattle.record.specs.declared.surface.Wind.{Wind}
use Rattle.synop_groups.specs.declared.kinds.Said.{Said}
use Rattle.synop_groups.specs.declared.kinds.Said.TheVariants as said
use Rattle.synop_groups.specs.Position.{is_quadrant, is_south}
use Rattle.synop_groups.specs.Reads.{figured, may_miss, missing, part, unless, latitude_is, said_latitude, read_latitude, position_of, said_longitude, wind_by, no_wind, said_wind, rainfall_of, said_rainfall, said_weather, height_of, said_layer}
use Rattle.synop_groups.specs.Classes.{speed_in_two}
use Rattle.accepted_laws.proofs.Fields.{field_bound}
use Rattle.accepted_laws.proofs.Tells.{Tells, told, refused, tells-cond, tells-figured, tells-may-miss, tells-missing, tells-part, tells-used, tells-rain, tells-unless}
use Rattle.synop_sources.specs.Items.{northern, over99}

-- ---- what is told is put into the record

pub record Made {A R : Type 0} (make : A → Said) (P : A → Type 0) (put : A → R) (x : Said) (r : R) : Type 0 where
  pub value : A
  pub is : x ≡ make value
  pub so : P value
  pub puts : r ≡ put value

pub same_good : {R : Type 0} {r s : R} → ◌≡◌ {A = Result R Refusal} (Ok s) (Ok r) → r ≡ s
same_good e = cc

pub made : {A R : Type 0} {make : A → Said} {P : A → Type 0} (with : Said → Result R Refusal) (put : A → R) {x : Said} {r : R} → ((a : A) → with (make a) ≡ Ok (put a))
    → ((f : Refusal) → with (said.Refused f) ≡ Err f) → Tells make P x → with x ≡ Ok r → Made make P put x r
made with put goods bads (told {a} p) e = record { value = a; is = refl; so = p; puts = same_good (sym (goods a) ∙ e) }
made with put goods bads (refused {f}) e = let no = sym (bads f) ∙ e in impossible (cc)

-- ---- 99LaLaLa has a latitude without its sign, and QcLoLoLoLo keeps it but for the sign

abbrev pub plain : Position → Position
plain p = record { latitude = Some (pos (read_latitude p.latitude)); longitude = None }

pub latitude-plain : (g : Group) → Tells said.Position (λ p. plain p ≡ p) (said_latitude g)
unfolding said_latitude latitude_is
latitude-plain g = tells-figured (field_at g 2 3) (λ m e. tells-cond (leb m 900) (λ h. told refl) (λ h. refused))

pub longitude-kept : (p : Position) (g : Group) → Tells said.Position (λ q. northern q ≡ plain p) (said_longitude p g)
unfolding said_longitude position_of
longitude-kept p g =
    tells-figured (field_at g 0 1)
    (λ q a. tells-figured (field_at g 1 4)
    (λ m b. tells-cond (leb (read_latitude p.latitude) 900 && leb m 1800 && is_quadrant q) (λ e. told (rw (magnitude-back (is_south q) (read_latitude p.latitude)))) (λ e. refused)))

-- ---- ff has two figures

pub record InTwo (w : Wind) : Type 0 where
  pub two : speed_in_two w.speed ≡ w.speed
  pub over : over99 w.speed ≡ speed.Missing

in_two : (n : Option ℕ) (d : Direction) (ff : ℕ) → ff < 100 → InTwo (record { cover = n; direction = d; speed = speed.Is ff })
in_two n d ff few = record { two = ap speed.Is (go (leb 99 ff) refl); over = rw (le-leb ff 99 (omega arith)) }
  where
    go : (b : Bool) → leb 99 ff ≡ b → cond b 99 ff ≡ ff
    go true e = let h = leb-true 99 ff e in omega arith
    go false e = refl

wind-by : (n : Option ℕ) (dd ff : ℕ) → ff < 100 → Tells said.Wind InTwo (wind_by n dd ff)
unfolding wind_by
wind-by n dd ff few =
    tells-cond (eqb dd 0) (λ z. tells-cond (eqb ff 0) (λ s. told (in_two n direction.Calm ff few)) (λ s. refused))
    (λ z. tells-cond (eqb dd 99) (λ y. tells-cond (not (eqb ff 0)) (λ s. told (in_two n direction.Variable ff few)) (λ s. refused))
    (λ y. tells-used (direction_reading dd) (λ d e. tells-cond (not (eqb ff 0)) (λ s. told (in_two n (direction.Degrees d) ff few)) (λ s. refused))))

pub wind-in-two : (g : Group) → Tells said.Wind InTwo (said_wind g)
unfolding said_wind
wind-in-two g =
    tells-part g 0 1 9 (λ n. may_miss (field_at g 1 2) (missing (field_at g 3 2) (no_wind n)) (λ dd. figured (field_at g 3 2) (λ ff. wind_by n dd ff))) (omega arith)
    (λ n c. tells-may-miss (field_at g 1 2) (λ none. tells-missing (field_at g 3 2) (told (record { two = refl; over = refl })))
    (λ dd a. tells-figured (field_at g 3 2) (λ ff b. wind-by n dd ff (field_bound g 3 2 ff b))))

-- ---- a 6 or 7 group that is read is allowed

pub rain-allowed : (forbidden : Bool) (g : Group) → Tells said.Rainfall (λ r. forbidden ≡ false) (said_rainfall forbidden g)
unfolding said_rainfall
rain-allowed forbidden g =
    tells-may-miss (field_at g 1 3) (λ none. tells-missing (field_at g 4 1) (tells-unless forbidden (λ may. told may)))
    (λ n e. tells-part g 4 1 9 (λ t. rainfall_of forbidden n t) (omega arith) (λ t c. tells-rain (rain_reading n) (λ r f. tells-unless forbidden (λ may. told may))))

pub weather-allowed : (forbidden : Bool) (g : Group) → Tells said.Weather (λ w. forbidden ≡ false) (said_weather forbidden g)
unfolding said_weather
weather-allowed forbidden g =
    tells-part g 1 2 99 (λ w. part (field_at g 3 1) (λ p. part (field_at g 4 1) (λ q. said-so w p q))) (omega arith)
    (λ w a. tells-part g 3 1 9 (λ p. part (field_at g 4 1) (λ q. said-so w p q)) (omega arith)
    (λ p b. tells-part g 4 1 9 (λ q. said-so w p q) (omega arith) (λ q c. tells-unless forbidden (λ may. told may))))
  where
    said-so : Option ℕ → Option ℕ → Option ℕ → Said
    said-so w p q = unless forbidden (said.Weather (record { present = w; past = p; past2 = q }))

-- ---- 8NChh

pub layer-plain : (g : Group) → Tells said.Layer (λ l. Unit {0}) (said_layer g)
unfolding said_layer
layer-plain g =
    tells-part g 1 1 9 (λ n. part (field_at g 2 1) (λ c. height_of (field_at g 3 2) (λ h. said-so n c h))) (omega arith)
    (λ n a. tells-part g 2 1 9 (λ c. height_of (field_at g 3 2) (λ h. said-so n c h)) (omega arith)
    (λ c b. tells-may-miss (field_at g 3 2) (λ m. told tt)
    (λ k e. tells-cond (leb 90 k) (λ s. tells-used (metres_reading layer_bands k) (λ m r. told tt)) (λ s. tells-used (metres_reading layer_steps k) (λ m r. told tt)))))
  where
    said-so : Option ℕ → Option ℕ → BaseHeight → Said
    said-so n c h = said.Layer (record { amount = n; cloud = c; height = h })
