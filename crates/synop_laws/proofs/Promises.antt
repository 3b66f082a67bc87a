-- What the round trip promises, in document 01's words: each exact field comes back as it was, each rounded number as the reading of its class, near
-- its value and never above it where the scale rounds down.
-- Assumes nothing.
use Rattle.std.specs.Prelude.{Ok, Option, None, Some}
use Prim.Native.Nat.{ℕ}
use mathlib.Core.Path.{◌≡◌, refl}
use mathlib.Core.Bool.{true}
use mathlib.Core.List.{List, [], ◌∷◌, map}
use lib.ListN.{length, take, drop}
use lib.Dec.{leb, eqb}
use Rattle.shapes.proofs.Patterns.{both}
use Rattle.scales.specs.declared.kinds.Rain.{Rain}
use Rattle.scales.specs.Metres.{land, sea, base}
use Rattle.scales.specs.Layers.{layer_steps, layer_bands}
use Rattle.scales.specs.Rounded.{rounded_rain}
use Rattle.scales.proofs.Down.{Down, down}
use Rattle.scales.proofs.MetresLaws.{land-laws, sea-laws, base-laws}
use Rattle.scales.proofs.LayersLaws.{steps-laws, bands-laws}
use Rattle.scales.proofs.RainLaws.{RainNear, rain-kept}
use Rattle.record.specs.declared.values.Direction.{Direction}
use Rattle.record.specs.declared.values.Direction.TheVariants as direction
use Rattle.record.specs.declared.values.Speed.{Speed}
use Rattle.record.specs.declared.surface.Sight.{Sight}
use Rattle.record.specs.declared.surface.Sight.TheVariants as sight
use Rattle.record.specs.declared.surface.Fall.{Fall}
use Rattle.record.specs.declared.surface.BaseHeight.{BaseHeight}
use Rattle.record.specs.declared.surface.BaseHeight.TheVariants as height
use Rattle.record.specs.declared.surface.CloudLayer.{CloudLayer}
use Rattle.record.specs.declared.surface.Section3.{Section3}
use Rattle.record.specs.declared.surface.Surface.{Surface}
use Rattle.record.specs.declared.surface.Synop.{Synop}
use Rattle.record.specs.Arrays.{SynopArrays}
use Rattle.record.specs.Classes.{class_direction}
use Rattle.record.proofs.Counted.{EachRead, none, more}
use Rattle.record.proofs.Near.{NumberDown, number-down, DirectionNear, direction_fits, direction-near}
use Rattle.synop_groups.specs.Judge.{speed_fits, wind_fits}
use Rattle.synop_groups.specs.Classes.{class_base, class_sight, class_fall, class_height, class_layer}
use Rattle.text.specs.Groups.{groups_from}
use Rattle.text.specs.Text.{tail_of}
use Rattle.record.specs.Values.{fall_of}
use Rattle.places.specs.Engine.{Done}
use Rattle.section3.specs.Write.{class_section3}
use Rattle.synop.specs.Read.{groups_read}
use Rattle.synop.specs.Write.{judge_of, canonical_of, classed_of}
use Rattle.synop_laws.proofs.Canonical.{wind-fits, layers-back, read-canonical}
use Rattle.synop_laws.proofs.Sections.{classed_surface}

-- ---- which number comes back, and how far off

-- h and its reading
pub base_read : (b : Option ℕ) → NumberDown base b (class_base b)
base_read = number-down base-laws

-- VV and its reading, on the same scale
pub data SightRead : Sight → Sight → Type 0 where
  no-sight : SightRead sight.Missing sight.Missing
  land-metres : {m n : ℕ} → Down land m n → SightRead (sight.Land m) (sight.Land n)
  sea-metres : {m n : ℕ} → Down sea m n → SightRead (sight.Sea m) (sight.Sea n)

pub sight-read : (v : Sight) → SightRead v (class_sight v)
sight-read sight.Missing = no-sight
sight-read (sight.Land m) = land-metres (down eqb land land-laws m)
sight-read (sight.Sea m) = sea-metres (down eqb sea sea-laws m)

-- an amount of rain and its reading, which is that of its class
pub record RainRead (r q : Rain) : Type 0 where
  pub class : q ≡ rounded_rain r
  pub near : RainNear r q

pub rain-read : (r : Rain) → RainRead r (rounded_rain r)
rain-read r = record { class = refl; near = rain-kept r }

-- RRRt and its reading: the period is exact
pub data FallRead : Option Fall → Option Fall → Type 0 where
  no-fall : FallRead None None
  fell : {r q : Rain} {t : Option ℕ} → RainRead r q → FallRead (Some (fall_of r t)) (Some (fall_of q t))

pub fall-read : (f : Option Fall) → FallRead f (class_fall f)
fall-read None = no-fall
fall-read (Some x) = fell (rain-read x.amount)

-- a direction and its reading
direction-fits : (d : Direction) (s : Speed) → wind_fits d s ≡ true → direction_fits d ≡ true
direction-fits direction.Missing s e = refl
direction-fits direction.Calm s e = refl
direction-fits direction.Variable s e = refl
direction-fits (direction.Degrees d) s e = (both (leb d 359) (speed_fits s) e).0

pub direction-read : (d : Direction) (s : Speed) → wind_fits d s ≡ true → DirectionNear d (class_direction d)
direction-read d s e = direction-near d (direction-fits d s e)

-- ---- the record that is read back

-- "The numbers scaled here are the rounded ones; all else in a record, missing, calm, variable and trace too, is carried exactly."
pub record SurfaceRead (s q : Surface) : Type 0 where
  pub rain : q.indicators.rain ≡ s.indicators.rain
  pub weather-figure : q.indicators.weather ≡ s.indicators.weather
  pub base : NumberDown base s.indicators.base q.indicators.base
  pub sight : SightRead s.indicators.sight q.indicators.sight
  pub cover : q.wind.cover ≡ s.wind.cover
  pub direction : DirectionNear s.wind.direction q.wind.direction
  pub speed : q.wind.speed ≡ s.wind.speed
  pub air : q.air ≡ s.air
  pub moisture : q.moisture ≡ s.moisture
  pub pressure : q.pressure ≡ s.pressure
  pub level : q.level ≡ s.level
  pub tendency : q.tendency ≡ s.tendency
  pub rainfall : FallRead s.rainfall.is q.rainfall.is
  pub weather : q.weather ≡ s.weather
  pub clouds : q.clouds ≡ s.clouds
  pub clock : q.clock ≡ s.clock

-- a layer's height and its reading, on the same scale; N and C are exact
pub data HeightRead : BaseHeight → BaseHeight → Type 0 where
  no-height : HeightRead height.Missing height.Missing
  by-steps : {m n : ℕ} → Down layer_steps m n → HeightRead (height.Steps m) (height.Steps n)
  by-bands : {m n : ℕ} → Down layer_bands m n → HeightRead (height.Bands m) (height.Bands n)

pub height-read : (h : BaseHeight) → HeightRead h (class_height h)
height-read height.Missing = no-height
height-read (height.Steps m) = by-steps (down eqb layer_steps steps-laws m)
height-read (height.Bands m) = by-bands (down eqb layer_bands bands-laws m)

pub record LayerRead (l k : CloudLayer) : Type 0 where
  pub amount : k.amount ≡ l.amount
  pub cloud : k.cloud ≡ l.cloud
  pub height : HeightRead l.height k.height

layer-read : (l : CloudLayer) → LayerRead l (class_layer l)
layer-read l = record { amount = refl; cloud = refl; height = height-read l.height }

-- section 3: the temperatures are exact, and so is the number of layers
pub record Section3Same (s q : Section3) : Type 0 where
  pub maximum : q.maximum ≡ s.maximum
  pub minimum : q.minimum ≡ s.minimum
  pub count : q.layers.count ≡ s.layers.count
  pub layers : EachRead LayerRead (take s.layers.count s.layers.items) (take q.layers.count q.layers.items)

each-layer : (ls : List CloudLayer) → EachRead LayerRead ls (map class_layer ls)
each-layer [] = none
each-layer (l ∷ ls) = more (layer-read l) (each-layer ls)

section3-read : (s : Section3) → take s.layers.count (class_section3 s).layers.items ≡ map class_layer (take s.layers.count s.layers.items)
    → Section3Same s (class_section3 s)
section3-read s is = record { maximum = refl; minimum = refl; count = refl; layers = rw is (each-layer (take s.layers.count s.layers.items)) }

pub record RecordRead (r q : Synop) : Type 0 where
  pub ship : q.ship ≡ r.ship
  pub site : q.site ≡ r.site
  pub surface : SurfaceRead r.surface q.surface
  pub section3 : Section3Same r.section3 q.section3

surface-read : (s : Surface) → wind_fits s.wind.direction s.wind.speed ≡ true → SurfaceRead s (classed_surface s)
surface-read s w =
    record {
      rain = refl;
      weather-figure = refl;
      base = base_read s.indicators.base;
      sight = sight-read s.indicators.sight;
      cover = refl;
      direction = direction-read s.wind.direction s.wind.speed w;
      speed = refl;
      air = refl;
      moisture = refl;
      pressure = refl;
      level = refl;
      tendency = refl;
      rainfall = fall-read s.rainfall.is;
      weather = refl;
      clouds = refl;
      clock = refl;
    }

-- WHAT IS WRITTEN OF A RECORD THAT THE WRITER ACCEPTS IS READ, to the text's end, as a record that says the same.
pub promise : (r : Synop) → SynopArrays r → judge_of r ≡ Ok tt
    → (groups_read r.ship (tail_of (canonical_of r)) (length (canonical_of r)) (drop 1 (groups_from (canonical_of r) 0)) ≡ Done (length (canonical_of r)) (classed_of r))
    × RecordRead r (classed_of r)
unfolding classed_of
promise r arrays e =
    (read-canonical r arrays e, record { ship = refl; site = refl; surface = surface-read r.surface (wind-fits r e); section3 = section3-read r.section3 (layers-back r arrays e) })
