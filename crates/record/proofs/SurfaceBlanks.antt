-- A part of a SYNOP or SHIP of which nothing is said is the blank one.
-- Assumes nothing.
use Rattle.std.specs.Prelude.{None, Option, Some}
use mathlib.Core.Path.{◌≡◌, refl}
use mathlib.Core.Bool.{true, false≢true}
use mathlib.Core.List.{List, [], ◌∷◌}
use lib.ListN.{length}
use borrow.Author.Tests.{eqb-true, not-true}
use Rattle.shapes.proofs.Patterns.{both}
use Rattle.record.specs.Missing.{is_missing}
use Rattle.record.specs.declared.surface.CallSign.{CallSign}
use Rattle.record.specs.declared.surface.Position.{Position}
use Rattle.record.specs.declared.surface.Time.{Time}
use Rattle.record.specs.declared.surface.Sight.{Sight}
use Rattle.record.specs.declared.surface.Sight.TheVariants as sight
use Rattle.record.specs.declared.surface.Moist.{Moist}
use Rattle.record.specs.declared.surface.Moist.TheVariants as moist
use Rattle.record.specs.declared.surface.AtLevel.{AtLevel}
use Rattle.record.specs.declared.surface.AtLevel.TheVariants as at_level
use Rattle.record.specs.declared.surface.PressureChange.{PressureChange}
use Rattle.record.specs.declared.surface.Fall.{Fall}
use Rattle.record.specs.declared.surface.Weather.{Weather}
use Rattle.record.specs.declared.surface.Clouds.{Clouds}
use Rattle.record.specs.declared.surface.Observed.{Observed}
use Rattle.record.specs.declared.surface.Surface.{Surface}
use Rattle.record.specs.declared.surface.Site.{Site}
use Rattle.record.specs.declared.surface.BaseHeight.{BaseHeight}
use Rattle.record.specs.declared.surface.BaseHeight.TheVariants as height
use Rattle.record.specs.declared.surface.CloudLayer.{CloudLayer}
use Rattle.record.specs.declared.surface.CloudLayers.{CloudLayers}
use Rattle.record.specs.declared.surface.Section3.{Section3}
use Rattle.record.specs.declared.surface.Synop.{Synop}
use Rattle.record.specs.Arrays.{Each, SynopArrays}
use Rattle.record.specs.Blank.{blank_sign, blank_position, blank_time, blank_site, blank_surface, blank_layer, blank_layers, blank_section3, blank_synop}
use Rattle.record.specs.SilentSurface.{no_sign, no_position, no_time, no_sight, no_moist, no_level, no_weather, no_clouds, no_site, no_surface, no_height, is_blank_layer, no_layers, no_section3, is_blank_synop}
use Rattle.record.proofs.Blanks.{none-said, direction-blank, speed-blank, letters-blank}
use Rattle.record.proofs.Counted.{blank-each}

-- ---- the groups

sight-blank : (v : Sight) → no_sight v ≡ true → v ≡ sight.Missing
sight-blank sight.Missing e = refl
sight-blank (sight.Land m) e = absurd (false≢true e)
sight-blank (sight.Sea m) e = absurd (false≢true e)

moist-blank : (m : Moist) → no_moist m ≡ true → m ≡ moist.Missing
moist-blank moist.Missing e = refl
moist-blank (moist.DewPoint t) e = absurd (false≢true e)
moist-blank (moist.Humidity u) e = absurd (false≢true e)

level-blank : (h : AtLevel) → no_level h ≡ true → h ≡ at_level.Missing
level-blank at_level.Missing e = refl
level-blank (at_level.Pressure p) e = absurd (false≢true e)
level-blank (at_level.Isobaric a h) e = absurd (false≢true e)

pub sign-blank : (s : CallSign) → length s.letters ≡ 9 → no_sign s ≡ true → s ≡ blank_sign
sign-blank s nine e =
    let t = both _ _ e in
    λ i. record { letters = (rw nine at (letters-blank s.letters t.1)) i; length = eqb-true s.length 0 t.0 i }

pub position-blank : (p : Position) → no_position p ≡ true → p ≡ blank_position
position-blank p e =
    let t = both _ _ e in
    λ i. record { latitude = none-said p.latitude t.0 i; longitude = none-said p.longitude t.1 i }

time-blank : (t : Time) → no_time t ≡ true → t ≡ blank_time
time-blank t e =
    let u = both _ _ e in
    let h = both _ _ u.0 in
    λ i. record { day = none-said t.day h.0 i; hour = none-said t.hour h.1 i; unit = none-said t.unit u.1 i }

pub weather-blank : (w : Weather) → no_weather w ≡ true → w ≡ blank_surface.weather
weather-blank w e =
    let t = both _ _ e in
    let s = both _ _ t.0 in
    λ i. record { present = none-said w.present s.0 i; past = none-said w.past s.1 i; past2 = none-said w.past2 t.1 i }

pub clouds-blank : (c : Clouds) → no_clouds c ≡ true → c ≡ blank_surface.clouds
clouds-blank c e =
    let t = both _ _ e in
    let s = both _ _ t.0 in
    let r = both _ _ s.0 in
    λ i. record { amount = none-said c.amount r.0 i; low = none-said c.low r.1 i; middle = none-said c.middle s.1 i; high = none-said c.high t.1 i }

-- ---- the report

pub surface-blank : (s : Surface) → no_surface s ≡ true → s ≡ blank_surface
unfolding no_surface
surface-blank s e =
    let clock = both _ _ e in
    let clouds = both _ _ clock.0 in
    let weather = both _ _ clouds.0 in
    let rainfall = both _ _ weather.0 in
    let tendency = both _ _ rainfall.0 in
    let level = both _ _ tendency.0 in
    let pressure = both _ _ level.0 in
    let moisture = both _ _ pressure.0 in
    let air = both _ _ moisture.0 in
    let wind = both _ _ air.0 in
    let speed = both _ _ wind.1 in
    let direction = both _ _ speed.0 in
    let sight = both _ _ wind.0 in
    let base = both _ _ sight.0 in
    let first = both _ _ base.0 in
    λ i. record {
      indicators = record { rain = none-said s.indicators.rain first.0 i; weather = none-said s.indicators.weather first.1 i; base = none-said s.indicators.base base.1 i; sight = sight-blank s.indicators.sight sight.1 i };
      wind = record { cover = none-said s.wind.cover direction.0 i; direction = direction-blank s.wind.direction direction.1 i; speed = speed-blank s.wind.speed speed.1 i };
      air = record { temperature = none-said s.air.temperature air.1 i };
      moisture = record { is = moist-blank s.moisture.is moisture.1 i };
      pressure = record { station = none-said s.pressure.station pressure.1 i };
      level = record { is = level-blank s.level.is level.1 i };
      tendency = record { is = none-said s.tendency.is tendency.1 i };
      rainfall = record { is = none-said s.rainfall.is rainfall.1 i };
      weather = weather-blank s.weather weather.1 i;
      clouds = clouds-blank s.clouds clouds.1 i;
      clock = record { is = none-said s.clock.is clock.1 i };
    }

site-blank : (s : Site) → length s.sign.letters ≡ 9 → no_site s ≡ true → s ≡ blank_site
site-blank s nine e =
    let nil = both _ _ e in
    let time = both _ _ nil.0 in
    let position = both _ _ time.0 in
    let sign = both _ _ position.0 in
    λ i. record { station = none-said s.station sign.0 i; sign = sign-blank s.sign nine sign.1 i; position = position-blank s.position position.1 i; time = time-blank s.time time.1 i; nil = not-true s.nil nil.1 i }

-- ---- section 3

height-blank : (h : BaseHeight) → no_height h ≡ true → h ≡ height.Missing
height-blank height.Missing e = refl
height-blank (height.Steps m) e = absurd (false≢true e)
height-blank (height.Bands m) e = absurd (false≢true e)

pub layer-blank : (l : CloudLayer) → is_blank_layer l ≡ true → l ≡ blank_layer
layer-blank l e =
    let t = both _ _ e in
    let s = both _ _ t.0 in
    λ i. record { amount = none-said l.amount s.0 i; cloud = none-said l.cloud s.1 i; height = height-blank l.height t.1 i }

any : (ls : List CloudLayer) → Each (λ (l : CloudLayer). Unit {0}) ls
any [] = tt
any (l ∷ ls) = (tt, any ls)

layers-blank : (ls : CloudLayers) → length ls.items ≡ 4 → no_layers ls ≡ true → ls ≡ blank_layers
layers-blank ls four e =
    let t = both _ _ e in
    let items = blank-each (λ (l : CloudLayer). Unit {0}) is_blank_layer blank_layer (λ l a h. layer-blank l h) ls.items (any ls.items) t.1 in
    λ i. record { items = (rw four at items) i; count = eqb-true ls.count 0 t.0 i }

pub section3-blank : (s : Section3) → length s.layers.items ≡ 4 → no_section3 s ≡ true → s ≡ blank_section3
section3-blank s four e =
    let layers = both _ _ e in
    let air = both _ _ layers.0 in
    λ i. record { maximum = record { temperature = none-said s.maximum.temperature air.0 i }; minimum = record { temperature = none-said s.minimum.temperature air.1 i }; layers = layers-blank s.layers four layers.1 i }

-- ---- the whole

pub synop-blank : (r : Synop) → SynopArrays r → is_blank_synop r ≡ true → r ≡ blank_synop
unfolding is_blank_synop
synop-blank r arrays e =
    let third = both _ _ e in
    let surface = both _ _ third.0 in
    let site = both _ _ surface.0 in
    λ i. record { ship = not-true r.ship site.0 i; site = site-blank r.site arrays.letters site.1 i; surface = surface-blank r.surface surface.1 i; section3 = section3-blank r.section3 arrays.layers third.1 i }
