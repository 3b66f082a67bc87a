-- The rounded numbers of a record, scale by scale in the order in which they are written, and what each is read back as.
-- "The numbers scaled here are the rounded ones; all else in a record, missing, calm, variable and trace too, is carried exactly."
-- Assumes nothing.
use Rattle.std.specs.Prelude.{None, Option, Some}
use Prim.Native.Nat.{ℕ, ◌≤◌}
use mathlib.Core.Path.{◌≡◌, refl, sym, ap, ◌∙◌}
use mathlib.Core.Bool.{Bool, true, false}
use mathlib.Core.List.{List, [], ◌∷◌, ◌++◌, map}
use lib.ListN.{get_or, take, get_or-map}
use lib.Dec.{eqb}
use lib.IntN.{ℤ}
use lib.Signed.{le_z}
use Rattle.scales.specs.declared.kinds.Rain.{Rain}
use Rattle.scales.specs.declared.kinds.Range.{Range}
use Rattle.scales.specs.Scale.{Scale, foot_of}
use Rattle.scales.specs.Metres as scale
use Rattle.scales.specs.Depth as deposit
use Rattle.scales.specs.Layers as layered
use Rattle.scales.specs.Rounded.{rounded_rain, rain_rank}
use Rattle.scales.proofs.Laws.{Lawful}
use Rattle.scales.proofs.Down.{Down, down}
use Rattle.scales.proofs.MetresLaws.{land-laws, sea-laws, base-laws, visibility-laws, runway-laws, cloud-laws}
use Rattle.scales.proofs.DepthLaws.{depth-laws}
use Rattle.scales.proofs.LayersLaws.{steps-laws, bands-laws}
use Rattle.scales.proofs.DegreesLaws.{degrees-order}
use Rattle.scales.proofs.PressureLaws.{pressure-order}
use Rattle.record.specs.declared.values.Direction.{Direction}
use Rattle.record.specs.declared.values.Direction.TheVariants as direction
use Rattle.record.specs.declared.values.Speed.{Speed}
use Rattle.record.specs.declared.values.Speed.TheVariants as speed
use Rattle.record.specs.declared.surface.Sight.{Sight}
use Rattle.record.specs.declared.surface.Sight.TheVariants as sight
use Rattle.record.specs.declared.surface.Fall.{Fall}
use Rattle.record.specs.declared.surface.BaseHeight.{BaseHeight}
use Rattle.record.specs.declared.surface.BaseHeight.TheVariants as height
use Rattle.record.specs.declared.surface.CloudLayer.{CloudLayer}
use Rattle.record.specs.declared.surface.Surface.{Surface}
use Rattle.record.specs.declared.surface.Synop.{Synop}
use Rattle.record.specs.declared.aerodrome.Extremes.{Extremes}
use Rattle.record.specs.declared.aerodrome.Unit.{Unit}
use Rattle.record.specs.declared.aerodrome.Unit.TheVariants as unit
use Rattle.record.specs.declared.aerodrome.View.{View}
use Rattle.record.specs.declared.aerodrome.View.TheVariants as view
use Rattle.record.specs.declared.aerodrome.Runway.{Runway}
use Rattle.record.specs.declared.aerodrome.Depth.{Depth}
use Rattle.record.specs.declared.aerodrome.Depth.TheVariants as deep
use Rattle.record.specs.declared.aerodrome.Condition.{Condition}
use Rattle.record.specs.declared.aerodrome.Condition.TheVariants as condition
use Rattle.record.specs.declared.aerodrome.RunwayState.{RunwayState}
use Rattle.record.specs.declared.aerodrome.Layer.{Layer}
use Rattle.record.specs.declared.aerodrome.Cover.{Cover}
use Rattle.record.specs.declared.aerodrome.Cover.TheVariants as cover
use Rattle.record.specs.declared.aerodrome.Sky.{Sky}
use Rattle.record.specs.declared.aerodrome.Change.{Change}
use Rattle.record.specs.declared.aerodrome.Body.{Body}
use Rattle.record.specs.declared.aerodrome.Observation.{Observation}
use Rattle.record.specs.declared.aerodrome.TrendChange.{TrendChange}
use Rattle.record.specs.declared.aerodrome.Metar.{Metar}
use Rattle.record.specs.declared.aerodrome.Edition.{Edition}
use Rattle.record.specs.declared.aerodrome.Taf.{Taf}
use Rattle.record.specs.Classes as classes
use Rattle.record.specs.Missing.{no_speed}
use Rattle.synop_groups.specs.Classes.{class_base, class_sight, class_fall, class_height, class_layer as class_cloud_layer}
use Rattle.elements.specs.Wind.{class_speed, speed_rank, class_extremes}
use Rattle.elements.specs.Visibility.{class_view}
use Rattle.elements.specs.Sky.{class_layer, class_cover, class_sky}
use Rattle.elements.specs.Body.{class_body}
use Rattle.wind.proofs.SpeedLaws.{missing-classed, speed-order}
use Rattle.trend_row.specs.Row as trend-row
use Rattle.trend.specs.Write as trend
use Rattle.aerodrome_groups.specs.Runway.{class_runway}
use Rattle.aerodrome_groups.specs.Temperatures.{class_tenths, class_pressure}
use Rattle.runway_states.specs.State.{class_depth, class_condition, class_state}
use Rattle.taf_row.specs.Row.{row}
use Rattle.taf.specs.Write.{class_change}
use Rattle.report_record.specs.declared.kinds.Kind.{Kind}
use Rattle.report_record.specs.declared.kinds.Kind.TheVariants as kind
use Rattle.report_record.specs.declared.kinds.Report.{Report}

-- ---- the six scales in metres, the heights of layers in section 3, and the depth of deposits, in millimetres, which round down

pub data Table : Type 0 where
  -- 4377 land and sea, 1600 h, VVVV, RVR, 1690, 1079, 1677 by steps and by bands
  land : Table
  sea : Table
  base : Table
  visibility : Table
  runway : Table
  cloud : Table
  depth : Table
  steps : Table
  bands : Table

-- the figures of each, when two are one, the scale and its laws
abbrev pub Figures : Table → Type 0
Figures land = ℕ
Figures sea = ℕ
Figures base = ℕ
Figures visibility = ℕ
Figures runway = Range
Figures cloud = ℕ
Figures depth = ℕ
Figures steps = ℕ
Figures bands = ℕ

abbrev pub scale_of : (t : Table) → Scale (Figures t)
scale_of land = scale.land
scale_of sea = scale.sea
scale_of base = scale.base
scale_of visibility = scale.visibility
scale_of runway = scale.runway
scale_of cloud = scale.cloud
scale_of depth = deposit.depth
scale_of steps = layered.layer_steps
scale_of bands = layered.layer_bands

abbrev pub same_of : (t : Table) → Figures t → Figures t → Bool
same_of land = eqb
same_of sea = eqb
same_of base = eqb
same_of visibility = eqb
same_of runway = scale.same_range
same_of cloud = eqb
same_of depth = eqb
same_of steps = eqb
same_of bands = eqb

pub laws_of : (t : Table) → Lawful (same_of t) (scale_of t)
laws_of land = land-laws
laws_of sea = sea-laws
laws_of base = base-laws
laws_of visibility = visibility-laws
laws_of runway = runway-laws
laws_of cloud = cloud-laws
laws_of depth = depth-laws
laws_of steps = steps-laws
laws_of bands = bands-laws

-- what a value is read back as: the foot of its class
abbrev pub foot_on : Table → ℕ → ℕ
foot_on t m = foot_of (scale_of t) m

abbrev pub class_on : Table → Option ℕ → Option ℕ
class_on t = classes.class_on (scale_of t)

-- ---- a record's numbers on each

abbrev pub land_metres : Sight → Option ℕ
land_metres sight.Missing = None
land_metres (sight.Land m) = Some m
land_metres (sight.Sea m) = None

abbrev pub sea_metres : Sight → Option ℕ
sea_metres sight.Missing = None
sea_metres (sight.Land m) = None
sea_metres (sight.Sea m) = Some m

abbrev pub view_metres : View → Option ℕ
view_metres view.Missing = None
view_metres view.Cavok = None
view_metres (view.Metres m) = Some m

abbrev pub surface_numbers : Table → Surface → List (Option ℕ)
surface_numbers land s = land_metres s.indicators.sight ∷ []
surface_numbers sea s = sea_metres s.indicators.sight ∷ []
surface_numbers base s = s.indicators.base ∷ []
surface_numbers visibility s = []
surface_numbers runway s = []
surface_numbers cloud s = []
surface_numbers depth s = []
surface_numbers steps s = []
surface_numbers bands s = []

abbrev pub steps_metres : BaseHeight → Option ℕ
steps_metres height.Missing = None
steps_metres (height.Steps m) = Some m
steps_metres (height.Bands m) = None

abbrev pub bands_metres : BaseHeight → Option ℕ
bands_metres height.Missing = None
bands_metres (height.Steps m) = None
bands_metres (height.Bands m) = Some m

-- of section 3: the heights of the layers that count
abbrev pub section3_numbers : Table → List CloudLayer → List (Option ℕ)
section3_numbers land ls = []
section3_numbers sea ls = []
section3_numbers base ls = []
section3_numbers visibility ls = []
section3_numbers runway ls = []
section3_numbers cloud ls = []
section3_numbers depth ls = []
section3_numbers steps ls = map (λ (l : CloudLayer). steps_metres l.height) ls
section3_numbers bands ls = map (λ (l : CloudLayer). bands_metres l.height) ls

abbrev pub synop_numbers : Table → Synop → List (Option ℕ)
synop_numbers t r = surface_numbers t r.surface ++ section3_numbers t (take r.section3.layers.count r.section3.layers.items)

abbrev pub vertical_of : Cover → Option ℕ
vertical_of cover.Layers = None
vertical_of cover.Clear = None
vertical_of cover.NoneSignificant = None
vertical_of cover.NoneDetected = None
vertical_of (cover.Vertical h) = h

-- the vertical visibility and the layers stand on one scale
abbrev pub sky_heights : Sky → List (Option ℕ)
sky_heights s = vertical_of s.cover ∷ map (λ (l : Layer). l.height) s.layers

-- of a body: its visibility, its heights
abbrev pub body_numbers : Table → Body → List (Option ℕ)
body_numbers land b = []
body_numbers sea b = []
body_numbers base b = []
body_numbers visibility b = view_metres b.visibility.is ∷ []
body_numbers runway b = []
body_numbers cloud b = sky_heights b.sky
body_numbers depth b = []
body_numbers steps b = []
body_numbers bands b = []

-- of one body after the other
abbrev pub bodies_numbers : Table → List Body → List (Option ℕ)
bodies_numbers t [] = []
bodies_numbers t (b ∷ bs) = body_numbers t b ++ bodies_numbers t bs

abbrev pub millimetres : Depth → Option ℕ
millimetres deep.Missing = None
millimetres deep.Closed = None
millimetres (deep.Millimetres m) = Some m

abbrev pub depth_of : Condition → Option ℕ
depth_of condition.Cleared = None
depth_of (condition.Covered d e h b) = millimetres h

-- of the runways: their visual ranges, the depths of their deposits
abbrev pub runway_numbers : Table → Observation → List (Option ℕ)
runway_numbers land o = []
runway_numbers sea o = []
runway_numbers base o = []
runway_numbers visibility o = []
runway_numbers runway o = map (λ (w : Runway). w.range) o.runways.items
runway_numbers cloud o = []
runway_numbers depth o = map (λ (s : RunwayState). depth_of s.condition) o.states.items
runway_numbers steps o = []
runway_numbers bands o = []

-- the observation's body, then those of the trend's changes
abbrev pub observed_bodies : Metar → List Body
observed_bodies r = r.observation.body ∷ map (λ (c : TrendChange). c.body) r.trend.items

abbrev pub observed_numbers : Table → Metar → List (Option ℕ)
observed_numbers t r = runway_numbers t r.observation ++ bodies_numbers t (observed_bodies r)

-- the main part's body, then those of the changes
abbrev pub forecast_bodies : Taf → List Body
forecast_bodies t = t.leg.body ∷ map (λ (c : Change). c.body) t.changes.items

abbrev pub forecast_numbers : Table → Taf → List (Option ℕ)
forecast_numbers t r = bodies_numbers t (forecast_bodies r)

abbrev pub numbers_by : Kind → Table → Report → List (Option ℕ)
numbers_by kind.Missing t r = []
numbers_by kind.Surface t r = synop_numbers t r.surface
numbers_by kind.Observed t r = observed_numbers t r.observed
numbers_by kind.Forecast t r = forecast_numbers t r.forecast

abbrev pub numbers_of : Table → Report → List (Option ℕ)
numbers_of t r = numbers_by r.kind t r

-- aerodrome temperatures and dew points; Q; amounts of rain
abbrev pub temperatures_by : Kind → Report → List (Option ℤ)
temperatures_by kind.Missing r = []
temperatures_by kind.Surface r = []
temperatures_by kind.Observed r = r.observed.observation.temperatures.air ∷ r.observed.observation.temperatures.dew ∷ []
temperatures_by kind.Forecast r = []

abbrev pub temperatures_of : Report → List (Option ℤ)
temperatures_of r = temperatures_by r.kind r

abbrev pub pressures_by : Kind → Report → List (Option ℕ)
pressures_by kind.Missing r = []
pressures_by kind.Surface r = []
pressures_by kind.Observed r = r.observed.observation.qnh.is ∷ []
pressures_by kind.Forecast r = []

abbrev pub pressures_of : Report → List (Option ℕ)
pressures_of r = pressures_by r.kind r

-- a speed with its unit, and its class; the mean and the gust of each body. In a SYNOP or SHIP speeds are carried exactly
pub record UnitSpeed : Type 0 where
  pub unit : Unit
  pub speed : Speed

abbrev pub class_unit_speed : UnitSpeed → UnitSpeed
class_unit_speed s = record { unit = s.unit; speed = class_speed s.unit s.speed }

abbrev pub bodies_speeds : List Body → List UnitSpeed
bodies_speeds [] = []
bodies_speeds (b ∷ bs) =
    record { unit = b.wind.unit; speed = b.wind.speed } ∷ record { unit = b.wind.unit; speed = b.wind.gust } ∷ bodies_speeds bs

abbrev pub speeds_by : Kind → Report → List UnitSpeed
speeds_by kind.Missing r = []
speeds_by kind.Surface r = []
speeds_by kind.Observed r = bodies_speeds (observed_bodies r.observed)
speeds_by kind.Forecast r = bodies_speeds (forecast_bodies r.forecast)

abbrev pub speeds_of : Report → List UnitSpeed
speeds_of r = speeds_by r.kind r

-- the directions: of a SYNOP or SHIP dd; of METAR, SPECI and TAF that of each body's wind, with the extremes between which an observed one varies. On a circle
-- none is greater than another, so that no order is claimed of them.
abbrev pub extreme_directions : Option Extremes → List Direction
extreme_directions None = []
extreme_directions (Some x) = direction.Degrees x.from ∷ direction.Degrees x.to ∷ []

abbrev pub trend_direction : TrendChange → Direction
trend_direction c = c.body.wind.direction

abbrev pub observed_directions : Metar → List Direction
observed_directions r = r.observation.body.wind.direction ∷ extreme_directions r.observation.variation.is ++ map trend_direction r.trend.items

abbrev pub change_direction : Change → Direction
change_direction c = c.body.wind.direction

abbrev pub forecast_directions : Taf → List Direction
forecast_directions t = t.leg.body.wind.direction ∷ map change_direction t.changes.items

abbrev pub directions_by : Kind → Report → List Direction
directions_by kind.Missing r = []
directions_by kind.Surface r = r.surface.surface.wind.direction ∷ []
directions_by kind.Observed r = observed_directions r.observed
directions_by kind.Forecast r = forecast_directions r.forecast

abbrev pub directions_of : Report → List Direction
directions_of r = directions_by r.kind r

abbrev pub amount_of : Option Fall → List Rain
amount_of None = []
amount_of (Some x) = x.amount ∷ []

abbrev pub rains_by : Kind → Report → List Rain
rains_by kind.Missing r = []
rains_by kind.Surface r = amount_of r.surface.surface.rainfall.is
rains_by kind.Observed r = []
rains_by kind.Forecast r = []

abbrev pub rains_of : Report → List Rain
rains_of r = rains_by r.kind r

-- ---- each is read back as its class

map-square : {A B : Type 0} (of : A → B) (f : A → A) (g : B → B) → ((a : A) → of (f a) ≡ g (of a)) → (xs : List A) → map of (map f xs) ≡ map g (map of xs)
map-square of f g e [] = refl
map-square of f g e (x ∷ xs) = rw (e x, map-square of f g e xs)

map-append : {A B : Type 0} (f : A → B) (xs ys : List A) → map f (xs ++ ys) ≡ map f xs ++ map f ys
map-append f [] ys = refl
map-append f (x ∷ xs) ys = rw (map-append f xs ys)

sight-land : (v : Sight) → land_metres (class_sight v) ≡ class_on land (land_metres v)
sight-land sight.Missing = refl
sight-land (sight.Land m) = refl
sight-land (sight.Sea m) = refl

sight-sea : (v : Sight) → sea_metres (class_sight v) ≡ class_on sea (sea_metres v)
sight-sea sight.Missing = refl
sight-sea (sight.Land m) = refl
sight-sea (sight.Sea m) = refl

view-is : (v : View) → view_metres (class_view v) ≡ class_on visibility (view_metres v)
view-is view.Missing = refl
view-is view.Cavok = refl
view-is (view.Metres m) = refl

vertical-is : (c : Cover) → vertical_of (class_cover c) ≡ class_on cloud (vertical_of c)
vertical-is cover.Layers = refl
vertical-is cover.Clear = refl
vertical-is cover.NoneSignificant = refl
vertical-is cover.NoneDetected = refl
vertical-is (cover.Vertical h) = refl

sky-is : (s : Sky) → sky_heights (class_sky s) ≡ map (class_on cloud) (sky_heights s)
sky-is s =
    rw (vertical-is s.cover, map-square (λ (l : Layer). l.height) class_layer (class_on cloud) (λ l. refl) s.layers)

body_is : (t : Table) (b : Body) → body_numbers t (class_body b) ≡ map (class_on t) (body_numbers t b)
body_is land b = refl
body_is sea b = refl
body_is base b = refl
body_is visibility b = rw (view-is b.visibility.is)
body_is runway b = refl
body_is cloud b = sky-is b.sky
body_is depth b = refl
body_is steps b = refl
body_is bands b = refl

bodies-is : (t : Table) (bs : List Body) → bodies_numbers t (map class_body bs) ≡ map (class_on t) (bodies_numbers t bs)
bodies-is t [] = refl
bodies-is t (b ∷ bs) = rw (body_is t b, bodies-is t bs) (sym (map-append (class_on t) (body_numbers t b) (bodies_numbers t bs)))

millimetres-is : (h : Depth) → millimetres (class_depth h) ≡ class_on depth (millimetres h)
millimetres-is deep.Missing = refl
millimetres-is deep.Closed = refl
millimetres-is (deep.Millimetres m) = refl

depth_is : (c : Condition) → depth_of (class_condition c) ≡ class_on depth (depth_of c)
depth_is condition.Cleared = refl
depth_is (condition.Covered d e h b) = millimetres-is h

runway-is : (t : Table) (o q : Observation) → q.runways.items ≡ map class_runway o.runways.items → q.states.items ≡ map class_state o.states.items
    → runway_numbers t q ≡ map (class_on t) (runway_numbers t o)
runway-is land o q e f = refl
runway-is sea o q e f = refl
runway-is base o q e f = refl
runway-is visibility o q e f = refl
runway-is runway o q e f = rw (e, map-square (λ (w : Runway). w.range) class_runway (class_on runway) (λ w. refl) o.runways.items)
runway-is cloud o q e f = refl
runway-is depth o q e f = rw (f, map-square (λ (s : RunwayState). depth_of s.condition) class_state (class_on depth) (λ s. depth_is s.condition) o.states.items)
runway-is steps o q e f = refl
runway-is bands o q e f = refl

surface-numbers : (t : Table) (s q : Surface) → q.indicators.sight ≡ class_sight s.indicators.sight → q.indicators.base ≡ class_base s.indicators.base
    → surface_numbers t q ≡ map (class_on t) (surface_numbers t s)
surface-numbers land s q e f = rw (e, sight-land s.indicators.sight)
surface-numbers sea s q e f = rw (e, sight-sea s.indicators.sight)
surface-numbers base s q e f = rw f
surface-numbers visibility s q e f = refl
surface-numbers runway s q e f = refl
surface-numbers cloud s q e f = refl
surface-numbers depth s q e f = refl
surface-numbers steps s q e f = refl
surface-numbers bands s q e f = refl

steps-is : (h : BaseHeight) → steps_metres (class_height h) ≡ class_on steps (steps_metres h)
steps-is height.Missing = refl
steps-is (height.Steps m) = refl
steps-is (height.Bands m) = refl

bands-is : (h : BaseHeight) → bands_metres (class_height h) ≡ class_on bands (bands_metres h)
bands-is height.Missing = refl
bands-is (height.Steps m) = refl
bands-is (height.Bands m) = refl

section3-is : (t : Table) (ls : List CloudLayer) → section3_numbers t (map class_cloud_layer ls) ≡ map (class_on t) (section3_numbers t ls)
section3-is land ls = refl
section3-is sea ls = refl
section3-is base ls = refl
section3-is visibility ls = refl
section3-is runway ls = refl
section3-is cloud ls = refl
section3-is depth ls = refl
section3-is steps ls = map-square (λ (l : CloudLayer). steps_metres l.height) class_cloud_layer (class_on steps) (λ l. steps-is l.height) ls
section3-is bands ls = map-square (λ (l : CloudLayer). bands_metres l.height) class_cloud_layer (class_on bands) (λ l. bands-is l.height) ls

pub synop-numbers : (t : Table) (r q : Synop) → q.surface.indicators.sight ≡ class_sight r.surface.indicators.sight
    → q.surface.indicators.base ≡ class_base r.surface.indicators.base
    → take q.section3.layers.count q.section3.layers.items ≡ map class_cloud_layer (take r.section3.layers.count r.section3.layers.items)
    → synop_numbers t q ≡ map (class_on t) (synop_numbers t r)
synop-numbers t r q e f layers =
    let counted = take r.section3.layers.count r.section3.layers.items in
    ap (λ (l : List (Option ℕ)). l ++ section3_numbers t (take q.section3.layers.count q.section3.layers.items)) (surface-numbers t r.surface q.surface e f)
    ∙ ap (λ (l : List (Option ℕ)). map (class_on t) (surface_numbers t r.surface) ++ l) (ap (section3_numbers t) layers ∙ section3-is t counted)
    ∙ sym (map-append (class_on t) (surface_numbers t r.surface) (section3_numbers t counted))

-- a body and those of the changes, each read back as its class
with-changes : {A : Type 0} (of : A → Body) (f : A → A) → ((x : A) → of (f x) ≡ class_body (of x)) → (b c : Body) (xs ys : List A) → c ≡ class_body b → ys ≡ map f xs
    → c ∷ map of ys ≡ map class_body (b ∷ map of xs)
with-changes of f e b c xs ys first rest =
    ap (λ (d : Body). d ∷ map of ys) first ∙ ap (λ (l : List Body). class_body b ∷ l) (ap (map of) rest ∙ map-square of f class_body e xs)

pub observed-bodies : (r q : Metar) → q.observation.body ≡ class_body r.observation.body → q.trend.items ≡ map trend.class_change r.trend.items
    → observed_bodies q ≡ map class_body (observed_bodies r)
unfolding trend.class_change trend-row.row
observed-bodies r q f g =
    with-changes (λ (c : TrendChange). c.body) trend.class_change (λ c. refl) r.observation.body q.observation.body r.trend.items q.trend.items f g

pub forecast-bodies : (r q : Taf) → q.leg.body ≡ class_body r.leg.body → q.changes.items ≡ map (class_change r.edition) r.changes.items
    → forecast_bodies q ≡ map class_body (forecast_bodies r)
unfolding class_change row
forecast-bodies r q f g =
    with-changes (λ (c : Change). c.body) (class_change r.edition) (λ c. refl) r.leg.body q.leg.body r.changes.items q.changes.items f g

pub observed-numbers : (t : Table) (r q : Metar) → q.observation.runways.items ≡ map class_runway r.observation.runways.items
    → q.observation.states.items ≡ map class_state r.observation.states.items
    → observed_bodies q ≡ map class_body (observed_bodies r) → observed_numbers t q ≡ map (class_on t) (observed_numbers t r)
observed-numbers t r q e f bodies =
    let runways = runway_numbers t r.observation in
    ap (λ (l : List (Option ℕ)). l ++ bodies_numbers t (observed_bodies q)) (runway-is t r.observation q.observation e f)
    ∙ ap (λ (l : List (Option ℕ)). map (class_on t) runways ++ l) (ap (bodies_numbers t) bodies ∙ bodies-is t (observed_bodies r))
    ∙ sym (map-append (class_on t) runways (bodies_numbers t (observed_bodies r)))

pub forecast-numbers : (t : Table) (r q : Taf) → forecast_bodies q ≡ map class_body (forecast_bodies r) → forecast_numbers t q ≡ map (class_on t) (forecast_numbers t r)
forecast-numbers t r q bodies = ap (bodies_numbers t) bodies ∙ bodies-is t (forecast_bodies r)

each-speed : (bs : List Body) → bodies_speeds (map class_body bs) ≡ map class_unit_speed (bodies_speeds bs)
each-speed [] = refl
each-speed (b ∷ bs) = rw (each-speed bs)

pub bodies-speeds : (bs cs : List Body) → cs ≡ map class_body bs → bodies_speeds cs ≡ map class_unit_speed (bodies_speeds bs)
bodies-speeds bs cs e = ap bodies_speeds e ∙ each-speed bs

extremes-is : (x : Option Extremes) → extreme_directions (class_extremes x) ≡ map classes.class_direction (extreme_directions x)
extremes-is None = refl
extremes-is (Some x) = refl

-- the direction of a change's wind is read back as its class
pub trend-direction : (c : TrendChange) → trend_direction (trend.class_change c) ≡ classes.class_direction (trend_direction c)
unfolding trend.class_change trend-row.row
trend-direction c = refl

pub change-direction : (e : Edition) (c : Change) → change_direction (class_change e c) ≡ classes.class_direction (change_direction c)
unfolding class_change row
change-direction e c = refl

pub observed-directions : (r q : Metar) → q.observation.body.wind.direction ≡ classes.class_direction r.observation.body.wind.direction
    → q.observation.variation.is ≡ class_extremes r.observation.variation.is → q.trend.items ≡ map trend.class_change r.trend.items
    → observed_directions q ≡ map classes.class_direction (observed_directions r)
observed-directions r q e f g =
    rw (e, f, g, extremes-is r.observation.variation.is, map-square trend_direction trend.class_change classes.class_direction trend-direction r.trend.items)
    (ap (λ (l : List Direction). classes.class_direction r.observation.body.wind.direction ∷ l)
    (sym (map-append classes.class_direction (extreme_directions r.observation.variation.is) (map trend_direction r.trend.items))))

pub forecast-directions : (r q : Taf) → q.leg.body.wind.direction ≡ classes.class_direction r.leg.body.wind.direction
    → q.changes.items ≡ map (class_change r.edition) r.changes.items → forecast_directions q ≡ map classes.class_direction (forecast_directions r)
forecast-directions r q e g =
    rw (e, g, map-square change_direction (class_change r.edition) classes.class_direction (change-direction r.edition) r.changes.items)

pub amount-is : (f : Option Fall) → amount_of (class_fall f) ≡ map rounded_rain (amount_of f)
amount-is None = refl
amount-is (Some x) = refl

-- ---- how far off, on each scale

abbrev pub DownOn : Table → ℕ → ℕ → Type 0
DownOn t v r = Down (scale_of t) v r

pub down-on : (t : Table) (v : ℕ) → DownOn t v (foot_on t v)
down-on t v = down (same_of t) (scale_of t) (laws_of t) v

-- ---- the order

pub order-on : (t : Table) (v w : ℕ) → v ≤ w → foot_on t v ≤ foot_on t w
order-on t v w h = (laws_of t).order v w h

-- the one is not above the other; both are there
pub data NumberOrder : Option ℕ → Option ℕ → Type 0 where
  numbers : {m n : ℕ} → m ≤ n → NumberOrder (Some m) (Some n)

pub data TenthsOrder : Option ℤ → Option ℤ → Type 0 where
  in-tenths : {t u : ℤ} → le_z t u ≡ true → TenthsOrder (Some t) (Some u)

-- "the comparison is made within a unit": "above" a number is "greater than each number up to it"
pub data SpeedOrder : UnitSpeed → UnitSpeed → Type 0 where
  speeds : {u : Unit} {s t : Speed} → no_speed s ≡ false → no_speed t ≡ false → speed_rank s ≤ speed_rank t
      → SpeedOrder (record { unit = u; speed = s }) (record { unit = u; speed = t })

-- "Trace is least."
abbrev pub RainOrder : Rain → Rain → Type 0
RainOrder a b = rain_rank a ≤ rain_rank b

pub class-order : (t : Table) (a b : Option ℕ) → NumberOrder a b → NumberOrder (class_on t a) (class_on t b)
class-order t _ _ (numbers {m} {n} h) = numbers (order-on t m n h)

pub temperature-order : (a b : Option ℤ) → TenthsOrder a b → TenthsOrder (class_tenths a) (class_tenths b)
temperature-order _ _ (in-tenths {t} {u} h) = in-tenths (degrees-order t u h)

pub qnh-order : (a b : Option ℕ) → NumberOrder a b → NumberOrder (class_pressure a) (class_pressure b)
qnh-order _ _ (numbers {m} {n} h) = numbers (pressure-order m n h)

pub class-speed-order : (a b : UnitSpeed) → SpeedOrder a b → SpeedOrder (class_unit_speed a) (class_unit_speed b)
class-speed-order _ _ (speeds {u} {s} {t} e f h) = speeds (missing-classed u s ∙ e) (missing-classed u t ∙ f) (speed-order u s t h)

-- where a list has no speed
abbrev pub no_unit_speed : UnitSpeed
no_unit_speed = record { unit = unit.Missing; speed = speed.Missing }

-- any two of two lists, wherever they stand, are in the same order in the lists that are read back
abbrev pub InOrder : {A : Type 0} → (A → A → Type 0) → A → List A → List A → List A → List A → Type 0
InOrder below none vs ws back-vs back-ws = (i j : ℕ) → below (get_or vs i none) (get_or ws j none) → below (get_or back-vs i none) (get_or back-ws j none)

-- what stands at a place of a list of which each number was read back
pub read_at : {A : Type 0} (none : A) (f : A → A) → f none ≡ none → (xs : List A) (i : ℕ) → get_or (map f xs) i none ≡ f (get_or xs i none)
read_at none f e xs i = ap (get_or (map f xs) i) (sym e) ∙ get_or-map f xs i none

pub in_order : {A : Type 0} (below : A → A → Type 0) (none : A) (f : A → A) → f none ≡ none → ((a b : A) → below a b → below (f a) (f b)) → (vs ws : List A)
    → InOrder below none vs ws (map f vs) (map f ws)
in_order below none f e o vs ws i j h =
    rw (read_at none f e vs i, read_at none f e ws j) (o (get_or vs i none) (get_or ws j none) h)
