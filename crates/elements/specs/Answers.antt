-- What the functions that read a group answer: the definition's reading, as what the group says; and of weather and clouds the parts of it.
-- Assumes nothing: these are definitions.
use Rattle.std.specs.Prelude.{ℕ, Bool, cond, Err, Ok, Result}
use Rattle.text.specs.declared.kinds.Refusal.{Refusal}
use Rattle.text.specs.declared.kinds.Refusal.TheVariants as refusal
use Rattle.shapes.specs.Shape.{has_shape}
use Rattle.places.specs.Engine.{Group}
use Rattle.record.specs.declared.aerodrome.Wind.{Wind}
use Rattle.record.specs.declared.aerodrome.Variation.{Variation}
use Rattle.record.specs.declared.aerodrome.Visibility.{Visibility}
use Rattle.record.specs.declared.aerodrome.Layer.{Layer}
use Rattle.record.specs.declared.aerodrome.Cover.{Cover}
use Rattle.record.specs.declared.aerodrome.Sky.{Sky}
use Rattle.record.specs.declared.aerodrome.Instant.{Instant}
use Rattle.record.specs.declared.aerodrome.Period.{Period}
use Rattle.record.specs.declared.aerodrome.Runway.{Runway}
use Rattle.record.specs.declared.aerodrome.Temperatures.{Temperatures}
use Rattle.record.specs.declared.aerodrome.Qnh.{Qnh}
use Rattle.record.specs.declared.aerodrome.Times.{Times}
use Rattle.record.specs.declared.aerodrome.RunwayState.{RunwayState}
use Rattle.elements.specs.declared.kinds.Said.{Said}
use Rattle.elements.specs.declared.kinds.Said.TheVariants as said
use Rattle.elements.specs.Sky.{layer_shape, read_layer, read_alone, layer_agrees, alone_agrees}

-- a value as what its group says, or the group's refusal
abbrev pub as_said : {A : Type 0} → (A → Said) → Result A Refusal → Said
as_said says (Ok x) = says x
as_said says (Err f) = said.Refused f

abbrev pub as_wind : Result Wind Refusal → Said
as_wind = as_said said.Wind

abbrev pub as_variation : Result Variation Refusal → Said
as_variation = as_said said.Variation

abbrev pub as_visibility : Result Visibility Refusal → Said
as_visibility = as_said said.Visibility

abbrev pub as_instant : Result Instant Refusal → Said
as_instant = as_said said.Time

abbrev pub as_period : Result Period Refusal → Said
as_period = as_said said.Period

abbrev pub as_runway : Result Runway Refusal → Said
as_runway = as_said said.Runway

abbrev pub as_temperatures : Result Temperatures Refusal → Said
as_temperatures = as_said said.Temperatures

abbrev pub as_qnh : Result Qnh Refusal → Said
as_qnh = as_said said.Qnh

abbrev pub as_times : Result Times Refusal → Said
as_times = as_said said.Times

abbrev pub as_state : Result RunwayState Refusal → Said
as_state = as_said said.State

-- ---- clouds: a layer, or what stands alone, where it agrees with what stands already

abbrev pub unless_wrong : Bool → Said → Said
unless_wrong agrees x = cond agrees x (said.Refused refusal.Disagreement)

abbrev pub layer_said : Bool → ℕ → Sky → Result Layer Refusal → Said
layer_said cavok k s (Ok l) = unless_wrong (layer_agrees cavok k s l) (said.Layer l)
layer_said cavok k s (Err f) = said.Refused f

abbrev pub alone_said : Bool → ℕ → Result Cover Refusal → Said
alone_said cavok k (Ok c) = unless_wrong (alone_agrees cavok k) (said.Cover c)
alone_said cavok k (Err f) = said.Refused f

unfoldable pub sky_said : Bool → Bool → ℕ → Group → Sky → Said
sky_said forecast cavok k g s = cond (has_shape layer_shape g) (layer_said cavok k s (read_layer forecast g)) (alone_said cavok k (read_alone forecast g))
