-- METAR and SPECI as a row of places: "METAR or SPECI, [COR], CCCC, YYGGggZ, then NIL (end) or [AUTO], wind, [dddVddd], visibility, up to 4 runway
-- ranges, 3 weather groups, 4 cloud groups, T/Td, Q, up to 3 RE groups. Parts in brackets or "up to" a number may be absent; the others are required."
-- Runway states stand "after RE and before the trend".
-- Assumes nothing: these are definitions.
use Rattle.std.specs.Prelude.{ℕ, Bool, true, false, ◌||◌, cond, List, [], ◌∷◌, Ok, Result}
use Rattle.text.specs.declared.kinds.Refusal.{Refusal}
use Rattle.figures.specs.Quote.{bytes}
use Rattle.shapes.specs.Pattern.{Pattern, has_pattern, has_any}
use Rattle.shapes.specs.Shape.{has_shape, parts_of, spellings}
use Rattle.places.specs.Seek.{anywhere}
use Rattle.places.specs.Engine.{Group, Place, stands_of}
use Rattle.places.specs.Lift.{lift, lift_in, shut}
use Rattle.record.specs.declared.aerodrome.Body.{Body}
use Rattle.record.specs.declared.aerodrome.Observation.{Observation}
use Rattle.record.specs.Observation.{set_special, set_corrected, set_station, set_time, set_nil, set_automatic, set_body, set_variation, set_runways, set_temperatures, set_qnh, set_recents, set_states, blank_observation}
use Rattle.elements.specs.Parts.{then}
use Rattle.elements.specs.Wind.{variation_shape, read_variation, show_variation, class_variation}
use Rattle.elements.specs.Weather.{has_recent, read_recent, with_weather, show_recents}
use Rattle.elements.specs.Body.{Terms, wind_place, visibility_place, weather_place, sky_place}
use Rattle.aerodrome_groups.specs.Head.{word_place, station_place, time_place}
use Rattle.aerodrome_groups.specs.Runway.{runway_shape, read_runway, with_runway, show_runways, class_runways}
use Rattle.runway_states.specs.State.{states_place, snoclo_place, beside_place}
use Rattle.aerodrome_groups.specs.Temperatures.{temperatures_shape, qnh_shape, read_temperatures, read_qnh, show_temperatures, show_qnh, class_temperatures, class_qnh}

-- a place: its shape and the patterns that cover it, how many may or must stand there; how a group is read, how it is written and what it is read back as
abbrev pub place_for : (Group → Bool) → List Pattern → ℕ → Bool → (ℕ → Group → Observation → Result Observation Refusal) → (Observation → List Group) → (Observation → Observation → Observation) → Place Observation
place_for has cover most must read show put =
    record { has = has; cover = cover; spoken = cover; most = most; must = must; ends = false; read = read; show = show; put = put }

abbrev pub onto : {A : Type 0} → Result A Refusal → (A → Observation → Observation) → Observation → Result Observation Refusal
onto x f r = then x (λ a. Ok (f a r))

-- ---- the head

abbrev pub is_name : Group → Bool
is_name g = has_pattern g (bytes "METAR") || has_pattern g (bytes "SPECI")

-- ---- the body of an observation: wind and visibility are required, missing forms stand, NSW is 7, UP stands under AUTO, and wind and visibility are
-- written unless the report is NIL

abbrev pub observed : Observation → Terms
observed r = record { forecast = false; required = true; may_nsw = false; automatic = r.automatic; silent = r.nil }

abbrev pub of_body : (Terms → Place Body) → Place Observation
of_body p = lift_in (λ (r : Observation). r.body) set_body observed (observed blank_observation) p

-- ---- the times of a trend, FM, TL and AT with GGgg: "in METAR or SPECI outside a trend" they are 6

abbrev pub from_shape : Pattern
from_shape = bytes "FM####"

abbrev pub until_shape : Pattern
until_shape = bytes "TL####"

abbrev pub at_shape : Pattern
at_shape = bytes "AT####"

abbrev pub time_shapes : List Pattern
time_shapes = from_shape ∷ until_shape ∷ at_shape ∷ []

-- ---- writing

-- what stands after NIL is not written
abbrev pub unless_nil : Observation → List Group → List Group
unless_nil r gs = cond r.nil [] gs

-- ---- the row

unfoldable pub row : List (Place Observation)
row =
    place_for is_name (bytes "METAR" ∷ bytes "SPECI" ∷ []) 1 true (λ k g r. Ok (set_special (has_pattern g (bytes "SPECI")) r))
    (λ r. cond r.special (bytes "SPECI") (bytes "METAR") ∷ []) (λ r acc. set_special r.special acc)
    ∷ lift (λ (r : Observation). r.corrected) set_corrected (word_place "COR" false)
    ∷ lift (λ (r : Observation). r.station) set_station station_place
    ∷ lift (λ (r : Observation). r.time) set_time time_place
    ∷ lift (λ (r : Observation). r.nil) set_nil (word_place "NIL" true)
    ∷ lift (λ (r : Observation). r.automatic) set_automatic (word_place "AUTO" false)
    ∷ of_body wind_place
    ∷ place_for (λ g. has_pattern g variation_shape) (variation_shape ∷ []) 1 false (λ k g r. onto (read_variation g) set_variation r)
    (λ r. show_variation r.variation) (λ r acc. set_variation (class_variation r.variation) acc)
    ∷ of_body visibility_place
    ∷ place_for (has_shape runway_shape) (spellings (parts_of runway_shape)) 4 false (λ k g r. onto (read_runway g) (λ x r. set_runways (with_runway k r.runways x) r) r)
    (λ r. show_runways r.runways) (λ r acc. set_runways (class_runways r.runways) acc)
    ∷ of_body weather_place
    ∷ of_body sky_place
    ∷ place_for (has_shape temperatures_shape) (spellings (parts_of temperatures_shape)) 1 true (λ k g r. onto (read_temperatures g) set_temperatures r)
    (λ r. unless_nil r (show_temperatures r.temperatures ∷ [])) (λ r acc. set_temperatures (class_temperatures r.temperatures) acc)
    ∷ place_for (λ g. has_pattern g qnh_shape) (qnh_shape ∷ []) 1 true (λ k g r. onto (read_qnh g) set_qnh r)
    (λ r. unless_nil r (show_qnh r.qnh ∷ [])) (λ r acc. set_qnh (class_qnh r.qnh) acc)
    ∷ place_for has_recent (bytes "RE*" ∷ []) 3 false
    (λ k g r. onto (read_recent r.automatic g) (λ w r. set_recents (with_weather k r.recents w) r) r)
    (λ r. show_recents r.recents) (λ r acc. set_recents r.recents acc)
    ∷ lift (λ (r : Observation). r.states) set_states states_place
    ∷ lift (λ (r : Observation). r.states) set_states snoclo_place
    ∷ lift (λ (r : Observation). r.states) set_states beside_place
    ∷ shut (has_any time_shapes) time_shapes
    ∷ []

-- a group of the observation has this shape
unfoldable pub is_known : Group → Bool
is_known g = anywhere (stands_of row g)

-- "NOSIG, BECMG and TEMPO no longer stop the reading; WS and RMK still do." All five end the observation, and each change of a trend.
abbrev pub stop_words : List Pattern
stop_words = bytes "WS" ∷ bytes "RMK" ∷ []

unfoldable pub words : List Pattern
words = bytes "NOSIG" ∷ bytes "BECMG" ∷ bytes "TEMPO" ∷ stop_words
