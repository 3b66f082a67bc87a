-- The observation of a METAR or SPECI with one part set, and the blank one.
-- Assumes nothing: these are definitions.
use Rattle.std.specs.Prelude.{Bool, true, false, replicate, None}
use Rattle.record.specs.declared.aerodrome.Instant.{Instant}
use Rattle.record.specs.declared.aerodrome.Qnh.{Qnh}
use Rattle.record.specs.declared.aerodrome.Runway.{Runway}
use Rattle.record.specs.declared.aerodrome.Runways.{Runways}
use Rattle.record.specs.declared.aerodrome.RunwayState.{RunwayState}
use Rattle.record.specs.declared.aerodrome.RunwayStates.{RunwayStates}
use Rattle.record.specs.declared.aerodrome.Station.{Station}
use Rattle.record.specs.declared.aerodrome.Temperatures.{Temperatures}
use Rattle.record.specs.declared.aerodrome.Variation.{Variation}
use Rattle.record.specs.declared.aerodrome.Weathers.{Weathers}
use Rattle.record.specs.declared.aerodrome.Body.{Body}
use Rattle.record.specs.declared.aerodrome.Observation.{Observation}
use Rattle.record.specs.declared.aerodrome.Side.TheVariants as side
use Rattle.record.specs.declared.aerodrome.Course.TheVariants as course
use Rattle.record.specs.declared.aerodrome.Depth.TheVariants as depth
use Rattle.record.specs.declared.aerodrome.Condition.TheVariants as condition
use Rattle.record.specs.Body.{blank_weathers, blank_body}

abbrev pub set_special : Bool → Observation → Observation
set_special x r = record { special = x; corrected = r.corrected; station = r.station; time = r.time; nil = r.nil; automatic = r.automatic; body = r.body; variation = r.variation; runways = r.runways; temperatures = r.temperatures; qnh = r.qnh; recents = r.recents; states = r.states }

abbrev pub set_corrected : Bool → Observation → Observation
set_corrected x r = record { special = r.special; corrected = x; station = r.station; time = r.time; nil = r.nil; automatic = r.automatic; body = r.body; variation = r.variation; runways = r.runways; temperatures = r.temperatures; qnh = r.qnh; recents = r.recents; states = r.states }

abbrev pub set_station : Station → Observation → Observation
set_station x r = record { special = r.special; corrected = r.corrected; station = x; time = r.time; nil = r.nil; automatic = r.automatic; body = r.body; variation = r.variation; runways = r.runways; temperatures = r.temperatures; qnh = r.qnh; recents = r.recents; states = r.states }

abbrev pub set_time : Instant → Observation → Observation
set_time x r = record { special = r.special; corrected = r.corrected; station = r.station; time = x; nil = r.nil; automatic = r.automatic; body = r.body; variation = r.variation; runways = r.runways; temperatures = r.temperatures; qnh = r.qnh; recents = r.recents; states = r.states }

abbrev pub set_nil : Bool → Observation → Observation
set_nil x r = record { special = r.special; corrected = r.corrected; station = r.station; time = r.time; nil = x; automatic = r.automatic; body = r.body; variation = r.variation; runways = r.runways; temperatures = r.temperatures; qnh = r.qnh; recents = r.recents; states = r.states }

abbrev pub set_automatic : Bool → Observation → Observation
set_automatic x r = record { special = r.special; corrected = r.corrected; station = r.station; time = r.time; nil = r.nil; automatic = x; body = r.body; variation = r.variation; runways = r.runways; temperatures = r.temperatures; qnh = r.qnh; recents = r.recents; states = r.states }

abbrev pub set_body : Body → Observation → Observation
set_body x r = record { special = r.special; corrected = r.corrected; station = r.station; time = r.time; nil = r.nil; automatic = r.automatic; body = x; variation = r.variation; runways = r.runways; temperatures = r.temperatures; qnh = r.qnh; recents = r.recents; states = r.states }

abbrev pub set_variation : Variation → Observation → Observation
set_variation x r = record { special = r.special; corrected = r.corrected; station = r.station; time = r.time; nil = r.nil; automatic = r.automatic; body = r.body; variation = x; runways = r.runways; temperatures = r.temperatures; qnh = r.qnh; recents = r.recents; states = r.states }

abbrev pub set_runways : Runways → Observation → Observation
set_runways x r = record { special = r.special; corrected = r.corrected; station = r.station; time = r.time; nil = r.nil; automatic = r.automatic; body = r.body; variation = r.variation; runways = x; temperatures = r.temperatures; qnh = r.qnh; recents = r.recents; states = r.states }

abbrev pub set_temperatures : Temperatures → Observation → Observation
set_temperatures x r = record { special = r.special; corrected = r.corrected; station = r.station; time = r.time; nil = r.nil; automatic = r.automatic; body = r.body; variation = r.variation; runways = r.runways; temperatures = x; qnh = r.qnh; recents = r.recents; states = r.states }

abbrev pub set_qnh : Qnh → Observation → Observation
set_qnh x r = record { special = r.special; corrected = r.corrected; station = r.station; time = r.time; nil = r.nil; automatic = r.automatic; body = r.body; variation = r.variation; runways = r.runways; temperatures = r.temperatures; qnh = x; recents = r.recents; states = r.states }

abbrev pub set_recents : Weathers → Observation → Observation
set_recents x r = record { special = r.special; corrected = r.corrected; station = r.station; time = r.time; nil = r.nil; automatic = r.automatic; body = r.body; variation = r.variation; runways = r.runways; temperatures = r.temperatures; qnh = r.qnh; recents = x; states = r.states }

abbrev pub set_states : RunwayStates → Observation → Observation
set_states x r = record { special = r.special; corrected = r.corrected; station = r.station; time = r.time; nil = r.nil; automatic = r.automatic; body = r.body; variation = r.variation; runways = r.runways; temperatures = r.temperatures; qnh = r.qnh; recents = r.recents; states = x }

abbrev pub blank_runway : Runway
blank_runway = record { number = None; side = side.None; range = None; course = course.None }

abbrev pub blank_runways : Runways
blank_runways = record { items = replicate 4 blank_runway; count = 0 }

abbrev pub blank_state : RunwayState
blank_state = record { runway = None; condition = condition.Covered None None depth.Missing None }

abbrev pub blank_states : RunwayStates
blank_states = record { items = replicate 4 blank_state; count = 0; snoclo = false }

abbrev pub blank_observation : Observation
blank_observation =
    record {
      special = false;
      corrected = false;
      station = record { letters = replicate 4 0 };
      time = record { day = None; hour = None; minute = None };
      nil = false;
      automatic = false;
      body = blank_body;
      variation = record { is = None };
      runways = blank_runways;
      temperatures = record { air = None; dew = None };
      qnh = record { is = None };
      recents = blank_weathers;
      states = blank_states;
    }
