-- What a group of a METAR or SPECI says, put into the record.
-- Assumes nothing: these are definitions.
use Rattle.std.specs.Prelude.{ℕ, ◌≡◌, Bool, true}
use Rattle.places.specs.Engine.{Group}
use Rattle.record.specs.declared.aerodrome.Body.{Body}
use Rattle.record.specs.declared.aerodrome.Observation.{Observation}
use Rattle.record.specs.Observation.{set_special, set_corrected, set_station, set_time, set_nil, set_automatic, set_body, set_variation, set_runways, set_temperatures, set_qnh, set_recents, set_states}
use Rattle.elements.specs.declared.kinds.Said.{Said}
use Rattle.elements.specs.declared.kinds.Said.TheVariants as said
use Rattle.elements.specs.Weather.{with_weather}
use Rattle.aerodrome_groups.specs.Head.{station_of}
use Rattle.aerodrome_groups.specs.Runway.{with_runway}
use Rattle.runway_states.specs.State.{with_state, with_snoclo}
use Rattle.body.specs.Said.{put_said, SaysAt}
use Rattle.metar_row.specs.Row.{row}

-- the record with what is said of the body
abbrev pub onto_body : ℕ → Said → Observation → Observation
onto_body k x r = set_body (put_said k x r.body) r

-- The record with what the group g says, where k groups stand at its place.
unfoldable pub report_said : ℕ → Group → Said → Observation → Observation
report_said k g (said.Special x) r = set_special x r
report_said k g said.Corrected r = set_corrected true r
report_said k g said.Station r = set_station (station_of g) r
report_said k g (said.Time x) r = set_time x r
report_said k g said.Nil r = set_nil true r
report_said k g said.Automatic r = set_automatic true r
report_said k g (said.Variation x) r = set_variation x r
report_said k g (said.Runway x) r = set_runways (with_runway k r.runways x) r
report_said k g (said.Temperatures x) r = set_temperatures x r
report_said k g (said.Qnh x) r = set_qnh x r
report_said k g (said.Recent x) r = set_recents (with_weather k r.recents x) r
report_said k g (said.State x) r = set_states (with_state k r.states x) r
report_said k g said.Snoclo r = set_states (with_snoclo true r.states) r
report_said k g (said.Correction x) r = onto_body k (said.Correction x) r
report_said k g (said.Period x) r = onto_body k (said.Period x) r
report_said k g said.Cancelled r = onto_body k said.Cancelled r
report_said k g (said.Wind x) r = onto_body k (said.Wind x) r
report_said k g (said.Visibility x) r = onto_body k (said.Visibility x) r
report_said k g (said.Weather x) r = onto_body k (said.Weather x) r
report_said k g said.Nsw r = onto_body k said.Nsw r
report_said k g (said.Layer x) r = onto_body k (said.Layer x) r
report_said k g (said.Cover x) r = onto_body k (said.Cover x) r
report_said k g said.Nothing r = onto_body k said.Nothing r
report_said k g (said.Refused f) r = onto_body k (said.Refused f) r
report_said k g (said.Times x) r = onto_body k (said.Times x) r

-- What of a record a reading depends on: AUTO or not, the body, and how many runway states stand.
abbrev pub DependsOn : Bool → Body → ℕ → Observation → Type 0
DependsOn automatic b states r = (r.automatic ≡ automatic) × (r.body ≡ b) × (r.states.count ≡ states)

-- A group at place i says this: put into any such record, it is what the place reads.
abbrev pub Says : ℕ → ℕ → Group → Bool → Body → ℕ → Said → Type 0
Says i k g automatic b states x = SaysAt row report_said (DependsOn automatic b states) i k g x
