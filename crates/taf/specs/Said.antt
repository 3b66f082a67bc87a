-- What a group of a TAF's part says, put into the part.
-- Assumes nothing: these are definitions.
use Rattle.std.specs.Prelude.{ℕ, ◌≡◌, true}
use Rattle.places.specs.Engine.{Group}
use Rattle.record.specs.declared.aerodrome.Body.{Body}
use Rattle.record.specs.declared.aerodrome.Leg.{Leg}
use Rattle.record.specs.declared.aerodrome.Edition.{Edition}
use Rattle.record.specs.Taf.{set_correction, set_station, set_time, set_nil, set_period, set_cancelled, set_body}
use Rattle.elements.specs.declared.kinds.Said.{Said}
use Rattle.elements.specs.declared.kinds.Said.TheVariants as said
use Rattle.aerodrome_groups.specs.Head.{station_of}
use Rattle.body.specs.Said.{put_said, SaysAt}
use Rattle.taf_row.specs.declared.kinds.Part.{Part}
use Rattle.taf_row.specs.Row.{row}

-- the part with what is said of the body
abbrev pub onto_body : ℕ → Said → Leg → Leg
onto_body k x r = set_body (put_said k x r.body) r

-- The part with what the group g says, where k groups stand at its place.
unfoldable pub part_said : ℕ → Group → Said → Leg → Leg
part_said k g (said.Correction x) r = set_correction x r
part_said k g said.Station r = set_station (station_of g) r
part_said k g (said.Time x) r = set_time x r
part_said k g said.Nil r = set_nil true r
part_said k g (said.Period x) r = set_period x r
part_said k g said.Cancelled r = set_cancelled true r
part_said k g (said.Special x) r = onto_body k (said.Special x) r
part_said k g said.Corrected r = onto_body k said.Corrected r
part_said k g said.Automatic r = onto_body k said.Automatic r
part_said k g (said.Wind x) r = onto_body k (said.Wind x) r
part_said k g (said.Variation x) r = onto_body k (said.Variation x) r
part_said k g (said.Visibility x) r = onto_body k (said.Visibility x) r
part_said k g (said.Runway x) r = onto_body k (said.Runway x) r
part_said k g (said.Weather x) r = onto_body k (said.Weather x) r
part_said k g said.Nsw r = onto_body k said.Nsw r
part_said k g (said.Layer x) r = onto_body k (said.Layer x) r
part_said k g (said.Cover x) r = onto_body k (said.Cover x) r
part_said k g (said.Temperatures x) r = onto_body k (said.Temperatures x) r
part_said k g (said.Qnh x) r = onto_body k (said.Qnh x) r
part_said k g (said.Recent x) r = onto_body k (said.Recent x) r
part_said k g said.Nothing r = onto_body k said.Nothing r
part_said k g (said.Refused f) r = onto_body k (said.Refused f) r
part_said k g (said.Times x) r = onto_body k (said.Times x) r
part_said k g (said.State x) r = onto_body k (said.State x) r
part_said k g said.Snoclo r = onto_body k said.Snoclo r

-- A group at place i of a part's row says this: put into any part with this body it is what the place reads.
abbrev pub Says : Edition → Part → ℕ → ℕ → Group → Body → Said → Type 0
Says e w i k g b x = SaysAt (row e w) part_said (λ r. r.body ≡ b) i k g x
