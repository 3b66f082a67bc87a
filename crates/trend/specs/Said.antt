-- What a group of a trend's change says, put into the change.
-- Assumes nothing: these are definitions.
use Rattle.std.specs.Prelude.{ℕ, ◌≡◌, Bool}
use Rattle.places.specs.Engine.{Group}
use Rattle.record.specs.declared.aerodrome.Times.{Times}
use Rattle.record.specs.declared.aerodrome.Body.{Body}
use Rattle.record.specs.declared.aerodrome.TrendChange.{TrendChange}
use Rattle.record.specs.Trend.{set_times, set_body}
use Rattle.elements.specs.declared.kinds.Said.{Said}
use Rattle.elements.specs.declared.kinds.Said.TheVariants as said
use Rattle.body.specs.Said.{put_said, SaysAt}
use Rattle.trend_row.specs.Row.{row}

-- the change with what is said of the body
abbrev pub onto_body : ℕ → Said → TrendChange → TrendChange
onto_body k x c = set_body (put_said k x c.body) c

-- The change with what the group says, where k groups stand at its place.
unfoldable pub change_said : ℕ → Group → Said → TrendChange → TrendChange
change_said k g (said.Times x) c = set_times x c
change_said k g (said.Special x) c = onto_body k (said.Special x) c
change_said k g said.Corrected c = onto_body k said.Corrected c
change_said k g (said.Correction x) c = onto_body k (said.Correction x) c
change_said k g said.Station c = onto_body k said.Station c
change_said k g (said.Time x) c = onto_body k (said.Time x) c
change_said k g said.Nil c = onto_body k said.Nil c
change_said k g said.Automatic c = onto_body k said.Automatic c
change_said k g (said.Period x) c = onto_body k (said.Period x) c
change_said k g said.Cancelled c = onto_body k said.Cancelled c
change_said k g (said.Wind x) c = onto_body k (said.Wind x) c
change_said k g (said.Variation x) c = onto_body k (said.Variation x) c
change_said k g (said.Visibility x) c = onto_body k (said.Visibility x) c
change_said k g (said.Runway x) c = onto_body k (said.Runway x) c
change_said k g (said.Weather x) c = onto_body k (said.Weather x) c
change_said k g said.Nsw c = onto_body k said.Nsw c
change_said k g (said.Layer x) c = onto_body k (said.Layer x) c
change_said k g (said.Cover x) c = onto_body k (said.Cover x) c
change_said k g (said.Temperatures x) c = onto_body k (said.Temperatures x) c
change_said k g (said.Qnh x) c = onto_body k (said.Qnh x) c
change_said k g (said.Recent x) c = onto_body k (said.Recent x) c
change_said k g said.Nothing c = onto_body k said.Nothing c
change_said k g (said.Refused f) c = onto_body k (said.Refused f) c
change_said k g (said.State x) c = onto_body k (said.State x) c
change_said k g said.Snoclo c = onto_body k said.Snoclo c

-- A group at place i says this: put into any change with these times and this body it is what the place reads.
abbrev pub Says : Bool → ℕ → ℕ → Group → Times → Body → Said → Type 0
Says free i k g t b x = SaysAt (row free) change_said (λ c. (c.times ≡ t) × (c.body ≡ b)) i k g x
