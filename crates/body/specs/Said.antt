-- What a group of the body says, put into the body.
-- Assumes nothing: these are definitions.
use Rattle.std.specs.Prelude.{ℕ, ◌≡◌, Bool, true, false, cond, List, Err, Ok, Result}
use Rattle.text.specs.declared.kinds.Refusal.{Refusal}
use Rattle.text.specs.declared.kinds.Refusal.TheVariants as refusal
use Rattle.places.specs.Engine.{Group, Place, place_at}
use Rattle.record.specs.declared.aerodrome.Weather.{Weather}
use Rattle.record.specs.declared.aerodrome.Body.{Body}
use Rattle.record.specs.Body.{set_wind, set_visibility, set_weathers, set_nsw, set_sky}
use Rattle.elements.specs.declared.kinds.Said.{Said}
use Rattle.elements.specs.declared.kinds.Said.TheVariants as said
use Rattle.elements.specs.Weather.{with_weather}
use Rattle.elements.specs.Sky.{add_layer}
use Rattle.elements.specs.Body.{body_row}

-- a record with what a group says, or the group's refusal
abbrev pub unless_refused : {R : Type 0} → Said → R → Result R Refusal
unless_refused (said.Special x) r = Ok r
unless_refused said.Corrected r = Ok r
unless_refused (said.Correction x) r = Ok r
unless_refused said.Station r = Ok r
unless_refused (said.Time x) r = Ok r
unless_refused said.Nil r = Ok r
unless_refused said.Automatic r = Ok r
unless_refused (said.Period x) r = Ok r
unless_refused said.Cancelled r = Ok r
unless_refused (said.Wind x) r = Ok r
unless_refused (said.Variation x) r = Ok r
unless_refused (said.Visibility x) r = Ok r
unless_refused (said.Runway x) r = Ok r
unless_refused (said.Weather x) r = Ok r
unless_refused said.Nsw r = Ok r
unless_refused (said.Layer x) r = Ok r
unless_refused (said.Cover x) r = Ok r
unless_refused (said.Temperatures x) r = Ok r
unless_refused (said.Qnh x) r = Ok r
unless_refused (said.Recent x) r = Ok r
unless_refused said.Nothing r = Ok r
unless_refused (said.Refused f) r = Err f
unless_refused (said.Times x) r = Ok r
unless_refused (said.State x) r = Ok r
unless_refused said.Snoclo r = Ok r

-- The body with what a group says, where k groups stand at its place. What is no part of the body changes nothing of it, nor does a refusal.
unfoldable pub put_said : ℕ → Said → Body → Body
put_said k (said.Wind x) b = set_wind x b
put_said k (said.Visibility x) b = set_visibility x b
put_said k (said.Weather x) b = set_weathers (with_weather k b.weathers x) b
put_said k said.Nsw b = set_nsw true b
put_said k (said.Layer x) b = set_sky (add_layer k b.sky x) b
put_said k (said.Cover x) b = set_sky (record { cover = x; layers = b.sky.layers; count = 0 }) b
put_said k (said.Special x) b = b
put_said k said.Corrected b = b
put_said k (said.Correction x) b = b
put_said k said.Station b = b
put_said k (said.Time x) b = b
put_said k said.Nil b = b
put_said k said.Automatic b = b
put_said k (said.Period x) b = b
put_said k said.Cancelled b = b
put_said k (said.Variation x) b = b
put_said k (said.Runway x) b = b
put_said k (said.Temperatures x) b = b
put_said k (said.Qnh x) b = b
put_said k (said.Recent x) b = b
put_said k said.Nothing b = b
put_said k (said.Refused f) b = b
put_said k (said.Times x) b = b
put_said k (said.State x) b = b
put_said k said.Snoclo b = b

abbrev pub with_said : ℕ → Said → Body → Result Body Refusal
with_said k x b = unless_refused x (put_said k x b)

-- weather, beside nothing that stands for it
abbrev pub weather_said : Bool → Result Weather Refusal → Said
weather_said beside (Ok w) = cond beside (said.Refused refusal.Disagreement) (said.Weather w)
weather_said beside (Err f) = said.Refused f

-- something of the body, or a refusal
abbrev pub is_of_body : Said → Bool
is_of_body (said.Special x) = false
is_of_body said.Corrected = false
is_of_body (said.Correction x) = false
is_of_body said.Station = false
is_of_body (said.Time x) = false
is_of_body said.Nil = false
is_of_body said.Automatic = false
is_of_body (said.Period x) = false
is_of_body said.Cancelled = false
is_of_body (said.Wind x) = true
is_of_body (said.Variation x) = false
is_of_body (said.Visibility x) = true
is_of_body (said.Runway x) = false
is_of_body (said.Weather x) = true
is_of_body said.Nsw = true
is_of_body (said.Layer x) = true
is_of_body (said.Cover x) = true
is_of_body (said.Temperatures x) = false
is_of_body (said.Qnh x) = false
is_of_body (said.Recent x) = false
is_of_body said.Nothing = false
is_of_body (said.Refused f) = true
is_of_body (said.Times x) = false
is_of_body (said.State x) = false
is_of_body said.Snoclo = false

-- A group at place i of the body's row, where k groups stand, says this. Whether wind and visibility must stand and whether anything is written have no
-- part in reading.
pub record Says (forecast may automatic : Bool) (i k : ℕ) (g : Group) (b : Body) (x : Said) : Type 0 where
  pub own : is_of_body x ≡ true
  pub puts : (required silent : Bool)
      → with_said k x b ≡ (place_at (body_row (record { forecast = forecast; required = required; may_nsw = may; automatic = automatic; silent = silent })) i).read k g b

-- A group at place i of any row says this: put into any record of which this much is seen, it is what the place reads.
abbrev pub SaysAt : {R : Type 0} → List (Place R) → (ℕ → Group → Said → R → R) → (R → Type 0) → ℕ → ℕ → Group → Said → Type 0
SaysAt {R} row put seen i k g x = (r : R) → seen r → unless_refused x (put k g x r) ≡ (place_at row i).read k g r
