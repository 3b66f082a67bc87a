-- Reading a SYNOP or SHIP: "In SYNOP and SHIP the groups through Nddff are known by position alone (another shape: 4)"; the others are read against
-- the row of section 1.
-- Assumes nothing: these are definitions.
use Rattle.std.specs.Prelude.{ℕ, Bool, true, false, cond, ◌&&◌, ◌||◌, List, [], ◌∷◌, ◌++◌, length, take, replicate, leb, Err, None, Ok, Option, Result, Some}
use Rattle.text.specs.declared.kinds.Refusal.{Refusal}
use Rattle.figures.specs.Quote.{bytes}
use Rattle.figures.specs.Figures.{is_figure, is_letter, every}
use Rattle.text.specs.declared.kinds.Refusal.TheVariants as refusal
use Rattle.text.specs.Groups.{Piece}
use Rattle.shapes.specs.Pattern.{has_pattern}
use Rattle.places.specs.Engine.{Group, Outcome, Done, Fault}
use Rattle.record.specs.declared.surface.CallSign.{CallSign}
use Rattle.record.specs.declared.surface.Site.{Site}
use Rattle.record.specs.declared.surface.Surface.{Surface}
use Rattle.record.specs.declared.surface.Synop.{Synop}
use Rattle.record.specs.Set.{set_station, set_sign, set_position, set_time, set_nil, set_site, set_surface, set_indicators, set_wind}
use Rattle.synop_groups.specs.declared.kinds.Said.{Said}
use Rattle.synop_groups.specs.declared.kinds.Said.TheVariants as said
use Rattle.synop_groups.specs.Reads.{said_time, said_station, said_latitude, said_longitude, said_indicators, said_wind}
use Rattle.synop_groups.specs.Shows.{show_time, show_station, show_sign, show_latitude, show_longitude, show_indicators, show_wind}
use Rattle.synop_groups.specs.Classes.{class_indicators, unsigned_position, wind_in_two}
use Rattle.synop_row.specs.Row.{with_said}
use Rattle.synop_section.specs.Answer.{begun, section}

-- ---- the groups through Nddff

-- A group known by its position alone: its shape, whether NIL may stand instead, what it says; how it is written and what it is read back as.
pub record Post : Type 0 where
  pub has : Group → Bool
  pub nil : Bool
  pub read : Group → Synop → Result Synop Refusal
  pub show : Synop → Group
  pub put : Synop → Synop → Synop

abbrev pub onto_surface : Synop → Result Surface Refusal → Result Synop Refusal
onto_surface r (Ok s) = Ok (set_surface s r)
onto_surface r (Err f) = Err f

-- the site with what a group says of it
abbrev pub site_onto : Said → Site → Site
site_onto (said.Refused f) s = s
site_onto (said.Time t) s = set_time t s
site_onto (said.Station n) s = set_station (Some n) s
site_onto (said.Position p) s = set_position p s
site_onto (said.Indicators i) s = s
site_onto (said.Wind w) s = s
site_onto (said.Speed n) s = s
site_onto (said.Air a) s = s
site_onto (said.Moisture m) s = s
site_onto (said.Pressure p) s = s
site_onto (said.Level l) s = s
site_onto (said.Tendency t) s = s
site_onto (said.Rainfall x) s = s
site_onto (said.Weather w) s = s
site_onto (said.Clouds c) s = s
site_onto (said.Clock c) s = s
site_onto (said.Layer l) s = s

-- the report with what a group says, or the group's refusal; what it says of the surface is added as in section 1
unfoldable pub with_head : Said → Synop → Result Synop Refusal
with_head x r = onto_surface (set_site (site_onto x r.site) r) (with_said x r.surface)

abbrev pub five : Group → Bool
five g = has_pattern g (bytes "#####")

abbrev pub time_post : Post
time_post =
    record { has = five; nil = false; read = λ g r. with_head (said_time g) r; show = λ r. show_time r.site.time; put = λ r acc. set_site (set_time r.site.time acc.site) acc }

abbrev pub station_post : Post
station_post =
    record { has = five; nil = false; read = λ g r. with_head (said_station g) r; show = λ r. show_station r.site.station; put = λ r acc. set_site (set_station r.site.station acc.site) acc }

-- "a call sign of 3 to 9 letters and figures"
abbrev pub is_call_sign : Group → Bool
is_call_sign g = leb 3 (length g) && leb (length g) 9 && every (λ b. is_letter b || is_figure b) g

unfoldable pub sign_of : Group → CallSign
sign_of g = record { letters = take 9 (g ++ replicate 9 0); length = length g }

abbrev pub sign_post : Post
sign_post =
    record { has = is_call_sign; nil = false; read = λ g r. Ok (set_site (set_sign (sign_of g) r.site) r); show = λ r. show_sign r.site.sign; put = λ r acc. set_site (set_sign r.site.sign acc.site) acc }

abbrev pub latitude_post : Post
latitude_post =
    record { has = λ g. has_pattern g (bytes "99###"); nil = false; read = λ g r. with_head (said_latitude g) r; show = λ r. show_latitude r.site.position; put = λ r acc. set_site (set_position (unsigned_position r.site.position) acc.site) acc }

abbrev pub longitude_post : Post
longitude_post =
    record { has = five; nil = false; read = λ g r. with_head (said_longitude r.site.position g) r; show = λ r. show_longitude r.site.position; put = λ r acc. set_site (set_position r.site.position acc.site) acc }

-- "NIL after IIiii ends a land report."
abbrev pub indicators_post : Bool → Post
indicators_post land =
    record { has = five; nil = land; read = λ g r. with_head (said_indicators g) r; show = λ r. show_indicators r.surface.indicators; put = λ r acc. set_surface (set_indicators (class_indicators r.surface.indicators) acc.surface) acc }

abbrev pub wind_post : Post
wind_post =
    record { has = five; nil = false; read = λ g r. with_head (said_wind g) r; show = λ r. show_wind r.surface.wind; put = λ r acc. set_surface (set_wind (wind_in_two r.surface.wind) acc.surface) acc }

-- "AAXX YYGGiw IIiii, or BBXX, a call sign .., YYGGiw, 99LaLaLa, QcLoLoLoLo", then iRixhVV and Nddff
unfoldable pub posts : Bool → List Post
posts false = time_post ∷ station_post ∷ indicators_post true ∷ wind_post ∷ []
posts true = sign_post ∷ time_post ∷ latitude_post ∷ longitude_post ∷ indicators_post false ∷ wind_post ∷ []

-- ---- the reading

abbrev pub is_nil : Group → Bool
is_nil g = has_pattern g (bytes "NIL")

-- the text ends before a required group: what follows the "=" is refused first
abbrev pub cut_short : Option ℕ → ℕ → Outcome Synop
cut_short (Some at) end = Fault refusal.Shape at
cut_short None end = Fault refusal.Absence end

-- after NIL: "a group .. after NIL" is 4
abbrev pub after_nil : Option ℕ → ℕ → Synop → List Piece → Outcome Synop
after_nil (Some at) end r [] = Fault refusal.Shape at
after_nil None end r [] = Done end (set_site (set_nil true r.site) r)
after_nil tail end r (g ∷ gs) = Fault refusal.Shape g.start

abbrev pub onward : Result Synop Refusal → ℕ → (Synop → Outcome Synop) → Outcome Synop
onward (Ok r) at k = k r
onward (Err f) at k = Fault f at

-- the groups known by position, one after the other, then section 1
unfoldable pub walk : List Post → Synop → Option ℕ → ℕ → List Piece → Outcome Synop
walk [] r tail end gs = section r tail end gs
walk (p ∷ ps) r tail end [] = cut_short tail end
walk (p ∷ ps) r tail end (g ∷ gs) =
    cond (p.nil && is_nil g.bytes) (after_nil tail end r gs)
    (cond (p.has g.bytes) (onward (p.read g.bytes r) g.start (λ r'. walk ps r' tail end gs)) (Fault refusal.Shape g.start))

-- WHAT THE GROUPS OF A REPORT COME TO, those behind AAXX or, of a ship, BBXX; what follows the "=", and the text's length.
unfoldable pub groups_read : Bool → Option ℕ → ℕ → List Piece → Outcome Synop
groups_read ship tail end gs = walk (posts ship) (begun ship) tail end gs
