-- Worked examples: from where some items of two TAFs were read, computed from the definitions alone.
-- Assumes nothing.
use Rattle.std.specs.Prelude.{None, Option, Some}
use Prim.Native.Nat.{ℕ}
use Prim.Native.String.{String}
use mathlib.Core.Path.{◌≡◌, refl}
use mathlib.Core.List.{List, [], ◌∷◌, map}
use Rattle.figures.specs.Quote.{bytes}
use Rattle.figures.specs.Figures as figures
use Rattle.text.specs.Bytes as quoted
use Rattle.text.specs.Groups as groups
use Rattle.text.specs.Text as text
use Rattle.shapes.specs.Pattern as pattern
use Rattle.shapes.specs.Shape as shape
use Rattle.places.specs.Seek as seek
use Rattle.places.specs.Turn as turn
use Rattle.record.specs.declared.aerodrome.Edition.{Edition}
use Rattle.record.specs.declared.aerodrome.Edition.TheVariants as edition
use Rattle.elements.specs.Weather as weather
use Rattle.taf_row.specs.Row as row
use Rattle.taf.specs.Read as read
use Rattle.sources.specs.declared.kinds.Spot.{Spot}
use Rattle.sources.specs.declared.kinds.Spot.TheVariants as spot
use Rattle.sources.specs.declared.kinds.Source.{Source}
use Rattle.sources.specs.Trail.{origin_in, source_of, source_at}
use Rattle.sources.specs.Trail as trails
use Rattle.sources.specs.Route as routes
use Rattle.taf_sources.specs.Trail.{trail_of}
use Rattle.taf_sources.specs.Trail as walk

-- a spot of a part, and the group that was taken there, from its first byte up to the one behind its last
pub record Example : Type 0 where
  pub part : ℕ
  pub spot : Spot
  pub source : Option Source

abbrev taken : ℕ → Spot → ℕ → ℕ → Example
taken part s start end = record { part = part; spot = s; source = Some (source_at start end) }

abbrev none : ℕ → Spot → Example
none part s = record { part = part; spot = s; source = None }

abbrev found : Edition → String → Example → Option Source
found e t x = source_of (origin_in x.part x.spot (trail_of e (bytes t)))

-- "TEMPO at once after PROB30" belongs to that word; under FM there is no group for a period
abbrev pub present : List Example
present =
    taken 0 (spot.At 0 0) 0 3
    ∷ taken 0 (spot.At 2 0) 4 8
    ∷ taken 0 (spot.At 5 0) 17 26
    ∷ taken 0 (spot.At 8 0) 27 34
    ∷ none 0 (spot.At 10 0)
    ∷ taken 1 spot.Opening 41 47
    ∷ taken 1 spot.Joined 48 53
    ∷ taken 1 (spot.At 6 0) 54 63
    ∷ taken 1 (spot.At 10 0) 69 71
    ∷ taken 2 spot.Opening 72 80
    ∷ none 2 spot.Joined
    ∷ none 2 (spot.At 6 0)
    ∷ taken 2 (spot.At 11 1) 101 107
    ∷ none 3 spot.Opening
    ∷ []

-- the same in the 2005 edition
abbrev pub of-2005 : List Example
of-2005 =
    taken 0 (spot.At 5 0) 17 23
    ∷ taken 1 spot.Opening 38 43
    ∷ none 1 spot.Joined
    ∷ taken 1 (spot.At 6 0) 44 48
    ∷ taken 1 (spot.At 9 0) 49 53
    ∷ taken 2 spot.Opening 54 60
    ∷ taken 2 (spot.At 8 0) 61 68
    ∷ []

abbrev Worked : Edition → String → List Example → Type 0
Worked e t xs = map (found e t) xs ≡ map (λ (x : Example). x.source) xs

pub worked : Worked edition.Present "TAF LEMD 011100Z 0112/0212 27010KT CAVOK PROB30 TEMPO 0114/0116 4000 RA FM012000 20005KT 9999 SCT020 BKN100=" present
    × Worked edition.Of2005 "TAF LEMD 011100Z 011262 27010KT CAVOK BECMG 1214 4000 FM2000 20005KT CAVOK=" of-2005
unfolding figures.figures figures.scan figures.field_at
    quoted.lead
    groups.groups_in groups.groups_from groups.past_parting
    text.equals_at
    pattern.low pattern.high pattern.fits pattern.has_pattern pattern.has_any
    shape.leading shape.split shape.parts_of shape.begins shape.value_of shape.pick_of shape.scan_parts shape.answered shape.scan_of shape.has_shape shape.spellings
    seek.seek seek.anywhere seek.find_of
    turn.turn_at
    weather.codes_of weather.are_codes weather.signed_codes weather.has_weather
    row.row row.change_words
    read.opened_by
    trails.trail trails.origin_in routes.move_on walk.word_move walk.trail_of
worked = (refl, refl)
