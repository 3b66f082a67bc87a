-- The groups known by position, a ship's call sign apart, as the code goes through them.
-- Assumes nothing: these are definitions.
use Rattle.std.specs.Prelude.{Bool, true, false, List, [], ◌∷◌}
use Rattle.places.specs.Engine.{Group}
use Rattle.record.specs.declared.surface.Position.{Position}
use Rattle.record.specs.declared.surface.Site.{Site}
use Rattle.record.specs.declared.surface.Section3.{Section3}
use Rattle.record.specs.declared.surface.Surface.{Surface}
use Rattle.record.specs.declared.surface.Synop.{Synop}
use Rattle.synop_groups.specs.declared.kinds.Said.{Said}
use Rattle.synop_groups.specs.Reads.{said_time, said_station, said_latitude, said_longitude, said_indicators, said_wind}
use Rattle.synop.specs.declared.kinds.Post.{Post as Name}
use Rattle.synop.specs.declared.kinds.Post.TheVariants as name
use Rattle.synop.specs.Read.{Post, time_post, station_post, latitude_post, longitude_post, indicators_post, wind_post}

-- the posts by their names, in order
abbrev pub named : Bool → List Name
named false = name.Time ∷ name.Station ∷ name.Indicators true ∷ name.Wind ∷ []
named true = name.Time ∷ name.Latitude ∷ name.Longitude ∷ name.Indicators false ∷ name.Wind ∷ []

abbrev pub post_of : Name → Post
post_of name.Time = time_post
post_of name.Station = station_post
post_of name.Latitude = latitude_post
post_of name.Longitude = longitude_post
post_of (name.Indicators land) = indicators_post land
post_of name.Wind = wind_post

-- what the group at a post says, after a position whose sign is still to come
abbrev pub said_by : Name → Position → Group → Said
said_by name.Time p g = said_time g
said_by name.Station p g = said_station g
said_by name.Latitude p g = said_latitude g
said_by name.Longitude p g = said_longitude p g
said_by (name.Indicators land) p g = said_indicators g
said_by name.Wind p g = said_wind g

-- a report of its parts
abbrev pub synop_of : Bool → Site → Surface → Section3 → Synop
synop_of ship site surface section3 = record { ship = ship; site = site; surface = surface; section3 = section3 }
