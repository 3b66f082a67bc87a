-- The rows marked * hold: the definitions give what the paper states.
-- Assumes nothing.
use mathlib.Core.Path.{◌≡◌, refl}
use mathlib.Core.List.{map}
use Rattle.figures.specs.Figures.{figures, scan, field_at}
use Rattle.scales.specs.Scale.{run, class_in, read_in}
use Rattle.scales.specs.Metres.{land, base, visibility, runway, cloud, metres_figure, metres_reading, range_figure}
use Rattle.scales.specs.Rounded.{rain_figure, direction_figure}
use Rattle.scales.specs.Degrees.{whole_degrees, degrees_of, signed_reading}
use Rattle.synop_groups.specs.Reads.{air_is, said_air, indicators_of, said_indicators}
use Rattle.synop_groups.specs.MarkedRows.{Row, marked_rows}

pub marked : map (λ (r : Row). r.given) marked_rows ≡ map (λ (r : Row). r.stated) marked_rows
unfolding marked_rows figures scan field_at air_is said_air indicators_of said_indicators run class_in read_in land base visibility runway cloud metres_figure metres_reading range_figure rain_figure direction_figure whole_degrees degrees_of signed_reading
marked = refl
