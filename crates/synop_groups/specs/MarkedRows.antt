-- "Lines that settle arguments": the rows marked *, as one list. Each row has the text that the definitions give and the text that the paper states. A figure
-- is asked of its scale; a refusal is asked of the group's own definition. The list stands here because both are seen from here.
-- Assumes nothing: these are definitions.
use Rattle.std.specs.Prelude.{ℕ, cond, List, [], ◌∷◌, ◌++◌, pos, negsuc, None, Option, Some}
use Rattle.figures.specs.Quote.{bytes}
use Rattle.figures.specs.Figures.{figures}
use Rattle.text.specs.Refusals.{number_of}
use Rattle.scales.specs.Metres.{land, base, visibility, cloud, metres_figure, range_figure}
use Rattle.scales.specs.Rounded.{rain_figure, direction_figure}
use Rattle.scales.specs.Degrees.{degrees_of}
use Rattle.scales.specs.declared.kinds.Range.{Range}
use Rattle.scales.specs.declared.kinds.Range.TheVariants.{Below, Exact, Above}
use Rattle.scales.specs.declared.kinds.Degrees.{Degrees}
use Rattle.scales.specs.declared.kinds.Rain.TheVariants as rain
use Rattle.synop_groups.specs.declared.kinds.Said.{Said}
use Rattle.synop_groups.specs.declared.kinds.Said.TheVariants as said
use Rattle.synop_groups.specs.Reads.{said_air, said_indicators}

-- ---- the texts of answers: figures at a width; what may not be written has no text
abbrev as_figures : ℕ → Option ℕ → List ℕ
as_figures w (Some f) = figures w f
as_figures w None = []

abbrev as_range : Range → List ℕ
as_range (Below f) = bytes "M" ++ figures 4 f
as_range (Exact f) = figures 4 f
as_range (Above f) = bytes "P" ++ figures 4 f

abbrev of_range : Option Range → List ℕ
of_range (Some r) = as_range r
of_range None = []

abbrev as_degrees : Option Degrees → List ℕ
as_degrees (Some x) = cond x.minus (bytes "M") [] ++ figures 2 x.whole
as_degrees None = []

-- the number by which a group is refused; one that is read has none
abbrev as_refusal : Said → List ℕ
as_refusal (said.Refused f) = figures 1 (number_of f)
as_refusal (said.Time t) = []
as_refusal (said.Station n) = []
as_refusal (said.Position p) = []
as_refusal (said.Indicators i) = []
as_refusal (said.Wind w) = []
as_refusal (said.Speed n) = []
as_refusal (said.Air a) = []
as_refusal (said.Moisture m) = []
as_refusal (said.Pressure p) = []
as_refusal (said.Level l) = []
as_refusal (said.Tendency t) = []
as_refusal (said.Rainfall r) = []
as_refusal (said.Weather w) = []
as_refusal (said.Clouds c) = []
as_refusal (said.Clock c) = []
as_refusal (said.Layer l) = []

-- ---- the rows: what is asked, what the definitions give, what the paper states
pub record Row : Type 0 where
  pub asked : List ℕ
  pub given : List (List ℕ)
  pub stated : List (List ℕ)

abbrev row : List ℕ → List (List ℕ) → List (List ℕ) → Row
row asked given stated = record { asked = asked; given = given; stated = stated }

unfoldable pub marked_rows : List Row
marked_rows =
    row (bytes "land 5,999; 6,000")
    (as_figures 2 (metres_figure land 5999) ∷ as_figures 2 (metres_figure land 6000) ∷ [])
    (bytes "50" ∷ bytes "56" ∷ [])
    ∷ row (bytes "land 70,000; 70,001")
    (as_figures 2 (metres_figure land 70000) ∷ as_figures 2 (metres_figure land 70001) ∷ [])
    (bytes "88" ∷ bytes "89" ∷ [])
    ∷ row (bytes "h 599; 600")
    (as_figures 1 (metres_figure base 599) ∷ as_figures 1 (metres_figure base 600) ∷ [])
    (bytes "4" ∷ bytes "5" ∷ [])
    ∷ row (bytes "VVVV 370; 799; 5,700")
    (as_figures 4 (metres_figure visibility 370) ∷ as_figures 4 (metres_figure visibility 799) ∷ as_figures 4 (metres_figure visibility 5700) ∷ [])
    (bytes "0350" ∷ bytes "0750" ∷ bytes "5000" ∷ [])
    ∷ row (bytes "VVVV 9,999; 10,000")
    (as_figures 4 (metres_figure visibility 9999) ∷ as_figures 4 (metres_figure visibility 10000) ∷ [])
    (bytes "9000" ∷ bytes "9999" ∷ [])
    ∷ row (bytes "1690 3,299; 3,300; 29,999")
    (as_figures 3 (metres_figure cloud 3299) ∷ as_figures 3 (metres_figure cloud 3300) ∷ as_figures 3 (metres_figure cloud 29999) ∷ [])
    (bytes "100" ∷ bytes "110" ∷ bytes "990" ∷ [])
    ∷ row (bytes "RVR 399; 2,001")
    (of_range (range_figure 399) ∷ of_range (range_figure 2001) ∷ [])
    (bytes "0375" ∷ bytes "P2000" ∷ [])
    ∷ row (bytes "2.5, -1.5, -0.4 degrees")
    (as_degrees (degrees_of (pos 25)) ∷ as_degrees (degrees_of (negsuc 14)) ∷ as_degrees (degrees_of (negsuc 3)) ∷ [])
    (bytes "03" ∷ bytes "M01" ∷ bytes "M00" ∷ [])
    ∷ row (bytes "directions 4; 5; 355")
    (as_figures 2 (direction_figure 4) ∷ as_figures 2 (direction_figure 5) ∷ as_figures 2 (direction_figure 355) ∷ [])
    (bytes "36" ∷ bytes "01" ∷ bytes "36" ∷ [])
    ∷ row (bytes "rain 0.9; 1.0; 988.5")
    (as_figures 3 (rain_figure (rain.Tenths 9)) ∷ as_figures 3 (rain_figure (rain.Tenths 10)) ∷ as_figures 3 (rain_figure (rain.Tenths 9885)) ∷ [])
    (bytes "999" ∷ bytes "001" ∷ bytes "989" ∷ [])
    ∷ row (bytes "11000; VV 55")
    (as_refusal (said_air (bytes "11000")) ∷ as_refusal (said_indicators (bytes "43/55")) ∷ [])
    (bytes "5" ∷ bytes "5" ∷ [])
    ∷ []
