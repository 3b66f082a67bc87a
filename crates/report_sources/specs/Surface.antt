-- The source of an item of a SYNOP or SHIP, of any text. "A refused text has no items."
-- Assumes nothing: these are definitions.
use Rattle.std.specs.Prelude.{ℕ, List, None, Option}
use Rattle.report_record.specs.declared.kinds.Kind.{Kind}
use Rattle.report_record.specs.declared.kinds.Kind.TheVariants as kind
use Rattle.report.specs.Read.{read_of}
use Rattle.sources.specs.declared.kinds.Spot.{Spot}
use Rattle.sources.specs.declared.kinds.Source.{Source}
use Rattle.sources.specs.Trail.{origin_in, source_of}
use Rattle.synop_sources.specs.Trail.{trail_of}
use Rattle.synop_sources.specs.Items.{layer_in}

-- the report of a refused text has no kind
abbrev pub if_surface : Kind → Option Source → Option Source
if_surface kind.Missing s = None
if_surface kind.Surface s = s
if_surface kind.Observed s = None
if_surface kind.Forecast s = None

-- THE SOURCE OF WHAT WAS TAKEN AT A SPOT OF A PART, of a text that is accepted as a SYNOP or SHIP; of another there is none.
unfoldable pub surface_at : List ℕ → ℕ → Spot → Option Source
surface_at text part s = if_surface (read_of text).report.kind (source_of (origin_in part s (trail_of text)))

-- THE SOURCE OF THE K-TH LAYER OF SECTION 3
unfoldable pub surface_layer : List ℕ → ℕ → Option Source
surface_layer text k = if_surface (read_of text).report.kind (source_of (layer_in k (trail_of text)))
