-- The source of an item of a TAF, of any text and in the edition "chosen by the caller".
-- Assumes nothing: these are definitions.
use Rattle.std.specs.Prelude.{ℕ, List, None, Option}
use Rattle.record.specs.declared.aerodrome.Edition.{Edition}
use Rattle.report_record.specs.declared.kinds.Kind.{Kind}
use Rattle.report_record.specs.declared.kinds.Kind.TheVariants as kind
use Rattle.report.specs.Read.{read_in}
use Rattle.sources.specs.declared.kinds.Spot.{Spot}
use Rattle.sources.specs.declared.kinds.Source.{Source}
use Rattle.sources.specs.Trail.{origin_in, source_of}
use Rattle.taf_sources.specs.Trail.{trail_of}

-- the report of a refused text has no kind
abbrev pub if_forecast : Kind → Option Source → Option Source
if_forecast kind.Missing s = None
if_forecast kind.Surface s = None
if_forecast kind.Observed s = None
if_forecast kind.Forecast s = s

-- THE SOURCE OF WHAT WAS TAKEN AT A SPOT OF A PART, of a text that is accepted as a TAF of that edition; of another there is none.
unfoldable pub forecast_at : Edition → List ℕ → ℕ → Spot → Option Source
forecast_at e text part s = if_forecast (read_in e text).report.kind (source_of (origin_in part s (trail_of e text)))
