-- The source of an item, of any text: "the part of the text that it was read from". "A refused text has no items."
-- Assumes nothing: these are definitions.
use Rattle.std.specs.Prelude.{ℕ, List, length, None, Option}
use Rattle.std.specs.Borrow.{Bor}
use Rattle.text.specs.Part.{PartAt}
use Rattle.report_record.specs.declared.kinds.Kind.{Kind}
use Rattle.report_record.specs.declared.kinds.Kind.TheVariants as kind
use Rattle.report.specs.Read.{read_of}
use Rattle.sources.specs.declared.kinds.Spot.{Spot}
use Rattle.sources.specs.declared.kinds.Source.{Source}
use Rattle.sources.specs.Trail.{origin_in, source_of, start_of, end_of}
use Rattle.metar_sources.specs.Trail.{trail_of}

-- the report of a refused text has no kind
abbrev pub if_observed : Kind → Option Source → Option Source
if_observed kind.Missing s = None
if_observed kind.Surface s = None
if_observed kind.Observed s = s
if_observed kind.Forecast s = None

-- THE SOURCE OF WHAT WAS TAKEN AT A SPOT OF A PART, of a text that is accepted as a METAR or SPECI; of another there is none.
unfoldable pub observed_at : List ℕ → ℕ → Spot → Option Source
observed_at text part s = if_observed (read_of text).report.kind (source_of (origin_in part s (trail_of text)))

-- r is that part of the caller's text; where there is none, the empty part at its end
abbrev pub SourcePart : Bor (List ℕ) → Bor (List ℕ) → Option Source → Type 0
SourcePart t r s = PartAt t r (start_of (length t.now) s) (end_of (length t.now) s)
