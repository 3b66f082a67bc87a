-- Writing a record of any kind: what the writer judges, the canonical text, and the record that it is read back as.
-- Assumes nothing: these are definitions.
use Rattle.std.specs.Prelude.{⊤, ℕ, ◌≡◌, Bool, true, ◌&&◌, List, [], length, Err, Result}
use Rattle.text.specs.declared.kinds.Refusal.{Refusal}
use Rattle.text.specs.declared.kinds.Refusal.TheVariants as refusal
use Rattle.text.specs.Judge.{judge, and_then}
use Rattle.text.specs.Write.{answer_by, buffer_by}
use Rattle.record.specs.declared.aerodrome.Edition.{Edition}
use Rattle.record.specs.declared.aerodrome.Edition.TheVariants as edition
use Rattle.report_record.specs.declared.kinds.Kind.{Kind}
use Rattle.report_record.specs.declared.kinds.Kind.TheVariants as kind
use Rattle.report_record.specs.declared.kinds.Report.{Report}
use Rattle.record.specs.SilentSurface.{is_blank_synop}
use Rattle.record.specs.SilentAerodrome.{is_blank_metar, is_blank_taf}
use Rattle.synop.specs.Write as synop
use Rattle.metar.specs.Write as metar
use Rattle.taf.specs.Write as taf

-- WHAT THE WRITER JUDGES: "foreign fields first", the parts of the other kinds, then the kind's own part; of no kind, "a required one missing"
abbrev pub after_foreign : Bool → Result ⊤ Refusal → Result ⊤ Refusal
after_foreign blank own = and_then (judge blank true) own

abbrev pub judge_by : Edition → Kind → Report → Result ⊤ Refusal
judge_by e kind.Missing r = Err refusal.Value
judge_by e kind.Surface r = after_foreign (is_blank_metar r.observed && is_blank_taf r.forecast) (synop.judge_of r.surface)
judge_by e kind.Observed r = after_foreign (is_blank_synop r.surface && is_blank_taf r.forecast) (metar.judge_of r.observed)
judge_by e kind.Forecast r = after_foreign (is_blank_synop r.surface && is_blank_metar r.observed) (taf.judge_in e r.forecast)

-- a TAF in the edition "chosen by the caller (the present one if none is named)"
unfoldable pub judge_in : Edition → Report → Result ⊤ Refusal
judge_in e r = judge_by e r.kind r

abbrev pub judge_of : Report → Result ⊤ Refusal
judge_of r = judge_in edition.Present r

-- THE CANONICAL TEXT, a TAF's in the edition that its record names
abbrev pub canonical_by : Kind → Report → List ℕ
canonical_by kind.Missing r = []
canonical_by kind.Surface r = synop.canonical_of r.surface
canonical_by kind.Observed r = metar.canonical_of r.observed
canonical_by kind.Forecast r = taf.canonical_of r.forecast

unfoldable pub canonical_of : Report → List ℕ
canonical_of r = canonical_by r.kind r

-- the record that it is read back as: each rounded number the reading of its class, all else as it is
abbrev pub classed_by : Kind → Report → Report
classed_by kind.Missing r = r
classed_by kind.Surface r = record { kind = kind.Surface; surface = synop.classed_of r.surface; observed = r.observed; forecast = r.forecast }
classed_by kind.Observed r = record { kind = kind.Observed; surface = r.surface; observed = metar.classed_of r.observed; forecast = r.forecast }
classed_by kind.Forecast r = record { kind = kind.Forecast; surface = r.surface; observed = r.observed; forecast = taf.classed_of r.forecast }

unfoldable pub classed_of : Report → Report
classed_of r = classed_by r.kind r

-- ---- the writer's answer, and the lent buffer afterwards

abbrev pub written_by : Edition → Kind → Report → ℕ → Result ℕ Refusal
written_by e k r room = answer_by (judge_by e k r) (canonical_by k r) room

abbrev pub buffer_after : Edition → Kind → Report → List ℕ → List ℕ
buffer_after e k r b = buffer_by (judge_by e k r) (canonical_by k r) b

-- of a kind that has one edition, whatever edition is named: the answer w, and the buffer b afterwards, l
abbrev pub WrittenAnyway : Kind → Report → List ℕ → Result ℕ Refusal → List ℕ → Type 0
WrittenAnyway k r b w l = (e : Edition) → (w ≡ written_by e k r (length b)) × (l ≡ buffer_after e k r b)

unfoldable pub written_in : Edition → Report → ℕ → Result ℕ Refusal
written_in e r room = written_by e r.kind r room

unfoldable pub buffer_in : Edition → Report → List ℕ → List ℕ
buffer_in e r b = buffer_after e r.kind r b

abbrev pub written_of : Report → ℕ → Result ℕ Refusal
written_of r room = written_in edition.Present r room

abbrev pub buffer_of : Report → List ℕ → List ℕ
buffer_of r b = buffer_in edition.Present r b
