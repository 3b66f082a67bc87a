-- The record of a report of any kind: a part for each kind, those of the other kinds blank. "A refused reading returns a blank record (all fields
-- missing)."
-- Assumes nothing: these are definitions.
use Rattle.std.specs.Prelude.{ℕ, Err, Ok, Result}
use Rattle.text.specs.declared.kinds.Refusal.{Refusal}
use Rattle.text.specs.declared.kinds.Refused.{Refused}
use Rattle.places.specs.Answer.{accepted_as, refused_as}
use Rattle.record.specs.declared.surface.Synop.{Synop}
use Rattle.record.specs.declared.aerodrome.Metar.{Metar}
use Rattle.record.specs.declared.aerodrome.Taf.{Taf}
use Rattle.record.specs.Blank.{blank_synop}
use Rattle.record.specs.Trend.{blank_metar}
use Rattle.record.specs.Taf.{blank_taf}
use Rattle.report_record.specs.declared.kinds.Kind.{Kind}
use Rattle.report_record.specs.declared.kinds.Kind.TheVariants as kind
use Rattle.report_record.specs.declared.kinds.Report.{Report}
use Rattle.report_record.specs.declared.kinds.Reading.{Reading}

abbrev pub report_of : Kind → Synop → Metar → Taf → Report
report_of k s m t = record { kind = k; surface = s; observed = m; forecast = t }

abbrev pub blank_report : Report
blank_report = report_of kind.Missing blank_synop blank_metar blank_taf

abbrev pub surface_report : Synop → Report
surface_report r = report_of kind.Surface r blank_metar blank_taf

abbrev pub observed_report : Metar → Report
observed_report r = report_of kind.Observed blank_synop r blank_taf

abbrev pub forecast_report : Taf → Report
forecast_report r = report_of kind.Forecast blank_synop blank_metar r

-- the report of an accepted text has its kind, that of a refused one none
abbrev pub kind_by : Result ℕ Refused → Kind → Kind
kind_by (Ok rest) k = k
kind_by (Err x) k = kind.Missing

-- a reading with its verdict; the record is blank where the text is refused
abbrev pub reading : Result ℕ Refused → Report → Reading
reading v r = record { verdict = v; report = r }

-- what the reader of a kind answers, as the reading of a report
abbrev pub of_surface : Result ℕ Refused → Synop → Reading
of_surface v r = reading v (report_of (kind_by v kind.Surface) r blank_metar blank_taf)

abbrev pub of_observed : Result ℕ Refused → Metar → Reading
of_observed v r = reading v (report_of (kind_by v kind.Observed) blank_synop r blank_taf)

abbrev pub of_forecast : Result ℕ Refused → Taf → Reading
of_forecast v r = reading v (report_of (kind_by v kind.Forecast) blank_synop blank_metar r)

abbrev pub accepted : ℕ → Report → Reading
accepted rest r = accepted_as reading blank_report rest r

abbrev pub refused : Refusal → ℕ → Reading
refused f at = refused_as reading blank_report f at
