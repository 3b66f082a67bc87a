-- What comes back of a record that is written into a buffer of so many bytes, and read from there.
-- Assumes nothing: these are definitions.
use Rattle.std.specs.Prelude.{ℕ, Err, Ok, Result}
use Rattle.text.specs.declared.kinds.Refusal.{Refusal}
use Rattle.record.specs.declared.aerodrome.Edition.{Edition}
use Rattle.report_record.specs.declared.kinds.Report.{Report}
use Rattle.report_record.specs.declared.kinds.Reading.{Reading}
use Rattle.report_record.specs.Record.{accepted, refused}
use Rattle.report.specs.Write.{classed_of, written_in}
use Rattle.round_trip.specs.declared.Back.{Back}

-- what the reader makes of the bytes that were written: all of them are read, as the record with each rounded number replaced by the reading of its class
abbrev pub reading_by : Result ℕ Refusal → Report → Reading
reading_by (Ok n) r = accepted n (classed_of r)
reading_by (Err f) r = refused f 0

abbrev pub back_by : Result ℕ Refusal → Report → Back
back_by w r = record { written = w; reading = reading_by w r }

-- a TAF in the edition that is chosen
unfoldable pub back_in : Edition → Report → ℕ → Back
back_in chosen r room = back_by (written_in chosen r room) r
