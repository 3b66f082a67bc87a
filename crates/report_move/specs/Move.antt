-- Document 02, No. 9: "move records over and back, the caller naming the days in the starting month", for a record of any kind.
-- Assumes nothing: these are definitions.
use Rattle.std.specs.Prelude.{⊤, ℕ, Bool, true, false, ◌&&◌, Err, Ok, Result}
use Rattle.text.specs.declared.kinds.Refusal.{Refusal}
use Rattle.text.specs.Judge.{judge, and_then}
use Rattle.record.specs.declared.aerodrome.Edition.{Edition}
use Rattle.record.specs.declared.aerodrome.Taf.{Taf}
use Rattle.record.specs.SilentAerodrome.{is_same_edition}
use Rattle.report_record.specs.declared.kinds.Kind.{Kind}
use Rattle.report_record.specs.declared.kinds.Kind.TheVariants as kind
use Rattle.report_record.specs.declared.kinds.Report.{Report}
use Rattle.report_record.specs.Record.{blank_report}
use Rattle.report.specs.Write.{judge_in}
use Rattle.taf_times.specs.Move.{judge_times, times_in}
use Rattle.taf_move.specs.Move.{other}
use Rattle.report_move.specs.declared.kinds.Moved.{Moved}

abbrev pub is_taf : Kind → Bool
is_taf kind.Missing = false
is_taf kind.Surface = false
is_taf kind.Observed = false
is_taf kind.Forecast = true

abbrev pub is_taf_of : Edition → Report → Bool
is_taf_of e r = is_taf r.kind && is_same_edition e r.forecast.edition

-- "11 for a record that is no TAF of the edition left, the writer's 11 or 7, then 11 for a month length outside 28 to 31 or a period or change day past it";
-- before 15 (`judge_times`)
unfoldable pub judge_move : Edition → ℕ → Report → Result ⊤ Refusal
judge_move to days r = and_then (judge (is_taf_of (other to) r) true) (and_then (judge_in (other to) r) (judge_times days r.forecast))

-- "All but periods and change times moves as it is."
abbrev pub with_forecast : Taf → Report → Report
with_forecast t r = record { kind = r.kind; surface = r.surface; observed = r.observed; forecast = t }

-- "A refusal gives a blank record."
abbrev pub moved_by : Result ⊤ Refusal → Report → Moved
moved_by (Ok tt) r = record { judged = Ok tt; report = r }
moved_by (Err f) r = record { judged = Err f; report = blank_report }

-- THE MOVE: a report in this edition, with so many days in the starting month.
unfoldable pub moved_of : Edition → ℕ → Report → Moved
moved_of to days r = moved_by (judge_move to days r) (with_forecast (times_in to days r.forecast) r)
