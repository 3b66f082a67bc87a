-- Whether a report corrects another: "Given a first METAR, SPECI or TAF and a second: if the second is accepted, carries COR and has the same kind, CCCC and time as an
-- accepted first, the answer is the second; else the first if it is accepted and of these kinds; else an empty part of the first."
-- Assumes nothing: these are definitions.
use Rattle.std.specs.Prelude.{ℕ, Bool, true, false, cond, not, ◌&&◌, ◌||◌, get_or, eqb, None, Option, Some}
use Rattle.record.specs.declared.aerodrome.Correction.{Correction}
use Rattle.record.specs.declared.aerodrome.Correction.TheVariants as correction
use Rattle.record.specs.declared.aerodrome.Instant.{Instant}
use Rattle.record.specs.declared.aerodrome.Station.{Station}
use Rattle.record.specs.declared.aerodrome.Observation.{Observation}
use Rattle.record.specs.declared.aerodrome.Metar.{Metar}
use Rattle.record.specs.declared.aerodrome.Taf.{Taf}
use Rattle.report_record.specs.declared.kinds.Kind.{Kind}
use Rattle.report_record.specs.declared.kinds.Kind.TheVariants as kind
use Rattle.report_record.specs.declared.kinds.Report.{Report}
use Rattle.report_record.specs.declared.kinds.Stands.{Stands}
use Rattle.report_record.specs.declared.kinds.Stands.TheVariants as stands

abbrev pub same_number : Option ℕ → Option ℕ → Bool
same_number None None = true
same_number None (Some n) = false
same_number (Some m) None = false
same_number (Some m) (Some n) = eqb m n

-- "time": the report's own, day, hour and minute
abbrev pub same_instant : Instant → Instant → Bool
same_instant a b = same_number a.day b.day && same_number a.hour b.hour && same_number a.minute b.minute

abbrev pub same_letter : ℕ → Station → Station → Bool
same_letter i a b = eqb (get_or a.letters i 0) (get_or b.letters i 0)

abbrev pub same_station : Station → Station → Bool
same_station a b = same_letter 0 a b && same_letter 1 a b && same_letter 2 a b && same_letter 3 a b

-- both or neither
abbrev pub alike : Bool → Bool → Bool
alike a b = (a && b) || (not a && not b)

-- COR, and not AMD
abbrev pub is_corrected : Correction → Bool
is_corrected correction.None = false
is_corrected correction.Amended = false
is_corrected correction.Corrected = true

-- "carries COR and has the same kind, CCCC and time": METAR for METAR, SPECI for SPECI, TAF for TAF
abbrev pub observation_corrects : Observation → Observation → Bool
observation_corrects first second =
    second.corrected && alike first.special second.special && same_station first.station second.station && same_instant first.time second.time

abbrev pub metar_corrects : Metar → Metar → Bool
metar_corrects first second = observation_corrects first.observation second.observation

abbrev pub taf_corrects : Taf → Taf → Bool
taf_corrects first second =
    is_corrected second.leg.correction && same_station first.leg.station second.leg.station && same_instant first.leg.time second.leg.time

abbrev pub is_observed : Kind → Bool
is_observed kind.Missing = false
is_observed kind.Surface = false
is_observed kind.Observed = true
is_observed kind.Forecast = false

abbrev pub is_forecast : Kind → Bool
is_forecast kind.Missing = false
is_forecast kind.Surface = false
is_forecast kind.Observed = false
is_forecast kind.Forecast = true

unfoldable pub corrects : Report → Report → Bool
corrects first second =
    (is_observed first.kind && is_observed second.kind && metar_corrects first.observed second.observed)
    || (is_forecast first.kind && is_forecast second.kind && taf_corrects first.forecast second.forecast)

-- a record's kind is missing where its text is refused, so that a report of these kinds was accepted
unfoldable pub judge_standing : Report → Report → Stands
judge_standing first second =
    cond (corrects first second) stands.Second (cond (is_observed first.kind || is_forecast first.kind) stands.First stands.Neither)
