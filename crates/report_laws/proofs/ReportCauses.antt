-- THE CAUSES for which the writer of an edition refuses a record of any kind, in the order of judging: the parts of the other kinds first, then those of its own
-- kind.
-- Assumes nothing.
use mathlib.Core.Path.{refl}
use mathlib.Core.Bool.{true}
use mathlib.Core.List.{List, [], ◌∷◌, ◌++◌}
use Rattle.record.specs.SilentSurface.{is_blank_synop}
use Rattle.record.specs.SilentAerodrome.{is_blank_metar, is_blank_taf}
use Rattle.record.specs.declared.aerodrome.Edition.{Edition}
use Rattle.report_record.specs.declared.kinds.Kind.{Kind}
use Rattle.report_record.specs.declared.kinds.Kind.TheVariants as kind
use Rattle.report_record.specs.declared.kinds.Report.{Report}
use Rattle.report.specs.Write.{judge_by, judge_in}
use Rattle.report_laws.proofs.Listed.{required-missing, foreign, Asked, asked, unless, Judges, value-judges, in-turn, both-clear, clear-unless, within, judges-within}
use Rattle.report_laws.proofs.SurfaceCauses as surface
use Rattle.report_laws.proofs.ObservedCauses as observed
use Rattle.report_laws.proofs.ForecastCauses as forecast

-- the fields of a record: its kind, its parts and their fields
pub data Field : Type 0 where
  kind-of-report : Field
  surface-part : Field
  observed-part : Field
  forecast-part : Field
  of-surface : surface.Field → Field
  of-observed : observed.Field → Field
  of-forecast : forecast.Field → Field

abbrev Causes : Type 0
Causes = List (Asked Field)

abbrev causes_by : Edition → Kind → Report → Causes
causes_by e kind.Missing r = asked (required-missing kind-of-report) true ∷ []
causes_by e kind.Surface r =
    (unless (is_blank_metar r.observed) (foreign observed-part) ++ unless (is_blank_taf r.forecast) (foreign forecast-part)) ++ within of-surface (surface.causes_of r.surface)
causes_by e kind.Observed r =
    (unless (is_blank_synop r.surface) (foreign surface-part) ++ unless (is_blank_taf r.forecast) (foreign forecast-part)) ++ within of-observed (observed.causes_of r.observed)
causes_by e kind.Forecast r =
    (unless (is_blank_synop r.surface) (foreign surface-part) ++ unless (is_blank_metar r.observed) (foreign observed-part)) ++ within of-forecast (forecast.causes_in e r.forecast)

-- what the record is refused for, a TAF in the edition that the caller chose
abbrev pub causes_in : Edition → Report → Causes
causes_in chosen r = causes_by chosen r.kind r

pub report-judged : (chosen : Edition) (r : Report) → Judges (judge_in chosen r) (causes_in chosen r)
unfolding judge_in
report-judged chosen r = go r.kind
  where
    go : (k : Kind) → Judges (judge_by chosen k r) (causes_by chosen k r)
    go kind.Missing = record { is = refl }
    go kind.Surface =
        in-turn (value-judges (both-clear (clear-unless (is_blank_metar r.observed)) (clear-unless (is_blank_taf r.forecast)))) (judges-within of-surface (surface.record-judged r.surface))
    go kind.Observed =
        in-turn (value-judges (both-clear (clear-unless (is_blank_synop r.surface)) (clear-unless (is_blank_taf r.forecast)))) (judges-within of-observed (observed.record-judged r.observed))
    go kind.Forecast =
        in-turn (value-judges (both-clear (clear-unless (is_blank_synop r.surface)) (clear-unless (is_blank_metar r.observed)))) (judges-within of-forecast (forecast.record-judged chosen r.forecast))
