-- By the name.
use Rattle.std.proofs.Common.{sym, ap, ◌∙◌}
use Rattle.report_record.specs.declared.kinds.Reading.{Reading}
use Rattle.report.proofs.Readings.{as-surface, as-observed, as-forecast, as-refused}
use Rattle.report.proofs.verdict_in.Goals as goal

pub returns-in-Surface : goal.returns-in-Surface
returns-in-Surface c =
    let a = c.args in
    ap (λ (x : Reading). x.verdict) (as-surface a.edition a.text.now _ _ (sym c.name.ensures ∙ c.in-Surface.is) c.read_from.ensures)

pub returns-in-Observed : goal.returns-in-Observed
returns-in-Observed c =
    let a = c.args in
    ap (λ (x : Reading). x.verdict) (as-observed a.edition a.text.now _ _ (sym c.name.ensures ∙ c.in-Observed.is) c.read_from-in-Observed.ensures)

pub returns-in-Forecast : goal.returns-in-Forecast
returns-in-Forecast c =
    let a = c.args in
    ap (λ (x : Reading). x.verdict) (as-forecast a.edition a.text.now _ (sym c.name.ensures ∙ c.in-Forecast.is) c.read_from_in.ensures)

pub returns-in-Refused : goal.returns-in-Refused
returns-in-Refused c =
    let a = c.args in
    ap (λ (x : Reading). x.verdict) (as-refused a.edition a.text.now _ _ (sym c.name.ensures ∙ c.in-Refused.is))
