-- By the name.
use Rattle.std.proofs.Common.{sym, ◌∙◌}
use Rattle.report.proofs.Readings.{as-surface, as-observed, as-forecast, as-refused}
use Rattle.report.proofs.read_in.Goals as goal

pub returns-in-Surface : goal.returns-in-Surface
returns-in-Surface c =
    let a = c.args in
    c.of_surface.ensures ∙ as-surface a.edition a.text.now _ _ (sym c.name.ensures ∙ c.in-Surface.is) c.read_from-reading.ensures

pub returns-in-Observed : goal.returns-in-Observed
returns-in-Observed c =
    let a = c.args in
    c.of_observed.ensures ∙ as-observed a.edition a.text.now _ _ (sym c.name.ensures ∙ c.in-Observed.is) c.read_from-reading-in-Observed.ensures

pub returns-in-Forecast : goal.returns-in-Forecast
returns-in-Forecast c =
    let a = c.args in
    c.of_forecast.ensures ∙ as-forecast a.edition a.text.now _ (sym c.name.ensures ∙ c.in-Forecast.is) c.read_from_in-reading.ensures

pub returns-in-Refused : goal.returns-in-Refused
returns-in-Refused c =
    let a = c.args in
    c.refuse.ensures ∙ as-refused a.edition a.text.now _ _ (sym c.name.ensures ∙ c.in-Refused.is)
