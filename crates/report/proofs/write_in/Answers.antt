-- By the kind.
use Rattle.report_record.specs.declared.kinds.Kind.TheVariants as kind
use Rattle.report.proofs.Writes.{by_kind, no_kind}
use Rattle.report.proofs.write_in.Goals as goal

pub returns-in-Missing : goal.returns-in-Missing
returns-in-Missing c = no_kind c.args.edition c.args.report c.args.out.now c.in-Missing.is

pub returns-in-Surface : goal.returns-in-Surface
returns-in-Surface c = let a = c.args in by_kind a.edition a.report a.out.now kind.Surface c.in-Surface.is (c.write_surface.ensures a.edition)

pub returns-in-Observed : goal.returns-in-Observed
returns-in-Observed c = let a = c.args in by_kind a.edition a.report a.out.now kind.Observed c.in-Observed.is (c.write_observed.ensures a.edition)

pub returns-in-Forecast : goal.returns-in-Forecast
returns-in-Forecast c = let a = c.args in by_kind a.edition a.report a.out.now kind.Forecast c.in-Forecast.is c.write_forecast.ensures
