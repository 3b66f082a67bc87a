-- A month that fits has at most 31 days.
use Rattle.std.proofs.Common.{sym, ◌∙◌}
use Rattle.taf_times.proofs.Moves.{month-days}
use Rattle.taf_times.proofs.move_times.Goals as goal

pub times_fit-requires : goal.times_fit-requires
times_fit-requires c = (month-days c.args.days c.args.t (sym c.month_fits.ensures ∙ c.if-not-month_fits.false)).1

pub times_in-requires : goal.times_in-requires
times_in-requires c = (month-days c.args.days c.args.t (sym c.month_fits.ensures ∙ c.if-not-month_fits.false)).1
