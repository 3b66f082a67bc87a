-- By the first place that answers, closed ones asked too.
use Rattle.std.proofs.Common.{◌∙◌}
use Rattle.rows.proofs.First.{known-first}
use Rattle.rows.proofs.is_known.Goals as goal

pub returns : goal.returns
returns g c = c.is_some.ensures ∙ known-first (g.R.Row.places c.args.row) c.args.g.now c.first_fit.ensures
