-- By the first place that answers, and where none does by whether some place has the shape.
use Rattle.std.proofs.Common.{true, false, sym, ◌∙◌}
use Rattle.rows.proofs.First.{find-first, find-past}
use Rattle.rows.proofs.find.Goals as goal

pub returns-in-Some : goal.returns-in-Some
returns-in-Some g c =
    let a = c.args in
    find-first (g.R.Row.places a.row) a.g.now a.place a.count c.in-Some.ensures (rw (← c.mosts.ensures, ← c.musts.ensures) c.found_at.ensures)

pub returns-in-None : goal.returns-in-None
returns-in-None g c =
    let a = c.args in
    find-past (g.R.Row.places a.row) a.g.now a.place a.count c.in-None.ensures true (sym c.is_known.ensures ∙ c.if-is_known.true)

pub returns-in-None-2 : goal.returns-in-None-2
returns-in-None-2 g c =
    let a = c.args in
    find-past (g.R.Row.places a.row) a.g.now a.place a.count c.in-None.ensures false (sym c.is_known.ensures ∙ c.if-is_known.false)
