-- A group is owed, or there is no element.
use Rattle.taf_row.proofs.Rows.{owes-by}
use Rattle.taf_row.proofs.tests.owes.Goals as goal

pub returns : goal.returns
returns c = let a = c.args in owes-by a.part a.place a.count a.r c.musts-must.ensures c.is_owed-owed.ensures c.is_main-main.ensures c.has_element-some.ensures
