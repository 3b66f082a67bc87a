-- What tens of degrees are read as.
use Rattle.std.proofs.Common.{sym, ◌∙◌}
use borrow.Author.Tests.{ne_eqb}
use Rattle.wind.proofs.Readings.{ddd-used}
use Rattle.wind.proofs.read.direction_of.Goals as goal

pub returns-then-is_tens : goal.returns-then-is_tens
returns-then-is_tens c =
    rw (ne_eqb _ _ c.if-v-eq1.false, c.in-Number.is, ne_eqb _ _ c.if-d-eq0.false, ddd-used _ (sym c.is_tens.ensures ∙ c.if-is_tens.true))
