-- Two directions, each read of its three figures.
use borrow.Author.Tests.{ne_eqb}
use Rattle.elements.specs.Wind.{read_variation}
use Rattle.wind.proofs.Readings.{both_used}
use Rattle.wind.proofs.read.read_variation.Goals as goal

pub returns-else-a-b : goal.returns-else-a-b
unfolding read_variation
returns-else-a-b c =
    let used = both_used c.in-Number.a c.in-Number-field.b c.is_tens.ensures c.is_tens-2.ensures c.if-is_tens.true in
    rw (← c.field.ensures, c.in-Number.is, ← c.field-2.ensures, c.in-Number-field.is, used.0, used.1, ne_eqb _ _ c.if-a-b.false)
