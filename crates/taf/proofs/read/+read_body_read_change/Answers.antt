-- A change's part, with the changes after it or with none; and a change from where its part begins.
use Rattle.std.proofs.Common.{arith}
use Rattle.taf.proofs.Turns.{body-ends, body-goes, change-goes}
use Rattle.taf.proofs.read.+read_body_read_change.Goals.{read_body-in-End, read_body-in-Change}
use Rattle.taf.proofs.read.+read_body_read_change.Goals as goal

pub read_body-read_change-ahead-requires : goal.read_body-read_change-ahead-requires
read_body-read_change-ahead-requires t c =
    let h = c.read_part-read.ensures.ahead _ _ _ c.in-Change.is in
    (omega (arith, h.0, h.1, c.decreases), h.2)

pub read_body-returns : goal.read_body-returns
read_body-returns t c =
    let a = c.args in
    elim c.match-read.branch [
      | read_body-in-End w ↦
          rw w.ahead-is (body-ends a.edition a.text.now a.n a.opening a.period a.at c.requires c.part_of-part.ensures c.read_part-read.ensures c.change_of-change.ensures w.in-End.is w.none-ahead.ensures)
      | read_body-in-Change w ↦
          rw w.ahead-is (body-goes a.edition a.text.now a.n a.opening a.period a.at c.requires c.part_of-part.ensures c.read_part-read.ensures c.change_of-change.ensures w.in-Change.is w.read_change-ahead.ensures)
    ]

pub read_change-read_body-requires : goal.read_change-read_body-requires
read_change-read_body-requires t c = (omega (arith, (c.begin_part-start.ensures c.args.edition).later, c.decreases), c.requires)

pub read_change-returns : goal.read_change-returns
read_change-returns t c =
    let a = c.args in
    change-goes a.edition a.text.now a.n a.opening _ a.period a.at _ c.begin_part-start.ensures c.read_body.ensures
