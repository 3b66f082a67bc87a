-- `synop_groups_write::write::put_speed` meets its contract: the cases of `speed_group`.
-- Assumes nothing.
use borrow.Author.Rules.{rules}
use borrow.Author.Tests.{le-leb, lt-leb}
use Rattle.figures.specs.Figures.{number_text}
use Rattle.text.proofs.Writes.{write-none}
use Rattle.synop_groups.specs.Shows.{show_speed}
use Rattle.synop_groups_write.proofs.write.put_speed.Statement.{statement}
use Rattle.synop_groups_write.proofs.write.put_speed.Tie as tie

pub put_speed_spec : {M : Type 1} → statement M
put_speed_spec =
    tie.close
    (tie.spec
    (λ c. search rules) (λ c. search rules) (λ c κs. tt) (λ c. search rules)
    (λ c. unfold show_speed in rw c.in-Missing.is (write-none _ _))
    (λ c. search rules)
    (λ c.
    let d = c in
    let e = d in
    unfold show_speed number_text in
    rw (e.in-Is.is, le-leb _ _ d.if-s-ge99.true) c.put_coded.ensures)
    (λ c. unfold show_speed in rw (c.in-Is.is, lt-leb _ _ c.if-s-ge99.false) (write-none _ _))
    (λ c. unfold show_speed in rw c.in-Above.is (write-none _ _)))
