-- Its kind and the other parts first, then its TAF.
use Rattle.report_move.proofs.Moving.{none-moved, refused-moved, fine_moved}
use Rattle.report_move.proofs.move_report.Goals as goal

pub returns-then-not-is_taf-is_blank : goal.returns-then-not-is_taf-is_blank
returns-then-not-is_taf-is_blank c = none-moved _ _ _ (rw (c.is_taf.ensures, c.is_blank.ensures, c.is_blank-2.ensures) at c.if-not-is_taf-is_blank.true) _ c.refuse.ensures

pub returns-in-Err : goal.returns-in-Err
returns-in-Err c =
    refused-moved _ _ _ _ _ (rw (c.is_taf.ensures, c.is_blank.ensures, c.is_blank-2.ensures) at c.if-not-is_taf-is_blank.false) c.move_taf-moved.ensures c.in-Err.is _ c.refuse-in-Err.ensures

pub returns-in-Ok : goal.returns-in-Ok
returns-in-Ok c =
    fine_moved _ _ _ _ (rw (c.is_taf.ensures, c.is_blank.ensures, c.is_blank-2.ensures) at c.if-not-is_taf-is_blank.false) c.move_taf-moved.ensures c.in-Ok.is
