-- The steps of the code go through the parts of the shape.
use Rattle.std.proofs.Common.{refl}
use Rattle.shapes.specs.Shape.{leading, split, parts_of}
use Rattle.shapes.proofs.Scans.{no_step, nothing-step, word-step, figures-step, scan-by-steps, end, ◌then◌}
use Rattle.aerodrome_groups.specs.Runway.{runway_shape}
use Rattle.aerodrome_groups.proofs.read.scan_runway.Goals as goal

pub returns : goal.returns
returns c =
    rw c.scanned.ensures
    (unfold leading split parts_of in
    scan-by-steps runway_shape c.args.g.now refl
    (figures-step (no_step c.absent-none.ensures) 1 2 refl refl c.figures_or-number.ensures
    then word-step (word-step (word-step (nothing-step c.nothing-no_side.ensures) refl c.word_or-right.ensures) refl c.word_or-centre.ensures) refl c.word_or-side.ensures
    then word-step (no_step c.absent-none.ensures) refl c.word_or-stroke.ensures
    then word-step (word-step (nothing-step c.nothing-exact.ensures) refl c.word_or-above.ensures) refl c.word_or-mark.ensures
    then figures-step (no_step c.absent-none.ensures) 0 4 refl refl c.figures_or-range.ensures
    then word-step (word-step (word-step (nothing-step c.nothing-no_course.ensures) refl c.word_or-no_change.ensures) refl c.word_or-down.ensures) refl c.word_or-course.ensures
    then end))
