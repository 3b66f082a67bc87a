-- The steps of the code go through the parts of the shape.
use Rattle.std.proofs.Common.{refl}
use Rattle.shapes.specs.Shape.{leading, split, parts_of}
use Rattle.shapes.proofs.Scans.{no_step, nothing-step, word-step, figures-step, scan-by-steps, end, ◌then◌}
use Rattle.aerodrome_groups.specs.Temperatures.{temperatures_shape}
use Rattle.aerodrome_groups.proofs.read.scan_temperatures.Goals as goal

pub returns : goal.returns
returns c =
    rw (c.scanned.ensures, c.absent-none.ensures)
    (unfold leading split parts_of in
    scan-by-steps temperatures_shape c.args.g.now refl
    (word-step (nothing-step c.nothing-plus.ensures) refl c.word_or-air_sign.ensures
    then figures-step (no_step c.absent-none.ensures) 0 2 refl refl c.figures_or-air.ensures
    then word-step (no_step c.absent-none.ensures) refl c.word_or-stroke.ensures
    then word-step (nothing-step c.nothing-plus-2.ensures) refl c.word_or-dew_sign.ensures
    then figures-step (no_step c.absent-none.ensures) 0 2 refl refl c.figures_or-dew.ensures
    then end))
