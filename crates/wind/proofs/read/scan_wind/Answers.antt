-- The steps go through the parts of the shape.
use Rattle.std.proofs.Common.{refl}
use Rattle.shapes.specs.Shape.{leading, split, parts_of}
use Rattle.shapes.proofs.Scans.{no_step, nothing-step, word-step, figures-step, scan-by-steps, end, ◌then◌}
use Rattle.elements.specs.Wind.{wind_shape}
use Rattle.wind.proofs.read.scan_wind.Goals as goal

pub returns : goal.returns
unfolding leading split parts_of
returns c =
    rw (c.scanned.ensures, c.absent-none.ensures)
    (scan-by-steps wind_shape c.args.g.now refl
    (figures-step (word-step (no_step c.absent-none.ensures) refl c.word_or-variable.ensures) 0 3 refl refl c.figures_or-direction.ensures
    then figures-step (figures-step (figures-step (figures-step (no_step c.absent-none.ensures) 1 2 refl refl c.figures_or-above_two.ensures) 1 3 refl refl c.figures_or-above_three.ensures) 0 2 refl refl c.figures_or-two_figures.ensures) 0 3 refl refl c.figures_or-speed.ensures
    then figures-step (figures-step (figures-step (figures-step (nothing-step c.nothing-steady.ensures) 2 2 refl refl c.figures_or-above_two-2.ensures) 2 3 refl refl c.figures_or-above_three-2.ensures) 1 2 refl refl c.figures_or-two_figures-2.ensures) 1 3 refl refl c.figures_or-gust.ensures
    then word-step (word-step (word-step (no_step c.absent-none.ensures) refl c.word_or-kilometres.ensures) refl c.word_or-metres.ensures) refl c.word_or-unit.ensures
    then end))
