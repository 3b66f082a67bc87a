-- The steps go through the parts of the shape.
use Rattle.std.proofs.Common.{refl}
use Rattle.shapes.specs.Shape.{leading, split, parts_of}
use Rattle.shapes.proofs.Scans.{no_step, nothing-step, word-step, figures-step, scan-by-steps, end, ◌then◌}
use Rattle.elements.specs.Sky.{layer_shape}
use Rattle.sky.proofs.read.scan_layer.Goals as goal

pub returns : goal.returns
unfolding leading split parts_of
returns c =
    rw (c.scanned.ensures, c.absent-none.ensures)
    (scan-by-steps layer_shape c.args.g.now refl
    (word-step (word-step (word-step (word-step (no_step c.absent-none.ensures) refl c.word_or-overcast.ensures) refl c.word_or-broken.ensures) refl c.word_or-scattered.ensures) refl c.word_or-amount.ensures
    then figures-step (no_step c.absent-none.ensures) 0 3 refl refl c.figures_or-height.ensures
    then word-step (word-step (nothing-step c.nothing-neither.ensures) refl c.word_or-towering.ensures) refl c.word_or-convective.ensures
    then end))
