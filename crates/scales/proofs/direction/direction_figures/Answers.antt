-- `scales::direction::direction_figures` meets its contract: its bytes are the tens of the figure and what is left of it.
-- Assumes nothing.
use Rattle.std.specs.Prelude.{Some}
use Rattle.std.proofs.Common.{◌≡◌, ℕ, ◌≤◌, refl, sym, ◌∙◌, arith}
use Rattle.figures.specs.Figures.{field_text}
use Rattle.scales.specs.Rounded.{direction_figure}
use Rattle.scales.proofs.DirectionLaws.{figure-most, two-figures}
use Rattle.scales.proofs.direction.direction_figures.Goals as goal

pub returns-in_err-figure : goal.returns-in_err-figure
unfolding field_text
returns-in_err-figure c = rw (c.from_residual.ensures, ← c.direction_figure.ensures, c.in_err-figure.was) refl

pub tens_of-tens-requires : goal.tens_of-tens-requires
tens_of-tens-requires c = omega (arith, figure-most _ _ (sym c.direction_figure.ensures ∙ c.in_ok-figure.was))

pub figure_byte-requires : goal.figure_byte-requires
figure_byte-requires c = omega (arith, c.tens_of-tens.ensures.0, figure-most _ _ (sym c.direction_figure.ensures ∙ c.in_ok-figure.was))

pub returns : goal.returns
unfolding field_text
returns c =
    let tens = c.tens_of-tens.ensures in
    rw (← c.direction_figure.ensures, c.in_ok-figure.was, c.figure_byte.ensures, c.figure_byte-2.ensures, tens.0, tens.1)
    (two-figures _ (omega (arith, figure-most _ _ (sym c.direction_figure.ensures ∙ c.in_ok-figure.was))))
