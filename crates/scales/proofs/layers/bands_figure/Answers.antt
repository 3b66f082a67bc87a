-- `scales::layers::bands_figure` meets its contract: the figure of 1600 h, and 90 more.
-- Assumes nothing.
use Rattle.std.specs.Prelude.{Some}
use Rattle.std.proofs.Common.{◌≡◌, ℕ, ◌≤◌, refl, sym, ◌∙◌, arith}
use lib.Dec.{leb}
use borrow.Author.Tests.{leb-true}
use Rattle.scales.specs.Scale.{figure_of}
use Rattle.scales.specs.Metres.{base, metres_figure}
use Rattle.scales.proofs.Laws.{figure-such}
use Rattle.scales.proofs.Answers.{figure-told}
use Rattle.scales.proofs.LayersLaws.{figure-bands, out-bands}
use Rattle.scales.proofs.layers.bands_figure.Goals as goal

-- a figure of 1600 h has one figure
low : (v : ℕ) {f : ℕ} → metres_figure base v ≡ Some f → f ≤ 9
low v e = rw (figure-told base v e) (leb-true (figure_of base v) 9 (figure-such (λ f. leb f 9) base v (unfold base in refl)))

pub returns-in_err-base_figure : goal.returns-in_err-base_figure
returns-in_err-base_figure c = c.from_residual.ensures ∙ out-bands _ (sym c.base_figure.ensures ∙ c.in_err-base_figure.was)

pub overflow_add-result : goal.overflow_add-result
overflow_add-result c = omega (arith, low _ (sym c.base_figure.ensures ∙ c.in_ok-base_figure.was))

pub returns : goal.returns
returns c = figure-bands _ (sym c.base_figure.ensures ∙ c.in_ok-base_figure.was)
