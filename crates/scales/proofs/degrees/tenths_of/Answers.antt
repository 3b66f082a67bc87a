-- `scales::degrees::tenths_of` meets its contract: a magnitude up to 999 fits.
-- Assumes nothing.
use Rattle.std.proofs.Common.{sym, ◌∙◌, arith}
use Rattle.figures.proofs.Signs.{signed-in}
use Rattle.scales.proofs.degrees.tenths_of.Goals as goal

pub returns : goal.returns
returns c = c.signed_of.ensures ∙ sym (signed-in _ _ (omega (arith, c.requires)))
