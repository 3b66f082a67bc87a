-- `figures::signed::is_negative` meets its contract: the test reads the number back from its bits.
-- Assumes nothing.
use mir.Syntax.{w32}
use mir.ValLaws.{to_z-of_z}
use Rattle.figures.proofs.Signs.{below-zero}
use Rattle.figures.proofs.signed.is_negative.Statement.{statement}
use Rattle.figures.proofs.signed.is_negative.Tie as tie

pub is_negative_spec : {M : Type 1} → statement M
is_negative_spec = tie.close (tie.spec (λ c. rw (to_z-of_z w32 c.args.t c.ranges.t) (below-zero c.args.t)))
