-- `figures::put::put_number` meets its contract: figures up to the width 5, and no text past it.
-- Assumes nothing.
use borrow.Author.Rules.{rules}
use borrow.Author.Tests.{le-leb, lt-leb}
use Rattle.figures.specs.Figures.{number_text}
use Rattle.figures.proofs.Puts.{put-none}
use Rattle.figures.proofs.put.put_number.Statement.{statement}
use Rattle.figures.proofs.put.put_number.Tie as tie

pub put_number_spec : {M : Type 1} → statement M
put_number_spec =
    tie.close
    (tie.spec
    (λ c κs. search rules) (λ c. search rules)
    (λ c. unfold number_text in rw (le-leb _ _ c.if-width-le5.true) c.put_figures.ensures)
    (λ c. unfold number_text in rw (lt-leb _ _ c.if-width-le5.false) (put-none _ _)))
