-- `text::no_part` meets its contract: nothing stands after a text's end.
-- Assumes nothing.
use mathlib.Core.Path.{refl}
use native.Mathlib.Omega.{arith}
use borrow.Author.Rules.{rules}
use Rattle.text.proofs.Parts.{cut_at}
use Rattle.text.proofs.no_part.Statement.{statement}
use Rattle.text.proofs.no_part.Tie as tie

pub no_part_spec : {M : Type 1} → statement M
no_part_spec =
    tie.close
    (tie.spec
    (λ c. search rules) (λ c. search rules) (λ c. search rules)
    (λ c. cut_at _ _ _ _ (omega arith) (omega arith) refl refl refl))
