-- `figures::field` meets its contract: each early `return` is where a test of `field_at` fails, and the last hands on what `field_of` says of the part.
-- Assumes nothing.
use mathlib.Core.Path.{◌∙◌}
use native.Mathlib.Nat.{add-sub_cancel_left}
use native.Mathlib.Omega.{arith}
use borrow.Author.Rules.{rules}
use Rattle.figures.proofs.Fields.{field_out, field_in}
use Rattle.figures.proofs.field.Statement.{statement}
use Rattle.figures.proofs.field.Tie as tie

last : tie.Need-returns
last c =
    let a = c.args in
    rw (add-sub_cancel_left a.at a.width) at c.field_of.ensures
    ∙ field_in a.g.now a.at a.width (omega arith) (omega arith) (omega arith)

pub field_spec : {M : Type 1} → statement M
field_spec =
    tie.close
    (tie.spec
    (λ c. field_out _ _ _ (omega arith))
    (λ c. field_out _ _ _ (omega arith))
    (λ c. field_out _ _ _ (omega arith))
    (λ c. search rules)
    (λ c. field_out _ _ _ (omega arith))
    (λ c. search rules) (λ c. search rules) (λ c. search rules) (λ c. search rules) (λ c κs. search rules)
    last)
