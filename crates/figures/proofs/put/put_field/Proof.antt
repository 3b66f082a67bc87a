-- `figures::put::put_field` meets its contract: each case of the field is a case of `field_text`.
-- Assumes nothing.
use borrow.Author.Rules.{rules}
use Rattle.figures.specs.Figures.{field_text}
use Rattle.figures.proofs.Puts.{put-none}
use Rattle.figures.proofs.put.put_field.Statement.{statement}
use Rattle.figures.proofs.put.put_field.Tie as tie

pub put_field_spec : {M : Type 1} → statement M
put_field_spec =
    tie.close
    (tie.spec
    (λ c. search rules) (λ c κs. search rules) (λ c. search rules) (λ c κs. search rules) (λ c. search rules) (λ c. search rules) (λ c. search rules)
    (λ c. unfold field_text in rw c.in-Number.is c.put_number.ensures)
    (λ c. search rules)
    (λ c. unfold field_text in rw c.in-Missing.is c.put_slashes.ensures)
    (λ c. unfold field_text in rw c.in-Mixed.is (put-none _ _))
    (λ c. unfold field_text in rw c.in-Other.is (put-none _ _)))
