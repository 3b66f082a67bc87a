-- `head::sign_of` meets its contract.
-- Assumes nothing.
use borrow.Author.Rules.{rules}
use Rattle.synop.specs.Read.{sign_of}
use Rattle.synop.proofs.HeadSteps.{nine-bytes}
use Rattle.synop.proofs.head.sign_of.Statement.{statement}
use Rattle.synop.proofs.head.sign_of.Tie as tie

pub sign_of_spec : {M : Type 1} → statement M
sign_of_spec =
    tie.close
    (tie.spec
    (λ c κs. search rules) (λ c κs. search rules) (λ c κs. search rules) (λ c κs. search rules) (λ c κs. search rules)
    (λ c κs. search rules) (λ c κs. search rules) (λ c κs. search rules) (λ c κs. search rules)
    (λ c.
    unfold sign_of in
    rw (← nine-bytes c.args.g.now)
    (rw (c.byte_at.ensures, c.byte_at-2.ensures, c.byte_at-3.ensures, c.byte_at-4.ensures, c.byte_at-5.ensures, c.byte_at-6.ensures, c.byte_at-7.ensures, c.byte_at-8.ensures, c.byte_at-9.ensures))))
