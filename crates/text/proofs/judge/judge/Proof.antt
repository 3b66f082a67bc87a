-- `text::judge::judge` meets its contract: each branch is a case of `judge`.
-- Assumes nothing.
use borrow.Author.Rules.{rules}
use Rattle.text.proofs.judge.judge.Statement.{statement}
use Rattle.text.proofs.judge.judge.Tie as tie

pub judge_spec : {M : Type 1} → statement M
judge_spec =
    tie.close
    (tie.spec
    (λ c. search rules)
    (λ c. rw (c.if-within.true, c.if-agrees.false))
    (λ c. rw c.if-within.false))
