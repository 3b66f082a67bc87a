-- `seen_values::degrees::spread` meets its contract.
-- Assumes nothing.
use borrow.Author.Rules.{rules}
use Rattle.seen_values.proofs.degrees.spread.Statement.{statement}
use Rattle.seen_values.proofs.degrees.spread.Tie as tie

pub spread_spec : {M : Type 1} → statement M
spread_spec =
    tie.close
    (tie.spec
    (λ c κs. search rules) (λ c κs. search rules)
    (λ c. rw (c.signed_reading.ensures, c.signed_reading-2.ensures)))
