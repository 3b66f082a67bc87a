-- `body::read::meet_said` meets its contract: a refusal, or anything else.
-- Assumes nothing.
use borrow.Author.Rules.{rules}
use mathlib.Core.Path.{sym, ap}
use Rattle.body.specs.Met.{met_as}
use Rattle.body.proofs.Says.{not-refused}
use Rattle.body.proofs.read.meet_said.Statement.{statement}
use Rattle.body.proofs.read.meet_said.Tie as tie

pub meet_said_spec : {M : Type 1} → statement M
meet_said_spec =
    tie.close
    (tie.spec
    (λ c. search rules)
    (λ c. rw c.in-Refused.is)
    (λ c. let a = c.args in ap (met_as a.start) (sym (not-refused _ a.said c.in_default.in_default-own.keys2))))
