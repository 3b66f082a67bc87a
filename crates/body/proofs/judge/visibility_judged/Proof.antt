-- `body::judge::visibility_judged` meets its contract, part by part.
-- Assumes nothing.
use Rattle.body.proofs.judge.visibility_judged.Statement.{statement}
use Rattle.body.proofs.judge.visibility_judged.Tie as tie

pub visibility_judged_spec : {M : Type 1} → statement M
visibility_judged_spec =
    tie.close
    (tie.spec
    (λ c κs. tt) (λ c κs. tt) (λ c κs. tt)
    (λ c nsw automatic silent. rw (c.unless_absent.ensures, c.judge_visibility.ensures, c.is_missing.ensures)))
