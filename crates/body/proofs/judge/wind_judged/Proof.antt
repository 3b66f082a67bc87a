-- `body::judge::wind_judged` meets its contract, part by part.
-- Assumes nothing.
use Rattle.body.proofs.judge.wind_judged.Statement.{statement}
use Rattle.body.proofs.judge.wind_judged.Tie as tie

pub wind_judged_spec : {M : Type 1} → statement M
wind_judged_spec =
    tie.close
    (tie.spec
    (λ c κs. tt) (λ c κs. tt) (λ c κs. tt)
    (λ c nsw automatic silent. rw (c.unless_absent.ensures, c.judge_wind.ensures, c.is_blank.ensures)))
