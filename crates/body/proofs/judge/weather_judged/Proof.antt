-- `body::judge::weather_judged` meets its contract, by its test.
-- Assumes nothing.
use Rattle.body.proofs.judge.weather_judged.Statement.{statement}
use Rattle.body.proofs.judge.weather_judged.Tie as tie

pub weather_judged_spec : {M : Type 1} → statement M
weather_judged_spec =
    tie.close
    (tie.spec
    (λ c κs. tt) (λ c κs. tt) (λ c κs. tt) (λ c κs. tt)
    (λ c required silent. rw (c.judge_weathers.ensures, ← c.is_cavok-cavok.ensures, c.if-nsw-may.true))
    (λ c required silent. rw (c.judge.ensures, c.count_fits.ensures, ← c.is_cavok-cavok.ensures, c.if-nsw-may.false)))
