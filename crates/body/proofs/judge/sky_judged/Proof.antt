-- `body::judge::sky_judged` meets its contract, part by part.
-- Assumes nothing.
use Rattle.body.proofs.judge.sky_judged.Statement.{statement}
use Rattle.body.proofs.judge.sky_judged.Tie as tie

pub sky_judged_spec : {M : Type 1} → statement M
sky_judged_spec = tie.close (tie.spec (λ c κs. tt) (λ c κs. tt) (λ c required nsw automatic silent. rw (c.judge_sky.ensures, c.is_cavok.ensures)))
