-- `synop_groups_judge::judge::judge_indicators` meets its contract, by what its parts are judged.
-- Assumes nothing.
use Rattle.synop_groups.specs.Judge.{judge_indicators}
use Rattle.synop_groups_judge.proofs.Judging.{optional-metres}
use Rattle.synop_groups_judge.proofs.judge.judge_indicators.Statement.{statement}
use Rattle.synop_groups_judge.proofs.judge.judge_indicators.Tie as tie

pub judge_indicators_spec : {M : Type 1} → statement M
judge_indicators_spec =
    tie.close
    (tie.spec
    (λ c κs. tt) (λ c κs. tt) (λ c κs. tt) (λ c κs. tt) (λ c κs. tt)
    (λ c.
    let d = c.before.before.before in
    let e = d in
    unfold judge_indicators in
    let base = c.is_missing_or_between.ensures in
    rw (c.judge.ensures, e.is_between.ensures, d.is_between-2.ensures, base, optional-metres, c.sight_fits.ensures)))
