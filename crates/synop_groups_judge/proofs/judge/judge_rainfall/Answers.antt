-- A rain that must not stand is missing, as `is_none` says it.
use Rattle.record.proofs.Blanks.{missing-by}
use Rattle.synop_groups.specs.Judge.{judge_rainfall}
use Rattle.synop_groups_judge.proofs.judge.judge_rainfall.Goals as goal

pub returns : goal.returns
unfolding judge_rainfall
returns c = rw (c.judge.ensures, c.fall_fits.ensures, missing-by c.args.r.is c.is_none.ensures)
