-- What each element of the body is judged by holds whatever the terms say that it does not go by, so at the observation's terms.
use Rattle.std.proofs.Common.{arith, true, false}
use Rattle.std.proofs.lemmas.Grind.{common_steps}
use Rattle.metar.specs.Write.{judge_observation}
use Rattle.metar_write.proofs.judge.judge_observation.Goals as goal

pub returns-in_err-wind_judged : goal.returns-in_err-wind_judged
unfolding judge_observation
returns-in_err-wind_judged c = grind (arith, common_steps, c.wind_judged.ensures false c.args.r.automatic c.args.r.nil)

pub returns-in_err-judge_variation : goal.returns-in_err-judge_variation
unfolding judge_observation
returns-in_err-judge_variation c = grind (arith, common_steps, c.wind_judged.ensures false c.args.r.automatic c.args.r.nil)

pub returns-in_err-visibility_judged : goal.returns-in_err-visibility_judged
unfolding judge_observation
returns-in_err-visibility_judged c = grind (arith, common_steps, c.wind_judged.ensures false c.args.r.automatic c.args.r.nil, c.visibility_judged.ensures false c.args.r.automatic c.args.r.nil)

pub returns-in_err-judge_runways : goal.returns-in_err-judge_runways
unfolding judge_observation
returns-in_err-judge_runways c = grind (arith, common_steps, c.wind_judged.ensures false c.args.r.automatic c.args.r.nil, c.visibility_judged.ensures false c.args.r.automatic c.args.r.nil)

pub returns-in_err-weather_judged : goal.returns-in_err-weather_judged
unfolding judge_observation
returns-in_err-weather_judged c = grind (arith, common_steps, c.wind_judged.ensures false c.args.r.automatic c.args.r.nil, c.visibility_judged.ensures false c.args.r.automatic c.args.r.nil, c.weather_judged.ensures true c.args.r.nil)

pub returns-in_err-sky_judged : goal.returns-in_err-sky_judged
unfolding judge_observation
returns-in_err-sky_judged c = grind (arith, common_steps, c.wind_judged.ensures false c.args.r.automatic c.args.r.nil, c.visibility_judged.ensures false c.args.r.automatic c.args.r.nil, c.weather_judged.ensures true c.args.r.nil, c.sky_judged.ensures true false c.args.r.automatic c.args.r.nil)

pub returns-in_err-judge_temperatures : goal.returns-in_err-judge_temperatures
unfolding judge_observation
returns-in_err-judge_temperatures c = grind (arith, common_steps, c.wind_judged.ensures false c.args.r.automatic c.args.r.nil, c.visibility_judged.ensures false c.args.r.automatic c.args.r.nil, c.weather_judged.ensures true c.args.r.nil, c.sky_judged.ensures true false c.args.r.automatic c.args.r.nil)

pub returns-in_err-judge_qnh : goal.returns-in_err-judge_qnh
unfolding judge_observation
returns-in_err-judge_qnh c = grind (arith, common_steps, c.wind_judged.ensures false c.args.r.automatic c.args.r.nil, c.visibility_judged.ensures false c.args.r.automatic c.args.r.nil, c.weather_judged.ensures true c.args.r.nil, c.sky_judged.ensures true false c.args.r.automatic c.args.r.nil)

pub returns-in_err-judge_recents : goal.returns-in_err-judge_recents
unfolding judge_observation
returns-in_err-judge_recents c = grind (arith, common_steps, c.wind_judged.ensures false c.args.r.automatic c.args.r.nil, c.visibility_judged.ensures false c.args.r.automatic c.args.r.nil, c.weather_judged.ensures true c.args.r.nil, c.sky_judged.ensures true false c.args.r.automatic c.args.r.nil)

pub returns : goal.returns
unfolding judge_observation
returns c = grind (arith, common_steps, c.wind_judged.ensures false c.args.r.automatic c.args.r.nil, c.visibility_judged.ensures false c.args.r.automatic c.args.r.nil, c.weather_judged.ensures true c.args.r.nil, c.sky_judged.ensures true false c.args.r.automatic c.args.r.nil)
