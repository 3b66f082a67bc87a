-- `body::judge::judge_body` meets its contract: each element's judgement is that by the terms, whatever the terms say that it does not go by.
-- Assumes nothing.
use Rattle.std.proofs.Common.{refl}
use Rattle.std.proofs.lemmas.Result.{err_from_is_err_and}
use Rattle.elements.specs.Body.{judge_body}
use Rattle.body.proofs.judge.judge_body.Goals as goal

pub returns-in_err-wind_judged : goal.returns-in_err-wind_judged
unfolding judge_body
returns-in_err-wind_judged c silent =
    let t = c.args in
    let p = err_from_is_err_and c.from_residual.result c.from_residual.ensures.1 in
    rw (p.1, p.2, ← c.wind_judged.ensures t.may t.automatic silent, c.in_err-wind_judged.was) refl

pub returns-in_err-visibility_judged : goal.returns-in_err-visibility_judged
unfolding judge_body
returns-in_err-visibility_judged c silent =
    let t = c.args in
    let r = c.from_residual-in_err-visibility_judged in
    let p = err_from_is_err_and r.result r.ensures.1 in
    rw (p.1, p.2, ← c.wind_judged.ensures t.may t.automatic silent, c.in_ok-wind_judged.was)
    (rw (← c.visibility_judged.ensures t.may t.automatic silent, c.in_err-visibility_judged.was) refl)

pub returns-in_err-weather_judged : goal.returns-in_err-weather_judged
unfolding judge_body
returns-in_err-weather_judged c silent =
    let t = c.args in
    let r = c.from_residual-in_err-weather_judged in
    let p = err_from_is_err_and r.result r.ensures.1 in
    rw (p.1, p.2, ← c.wind_judged.ensures t.may t.automatic silent, c.in_ok-wind_judged.was)
    (rw (← c.visibility_judged.ensures t.may t.automatic silent, c.in_ok-visibility_judged.was)
    (rw (← c.weather_judged.ensures t.required silent, c.in_err-weather_judged.was) refl))

pub returns : goal.returns
unfolding judge_body
returns c silent =
    let t = c.args in
    rw (← c.wind_judged.ensures t.may t.automatic silent, c.in_ok-wind_judged.was)
    (rw (← c.visibility_judged.ensures t.may t.automatic silent, c.in_ok-visibility_judged.was)
    (rw (← c.weather_judged.ensures t.required silent, c.in_ok-weather_judged.was) (c.sky_judged.ensures t.required t.may t.automatic silent)))
