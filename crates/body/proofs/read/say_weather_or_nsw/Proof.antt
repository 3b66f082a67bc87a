-- `body::read::say_weather_or_nsw` meets its contract, by whether the group is NSW.
-- Assumes nothing.
use borrow.Author.Rules.{rules}
use Rattle.body.proofs.Says.{says-nsw, says-weather}
use Rattle.body.proofs.read.say_weather_or_nsw.Statement.{statement}
use Rattle.body.proofs.read.say_weather_or_nsw.Tie as tie

pub say_weather_or_nsw_spec : {M : Type 1} → statement M
say_weather_or_nsw_spec =
    tie.close
    (tie.spec
    (λ c κs. search rules) (λ c κs. search rules) (λ c κs. search rules) (λ c κs. search rules)
    (λ c.
    let a = c.args in
    rw (c.say_nsw.ensures, c.is_cavok-cavok.ensures)
    (says-nsw a.forecast a.may a.automatic a.count a.g.now a.b (rw (← c.has_pattern.ensures) c.if-has_pattern.true)))
    (λ c.
    let a = c.args in
    rw (c.say_weather.ensures, c.is_cavok-cavok.ensures)
    (says-weather a.forecast a.may a.automatic a.count a.g.now a.b (rw (← c.has_pattern.ensures) c.if-has_pattern.false))))
