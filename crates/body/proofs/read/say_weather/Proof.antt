-- `body::read::say_weather` meets its contract, by what the group is read as.
-- Assumes nothing.
use borrow.Author.Rules.{rules}
use mathlib.Core.Path.{sym, ◌∙◌}
use Rattle.body.proofs.read.say_weather.Statement.{statement}
use Rattle.body.proofs.read.say_weather.Tie as tie

pub say_weather_spec : {M : Type 1} → statement M
say_weather_spec =
    tie.close
    (tie.spec
    (λ c κs. search rules) (λ c. search rules) (λ c. search rules)
    (λ c.
    let d = c in
    let a = d.args in
    rw (sym d.read_weather-read.ensures ∙ c.in-Ok.is, c.if-beside.true))
    (λ c.
    let d = c in
    let a = d.args in
    rw (sym d.read_weather-read.ensures ∙ c.in-Ok.is, c.if-beside.false))
    (λ c.
    let d = c in
    let a = d.args in
    rw (sym d.read_weather-read.ensures ∙ c.in-Err.is)))
