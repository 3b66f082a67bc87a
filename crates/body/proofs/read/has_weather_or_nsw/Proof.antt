-- `body::read::has_weather_or_nsw` meets its contract: NSW or weather.
-- Assumes nothing.
use borrow.Author.Rules.{rules}
use Rattle.body.proofs.read.has_weather_or_nsw.Statement.{statement}
use Rattle.body.proofs.read.has_weather_or_nsw.Tie as tie

pub has_weather_or_nsw_spec : {M : Type 1} → statement M
has_weather_or_nsw_spec =
    tie.close
    (tie.spec
    (λ c κs. search rules) (λ c κs. search rules)
    (λ c. rw (c.has_weather-weather.ensures, c.has_pattern-nsw.ensures)))
