-- `body::write::put_weather_or_nsw` meets its contract: NSW and then the weathers.
-- Assumes nothing.
use borrow.Author.Rules.{rules}
use Rattle.text.proofs.Writes.{write-groups}
use Rattle.body.proofs.write.put_weather_or_nsw.Statement.{statement}
use Rattle.body.proofs.write.put_weather_or_nsw.Tie as tie

pub put_weather_or_nsw_spec : {M : Type 1} → statement M
put_weather_or_nsw_spec =
    tie.close
    (tie.spec
    (λ c κs. tt) (λ c κs. tt) (λ c. search rules)
    (λ c. write-groups _ _ c.put_if-cleared.ensures c.put_weathers.ensures))
