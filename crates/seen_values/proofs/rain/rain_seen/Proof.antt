-- `seen_values::rain::rain_seen` meets its contract.
-- Assumes nothing.
use borrow.Author.Rules.{rules}
use Rattle.seen_values.specs.Rounded.{seen_rain}
use Rattle.seen_values.proofs.rain.rain_seen.Statement.{statement}
use Rattle.seen_values.proofs.rain.rain_seen.Tie as tie

pub rain_seen_spec : {M : Type 1} → statement M
unfolding seen_rain
rain_seen_spec =
    tie.close
    (tie.spec
    (λ c. search rules) (λ c. search rules) (λ c κs. search rules)
    (λ c. rw c.in-Trace.is)
    (λ c. rw (c.in-Tenths.is, c.tenths_seen.ensures)))
