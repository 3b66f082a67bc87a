-- `body::read::say` meets its contract, place by place.
-- Assumes nothing.
use borrow.Author.Rules.{rules}
use Prim.Native.Nat.{zero-le}
use Rattle.places.proofs.Rows.{beyond}
use Rattle.body.proofs.Says.{says-wind, says-visibility, says-sky, says_nothing}
use Rattle.body.proofs.read.say.Statement.{statement}
use Rattle.body.proofs.read.say.Tie as tie

pub say_spec : {M : Type 1} → statement M
say_spec =
    tie.close
    (tie.spec
    (λ c κs. search rules) (λ c κs. search rules) (λ c κs. search rules) (λ c κs. search rules) (λ c κs. search rules)
    (λ c. rw (c.in-0.is, c.read_wind.ensures) (says-wind _ _ _ _ _ _))
    (λ c. rw (c.in-1.is, c.read_visibility.ensures) (says-visibility _ _ _ _ _ _))
    (λ c. rw c.in-2.is c.say_weather_or_nsw.ensures)
    (λ c. rw (c.in-3.is, c.read_sky.ensures, c.is_cavok-cavok.ensures) (says-sky _ _ _ _ _ _))
    (λ c. let a = c.args in says_nothing _ _ _ _ _ _ a.place (beyond 0 4 a.place zero-le c.in_default.in_default-own.rest)))
