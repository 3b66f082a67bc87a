-- `body::read::put` meets its contract, case by case.
-- Assumes nothing.
use borrow.Author.Rules.{rules}
use Rattle.body.specs.Said.{put_said}
use Rattle.body.proofs.Says.{others, put-by}
use Rattle.body.proofs.read.put.Statement.{statement}
use Rattle.body.proofs.read.put.Tie as tie

pub put_spec : {M : Type 1} → statement M
put_spec =
    tie.close
    (tie.spec
    (λ c. search rules) (λ c. search rules) (λ c. search rules) (λ c κs. search rules) (λ c. search rules) (λ c. search rules) (λ c κs. search rules)
    (λ c. search rules) (λ c κs. search rules)
    (λ c. let a = c.args in unfold put_said in put-by a.count a.b c.in-Wind.is)
    (λ c. let a = c.args in unfold put_said in put-by a.count a.b c.in-Visibility.is)
    (λ c. let a = c.args in rw c.add_weather-a.ensures (unfold put_said in put-by a.count a.b c.in-Weather.is))
    (λ c. let a = c.args in unfold put_said in put-by a.count a.b c.in-Nsw.is)
    (λ c. let a = c.args in rw c.add_layer-a.ensures (unfold put_said in put-by a.count a.b c.in-Layer.is))
    (λ c. let a = c.args in rw c.alone-a.ensures (unfold put_said in put-by a.count a.b c.in-Cover.is))
    (λ c. others c.args.count c.args.b c.args.said c.in_default.in_default-own.keys7))
