-- `synop_groups_write::write::put_weather` meets its contract, by its test.
-- Assumes nothing.
use borrow.Author.Rules.{rules}
use Rattle.text.proofs.Writes.{write-none}
use Rattle.synop_groups.specs.Shows.{show_weather}
use Rattle.synop_groups_write.proofs.Writings.{group-if}
use Rattle.synop_groups_write.proofs.write.put_weather.Statement.{statement}
use Rattle.synop_groups_write.proofs.write.put_weather.Tie as tie

pub put_weather_spec : {M : Type 1} → statement M
put_weather_spec =
    tie.close
    (tie.spec
    (λ c κs. tt) (λ c κs. tt) (λ c. search rules)
    (λ c.
    let d = c in
    let e = d in
    unfold show_weather in
    rw (group-if, ← e.is_blank.ensures, d.if-required-is_blank.true) c.put_weather_group.ensures)
    (λ c. unfold show_weather in rw (group-if, ← c.is_blank.ensures, c.if-required-is_blank.false) (write-none _ _)))
