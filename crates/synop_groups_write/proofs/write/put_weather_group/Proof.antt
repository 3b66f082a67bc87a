-- `synop_groups_write::write::put_weather_group` meets its contract: the parts are put one after the other.
-- Assumes nothing.
use borrow.Author.Rules.{rules}
use Rattle.figures.proofs.Puts.{then}
use Rattle.text.proofs.Writes.{write-group}
use Rattle.synop_groups.specs.Shows.{weather_text}
use Rattle.synop_groups_write.proofs.write.put_weather_group.Statement.{statement}
use Rattle.synop_groups_write.proofs.write.put_weather_group.Tie as tie

pub put_weather_group_spec : {M : Type 1} → statement M
put_weather_group_spec =
    tie.close
    (tie.spec
    (λ c κs. tt) (λ c κs. tt) (λ c κs. tt) (λ c κs. tt) (λ c κs. tt) (λ c. search rules)
    (λ c.
    let fourth = c in
    let third = fourth in
    let second = third in
    let first = second in
    let opened = first in
    unfold weather_text in
    write-group opened.open_group-opened.ensures
    (then (then (then first.put_byte-begun.ensures second.put_part-now.ensures) third.put_part-before.ensures) fourth.put_part.ensures)))
