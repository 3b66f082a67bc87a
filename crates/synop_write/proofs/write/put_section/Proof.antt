-- `synop_write::write::put_section` meets its contract: the groups are put one after the other.
-- Assumes nothing.
use mathlib.Core.List.{append-nil}
use Rattle.figures.proofs.Puts.{length-put}
use Rattle.text.proofs.Writes.{write-groups}
use Rattle.synop_row.specs.Row.{row}
use Rattle.synop_write.proofs.write.put_section.Statement.{statement}
use Rattle.synop_write.proofs.write.put_section.Tie as tie

all : tie.Need-returns
unfolding row
all c =
    let to8 = c in
    let to7 = to8 in
    let to6 = to7 in
    let to5 = to6 in
    let to4 = to5 in
    let to3 = to4 in
    let to2 = to3 in
    let to1 = to2 in
    let to0 = to1 in
    write-groups _ _ to0.put_speed-to0.ensures
    (write-groups _ _ to1.put_air-to1.ensures
    (write-groups _ _ to2.put_moisture-to2.ensures
    (write-groups _ _ to3.put_pressure-to3.ensures
    (write-groups _ _ to4.put_level-to4.ensures
    (write-groups _ _ to5.put_tendency-to5.ensures
    (write-groups _ _ to6.put_rainfall-to6.ensures
    (write-groups _ _ to7.put_weather-to7.ensures
    (write-groups _ _ to8.put_clouds-to8.ensures
    (rw (append-nil _) c.put_clock.ensures)))))))))

pub put_section_spec : {M : Type 1} → statement M
put_section_spec =
    tie.close
    (tie.spec
    (λ c κs. tt) (λ c κs. tt) (λ c κs. tt) (λ c κs. tt) (λ c κs. tt) (λ c κs. tt) (λ c κs. tt) (λ c κs. tt) (λ c κs. tt) (λ c κs. tt)
    (λ c. length-put (all c))
    all)
