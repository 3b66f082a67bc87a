-- The parts are put one after the other.
use Rattle.figures.proofs.Puts.{then}
use Rattle.weather_write.proofs.write.put_phenomena.Goals as goal

pub returns-in-Some : goal.returns-in-Some
returns-in-Some c =
    rw c.in-Some.is
    (then (then (then (then c.put_intensity-signed.ensures c.put_code-described.ensures) c.put_code-first.ensures) c.put_code-second.ensures) c.put_code.ensures)
