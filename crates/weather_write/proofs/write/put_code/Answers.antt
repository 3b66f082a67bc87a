-- Nothing is put, or one letter after the other.
use Rattle.figures.proofs.Puts.{put-none, then}
use Rattle.weather_write.proofs.write.put_code.Goals as goal

pub returns-in-None : goal.returns-in-None
returns-in-None c = rw c.in-None.is (put-none _ _)

pub returns-in-Some : goal.returns-in-Some
returns-in-Some c = rw c.in-Some.is (then c.put_byte-begun.ensures c.put_byte.ensures)
