-- The parts are put one after the other, or nothing is.
use Rattle.figures.proofs.Puts.{put-none, then}
use Rattle.text.specs.Groups.{written}
use Rattle.text.proofs.Writes.{write-group}
use Rattle.weather_write.proofs.Triples.{shown-as}
use Rattle.weather_write.proofs.write.put_weather.Goals as goal

pub returns-then-stands : goal.returns-then-stands
returns-then-stands c =
    rw (c.if-stands.true, shown-as c.args.recent c.args.w)
    (write-group c.open_group-opened.ensures (then c.put_recent-begun.ensures c.put_phenomena.ensures))

pub returns-else-stands : goal.returns-else-stands
unfolding written
returns-else-stands c = rw c.if-stands.false (put-none _ _)
