-- Group after group.
use Rattle.std.proofs.Common.{◌≡◌, length, rules}
use Rattle.text.proofs.Writes.{write-groups}
use Rattle.weather_write.proofs.Triples.{each_shown}
use Rattle.weather_write.specs.Three.{shown_as}
use Rattle.weather_write.proofs.write.put_each.Goals as goal

pub returns : goal.returns
returns c =
    let a = c.args in
    let h : length a.ws.items ≡ 3 = search rules in
    rw (each_shown a.ws.items h (shown_as a.recent) a.ws.count)
    at (write-groups _ _ (write-groups _ _ c.put_weather-first.ensures c.put_weather-second.ensures) c.put_weather.ensures)
