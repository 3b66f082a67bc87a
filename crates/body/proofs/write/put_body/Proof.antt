-- `body::write::put_body` meets its contract: the groups are put one after the other.
-- Assumes nothing.
use mathlib.Core.Bool.{false}
use mathlib.Core.List.{append-nil}
use Rattle.figures.proofs.Puts.{length-put}
use Rattle.text.proofs.Writes.{write-groups}
use Rattle.body.proofs.write.put_body.Statement.{statement}
use Rattle.body.proofs.write.put_body.Tie as tie

all : tie.Need-returns
all c required nsw automatic silent =
    rw (← c.is_blank.ensures, ← c.is_missing.ensures)
    (write-groups _ _ c.put_wind_unless-blown.ensures
    (write-groups _ _ c.put_visibility_unless-seen.ensures (write-groups _ _ c.put_weather_or_nsw-weathered.ensures (rw (append-nil _) c.put_sky.ensures))))

pub put_body_spec : {M : Type 1} → statement M
put_body_spec =
    tie.close
    (tie.spec
    (λ c κs. tt) (λ c κs. tt) (λ c κs. tt) (λ c κs. tt) (λ c κs. tt) (λ c κs. tt)
    (λ c. length-put (all c false false false false))
    all)
