-- What the writer's printers come to in the definitions' words: the parts of the row one after the other are the row, and those of a trend's change its
-- groups.
-- Assumes nothing.
use mathlib.Core.Path.{◌≡◌, refl, sym, ap, ◌∙◌}
use mathlib.Core.List.{List, ◌++◌, append_assoc}
use lib.ListN.{take, drop}
use Rattle.places.specs.Engine.{Group, written as groups_at}
use Rattle.places.proofs.Rows.{groups-split}
use Rattle.record.specs.declared.aerodrome.Observation.{Observation}
use Rattle.record.specs.declared.aerodrome.TrendChange.{TrendChange}
use Rattle.elements.specs.Sky.{show_sky}
use Rattle.elements.specs.Body.{changing, show_weather_or_nsw, body_row}
use Rattle.metar_row.specs.Row.{row}
use Rattle.trend_row.specs.Times.{show_from, show_until, show_at}
use Rattle.trend_row.specs.Row.{row as change_row}
use Rattle.trend.specs.Write.{show_word, show_change}

-- ---- the rows in parts

-- the observation as the writer prints it
pub row-in-parts : (r : Observation) → groups_at row r ≡ groups_at (take 6 row) r ++ (groups_at (take 4 (drop 6 row)) r ++ (show_weather_or_nsw r.body ++ (show_sky r.body.sky ++ groups_at (drop 12 row) r)))
row-in-parts r =
    groups-split r 6 row
    ∙ ap (λ (gs : List Group). groups_at (take 6 row) r ++ gs) (groups-split r 4 (drop 6 row) ∙ ap (λ (gs : List Group). groups_at (take 4 (drop 6 row)) r ++ gs) (unfold row in refl))

-- a trend's change as the writer prints it: its word, its times, its body
pub change-in-parts : (c : TrendChange)
    → show_change c ≡ show_word c.tendency ++ ((show_from c.times.is ++ (show_until c.times.is ++ show_at c.times.is)) ++ groups_at (body_row changing) c.body)
unfolding show_change change_row
change-in-parts c =
    let h = c.times.is in
    let body = groups_at (body_row changing) c.body in
    ap (λ (gs : List Group). show_word c.tendency ++ gs)
    (sym (append_assoc (show_from h) (show_until h ++ show_at h) body ∙ ap (λ (gs : List Group). show_from h ++ gs) (append_assoc (show_until h) (show_at h) body)))
