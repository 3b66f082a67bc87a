-- "hour 00 at an end becoming 24 of the day before": what comes back of a record of the present edition that is moved to the other and back.
-- Assumes nothing: these are definitions.
use Rattle.std.specs.Prelude.{ℕ, Bool, false, cond, ◌++◌, map, drop, eqb, None, Option, Some}
use Rattle.record.specs.declared.aerodrome.Instant.{Instant}
use Rattle.record.specs.declared.aerodrome.Period.{Period}
use Rattle.record.specs.declared.aerodrome.Change.{Change}
use Rattle.record.specs.declared.aerodrome.Taf.{Taf}
use Rattle.record.specs.Taf.{set_period}
use Rattle.taf_times.specs.Moments.{day_before}
use Rattle.taf_times.specs.Move.{counted}

abbrev pub is_hour_zero : Option ℕ → Bool
is_hour_zero None = false
is_hour_zero (Some h) = eqb h 0

abbrev pub the_day_before : ℕ → Option ℕ → Option ℕ
the_day_before days None = None
the_day_before days (Some d) = Some (day_before days d)

abbrev pub end_before : ℕ → Instant → Instant
end_before days t = cond (is_hour_zero t.hour) (record { day = the_day_before days t.day; hour = Some 24; minute = t.minute }) t

abbrev pub period_before : ℕ → Period → Period
period_before days p = record { from = p.from; to = end_before days p.to }

abbrev pub change_before : ℕ → Change → Change
change_before days c = record { opening = c.opening; period = period_before days c.period; body = c.body }

-- every end at hour 00 as 24 of the day before, all else as it is
unfoldable pub midnights_before : ℕ → Taf → Taf
midnights_before days t =
    record {
      edition = t.edition;
      leg = set_period (period_before days t.leg.period) t.leg;
      changes = record { items = map (change_before days) (counted t.changes) ++ drop t.changes.count t.changes.items; count = t.changes.count };
    }
