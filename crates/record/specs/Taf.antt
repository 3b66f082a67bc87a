-- A TAF's leg with one part set, and the blank records.
-- Assumes nothing: these are definitions.
use Rattle.std.specs.Prelude.{Bool, true, false, replicate, None}
use Rattle.record.specs.declared.aerodrome.Correction.{Correction}
use Rattle.record.specs.declared.aerodrome.Instant.{Instant}
use Rattle.record.specs.declared.aerodrome.Period.{Period}
use Rattle.record.specs.declared.aerodrome.Station.{Station}
use Rattle.record.specs.declared.aerodrome.Body.{Body}
use Rattle.record.specs.declared.aerodrome.Leg.{Leg}
use Rattle.record.specs.declared.aerodrome.Change.{Change}
use Rattle.record.specs.declared.aerodrome.Changes.{Changes}
use Rattle.record.specs.declared.aerodrome.Taf.{Taf}
use Rattle.record.specs.declared.aerodrome.Correction.TheVariants as correction
use Rattle.record.specs.declared.aerodrome.Opening.TheVariants as opening
use Rattle.record.specs.declared.aerodrome.Edition.TheVariants as edition
use Rattle.record.specs.Body.{blank_body}

abbrev pub set_correction : Correction → Leg → Leg
set_correction x r = record { correction = x; station = r.station; time = r.time; nil = r.nil; period = r.period; cancelled = r.cancelled; body = r.body }

abbrev pub set_station : Station → Leg → Leg
set_station x r = record { correction = r.correction; station = x; time = r.time; nil = r.nil; period = r.period; cancelled = r.cancelled; body = r.body }

abbrev pub set_time : Instant → Leg → Leg
set_time x r = record { correction = r.correction; station = r.station; time = x; nil = r.nil; period = r.period; cancelled = r.cancelled; body = r.body }

abbrev pub set_nil : Bool → Leg → Leg
set_nil x r = record { correction = r.correction; station = r.station; time = r.time; nil = x; period = r.period; cancelled = r.cancelled; body = r.body }

abbrev pub set_period : Period → Leg → Leg
set_period x r = record { correction = r.correction; station = r.station; time = r.time; nil = r.nil; period = x; cancelled = r.cancelled; body = r.body }

abbrev pub set_cancelled : Bool → Leg → Leg
set_cancelled x r = record { correction = r.correction; station = r.station; time = r.time; nil = r.nil; period = r.period; cancelled = x; body = r.body }

abbrev pub set_body : Body → Leg → Leg
set_body x r = record { correction = r.correction; station = r.station; time = r.time; nil = r.nil; period = r.period; cancelled = r.cancelled; body = x }

abbrev pub blank_instant : Instant
blank_instant = record { day = None; hour = None; minute = None }

abbrev pub blank_period : Period
blank_period = record { from = blank_instant; to = blank_instant }

abbrev pub blank_leg : Leg
blank_leg =
    record {
      correction = correction.None;
      station = record { letters = replicate 4 0 };
      time = blank_instant;
      nil = false;
      period = blank_period;
      cancelled = false;
      body = blank_body;
    }

abbrev pub blank_change : Change
blank_change = record { opening = opening.None; period = blank_period; body = blank_body }

abbrev pub blank_taf : Taf
blank_taf = record { edition = edition.Present; leg = blank_leg; changes = record { items = replicate 16 blank_change; count = 0 } }
