-- The moments that a TAF's periods and change times name, in either edition, and the periods that name such moments.
-- Assumes nothing: these are definitions.
use Rattle.std.specs.Prelude.{ℕ, Bool, true, false, cond, leb, None, Option, Some}
use Rattle.record.specs.declared.aerodrome.Instant.{Instant}
use Rattle.record.specs.declared.aerodrome.Period.{Period}
use Rattle.record.specs.declared.aerodrome.Opening.{Opening}
use Rattle.record.specs.declared.aerodrome.Opening.TheVariants as opening
use Rattle.record.specs.declared.aerodrome.Edition.{Edition}
use Rattle.record.specs.declared.aerodrome.Edition.TheVariants as edition
use Rattle.record.specs.Taf.{blank_instant}
use Rattle.taf_times.specs.declared.kinds.Span.{Span}
use Rattle.taf_times.specs.Moments.{moment, day_at, hour_at, minute_at, day_from, day_in, first_from, first_after, period_end, end_hour, end_day, lengthened}

-- ---- numbers of the record

-- A day, an hour or a minute. The writer has judged before that each is there where it has to be, and has two figures, so that the other answers, 0, are not
-- used, but for the minute of a time that has none.
abbrev pub two_figures : Option ℕ → ℕ
two_figures None = 0
two_figures (Some n) = cond (leb n 99) n 0

-- FMYYGGgg has no end
abbrev pub is_from : Opening → Bool
is_from opening.None = false
is_from opening.Becoming = false
is_from opening.Temporary = false
is_from (opening.Probable n) = false
is_from (opening.ProbablyTemporary n) = false
is_from opening.From = true

-- ---- moments named

-- with a day, of the starting month or the next
unfoldable pub dated : ℕ → ℕ → Instant → ℕ
dated days start t = moment (day_from days start (two_figures t.day)) (two_figures t.hour) (two_figures t.minute)

-- the report's period
abbrev pub period_begins : ℕ → Period → ℕ
period_begins days p = dated days (two_figures p.from.day) p.from

abbrev pub period_ends : Edition → ℕ → Period → ℕ
period_ends edition.Present days p = dated days (two_figures p.from.day) p.to
period_ends edition.Of2005 days p = period_end (period_begins days p) (two_figures p.to.hour)

unfoldable pub period_span : Edition → ℕ → Period → Span
period_span e days p = record { from = period_begins days p; to = period_ends e days p }

-- a change of a report that spans `whole`
abbrev pub change_begins : Edition → ℕ → Span → Instant → ℕ
change_begins edition.Present days whole t = dated days (day_at whole.from) t
change_begins edition.Of2005 days whole t = first_from whole.from (two_figures t.hour) (two_figures t.minute)

abbrev pub change_ends : Edition → ℕ → Span → ℕ → Instant → ℕ
change_ends edition.Present days whole begins t = dated days (day_at whole.from) t
change_ends edition.Of2005 days whole begins t = first_after begins (two_figures t.hour)

-- under FM it lasts to the end of the report's period
unfoldable pub change_span : Edition → ℕ → Span → Bool → Period → Span
change_span e days whole under_from p =
    record {
      from = change_begins e days whole p.from;
      to = cond under_from whole.to (change_ends e days whole (change_begins e days whole p.from) p.to);
    }

-- ---- how moments are named

-- YYGGgg
abbrev pub time_at : ℕ → ℕ → Instant
time_at days t = record { day = Some (day_in days (day_at t)); hour = Some (hour_at t); minute = Some (minute_at t) }

-- YYGG of a beginning
abbrev pub begin_at : ℕ → ℕ → Instant
begin_at days t = record { day = Some (day_in days (day_at t)); hour = Some (hour_at t); minute = None }

-- YYGG of an end
abbrev pub end_at : ℕ → ℕ → Instant
end_at days t = record { day = Some (end_day days t); hour = Some (end_hour t); minute = None }

-- the end of a period in the 2005 edition, G2
abbrev pub end_after : Span → Instant
end_after w = record { day = None; hour = Some (lengthened w.from w.to (end_hour w.to)); minute = None }

-- a change time has a day in the present edition only
abbrev pub in_edition : Edition → Instant → Instant
in_edition edition.Present t = t
in_edition edition.Of2005 t = record { day = None; hour = t.hour; minute = t.minute }

abbrev pub end_in : Edition → ℕ → Span → Instant
end_in edition.Present days w = end_at days w.to
end_in edition.Of2005 days w = end_after w

-- YYGG/YYGG, or Y1Y1G1G1G2G2
unfoldable pub period_in : Edition → ℕ → Span → Period
period_in e days w = record { from = begin_at days w.from; to = end_in e days w }

-- YYGG/YYGG and FMYYGGgg, or GGGeGe and FMGGgg
unfoldable pub change_in : Edition → ℕ → Bool → Span → Period
change_in e days under_from s =
    cond under_from
    (record { from = in_edition e (time_at days s.from); to = blank_instant })
    (record { from = in_edition e (begin_at days s.from); to = in_edition e (end_at days s.to) })
