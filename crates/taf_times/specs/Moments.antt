-- Moments of a TAF, as minutes, and what a day, an hour and a minute written in either edition say of them.
-- Assumes nothing: these are definitions.
use Rattle.std.specs.Prelude.{ℕ, ◌+◌, ◌-◌, ◌*◌, ◌/◌, ◌%◌, Bool, cond, leb, ltb, eqb}

-- ---- a moment

-- Minutes from the beginning of the day before the first of the starting month. A day of the next month is counted on from the last of the starting one.
abbrev pub moment : ℕ → ℕ → ℕ → ℕ
moment d h m = (d * 24 + h) * 60 + m

abbrev pub day_at : ℕ → ℕ
day_at t = t / 60 / 24

abbrev pub hour_at : ℕ → ℕ
hour_at t = t / 60 % 24

abbrev pub minute_at : ℕ → ℕ
minute_at t = t % 60

-- 24 hours
abbrev pub day_long : ℕ
day_long = 1440

-- ---- days of the month

-- "An end or change day before the period's start day lies in the next month."
unfoldable pub day_from : ℕ → ℕ → ℕ → ℕ
day_from days start d = cond (ltb d start) (d + days) d

-- the day of its month
unfoldable pub day_in : ℕ → ℕ → ℕ
day_in days d = cond (leb d days) d (d - days)

-- the day before one of the starting month or of the next: before the first stands the last of the starting month
unfoldable pub day_before : ℕ → ℕ → ℕ
day_before days d = cond (leb d 1) days (d - 1)

-- ---- times without a day

-- "A change time without a day is its first moment at or after the start"
unfoldable pub first_from : ℕ → ℕ → ℕ → ℕ
first_from start h m = cond (leb start (moment (day_at start) h m)) (moment (day_at start) h m) (moment (day_at start) h m + day_long)

-- "an end its first after the beginning": hour 24 is hour 00 of the next day
unfoldable pub first_after : ℕ → ℕ → ℕ
first_after start h = cond (ltb start (moment (day_at start) h 0)) (moment (day_at start) h 0) (moment (day_at start) h 0 + day_long)

-- "A period without 50 lasts 1 to 24 hours, equal hours meaning 24", one with 50 25 to 48: the hour is G2 - 50, in the second 24 hours after the start
unfoldable pub period_end : ℕ → ℕ → ℕ
period_end start h = cond (leb h 50) (first_after start h) (first_after (start + day_long) (h - 50))

-- ---- "hour 00 at an end becoming 24 of the day before"

unfoldable pub is_midnight : ℕ → Bool
is_midnight t = eqb (hour_at t) 0

unfoldable pub end_hour : ℕ → ℕ
end_hour t = cond (is_midnight t) 24 (hour_at t)

unfoldable pub end_day : ℕ → ℕ → ℕ
end_day days t = cond (is_midnight t) (day_before days (day_in days (day_at t))) (day_in days (day_at t))

-- 51 to 74 "when it lasts 25 to 48 hours"
unfoldable pub lengthened : ℕ → ℕ → ℕ → ℕ
lengthened start end h = cond (leb end (start + day_long)) h (h + 50)
