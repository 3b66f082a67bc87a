-- Document 02, No. 9: a TAF moved to the other edition, by its times. "All but periods and change times moves as it is."
-- Assumes nothing: these are definitions.
use Rattle.std.specs.Prelude.{⊤, ℕ, ◌+◌, ◌*◌, Bool, true, cond, ◌&&◌, ◌||◌, List, [], ◌∷◌, ◌++◌, map, take, drop, leb, ltb, eqb, Err, Ok, Result}
use Rattle.text.specs.declared.kinds.Refusal.{Refusal}
use Rattle.figures.specs.Figures.{every}
use Rattle.text.specs.declared.kinds.Refusal.TheVariants as refusal
use Rattle.text.specs.Judge.{judge, and_then}
use Rattle.record.specs.declared.aerodrome.Period.{Period}
use Rattle.record.specs.declared.aerodrome.Edition.{Edition}
use Rattle.record.specs.declared.aerodrome.Leg.{Leg}
use Rattle.record.specs.declared.aerodrome.Change.{Change}
use Rattle.record.specs.declared.aerodrome.Changes.{Changes}
use Rattle.record.specs.declared.aerodrome.Taf.{Taf}
use Rattle.record.specs.Taf.{blank_taf, set_period}
use Rattle.record.specs.Missing.{between, optional}
use Rattle.taf_times.specs.declared.kinds.Span.{Span}
use Rattle.taf_times.specs.declared.kinds.MovedTaf.{MovedTaf}
use Rattle.taf_times.specs.Moments.{day_long}
use Rattle.taf_times.specs.Times.{is_from, period_span, change_span, period_in, change_in}

-- the changes that count
abbrev pub counted : Changes → List Change
counted cs = take cs.count cs.items

-- ---- "11 for a month length outside 28 to 31 or a period or change day past it": the days of beginnings and ends that are there

abbrev pub days_in : ℕ → Period → Bool
days_in days p = optional (between 1 days) p.from.day && optional (between 1 days) p.to.day

unfoldable pub month_fits : ℕ → Taf → Bool
month_fits days t = between 28 31 days && days_in days t.leg.period && every (λ (c : Change). days_in days c.period) (counted t.changes)

-- ---- "15 for a period over 48 hours (to old), for one over 24 hours with change groups (either way), for a period or change period that does not end
-- after it begins, or for a change that begins before the period, begins at or after its end, or ends later"

-- No period of the 2005 edition lasts over 48 hours, so that the first holds whichever edition is left.
abbrev pub whole_fits : Span → ℕ → Bool
whole_fits w n = ltb w.from w.to && leb w.to (w.from + 2 * day_long) && (eqb n 0 || leb w.to (w.from + day_long))

abbrev pub span_fits : Span → Span → Bool
span_fits w s = ltb s.from s.to && leb w.from s.from && ltb s.from w.to && leb s.to w.to

abbrev pub whole_of : ℕ → Taf → Span
whole_of days t = period_span t.edition days t.leg.period

abbrev pub change_of : Edition → ℕ → Span → Change → Span
change_of e days w c = change_span e days w (is_from c.opening) c.period

-- a NIL report has no times
unfoldable pub times_fit : ℕ → Taf → Bool
times_fit days t =
    t.leg.nil
    || (whole_fits (whole_of days t) t.changes.count
    && every (λ (c : Change). span_fits (whole_of days t) (change_of t.edition days (whole_of days t) c)) (counted t.changes))

unfoldable pub judge_times : ℕ → Taf → Result ⊤ Refusal
judge_times days t = and_then (judge (month_fits days t) true) (cond (times_fit days t) (Ok tt) (Err refusal.Times))

-- ---- the moments of a TAF, and the same moments written in the other edition

-- those of its period, then those of each change; a NIL report has none
unfoldable pub moments_of : ℕ → Taf → List Span
moments_of days t = cond t.leg.nil [] (whole_of days t ∷ map (change_of t.edition days (whole_of days t)) (counted t.changes))

unfoldable pub moved_leg : Edition → ℕ → Taf → Leg
moved_leg to days t = cond t.leg.nil t.leg (set_period (period_in to days (whole_of days t)) t.leg)

abbrev pub moved_change : Edition → Edition → ℕ → Span → Change → Change
moved_change from to days w c = record { opening = c.opening; period = change_in to days (is_from c.opening) (change_of from days w c); body = c.body }

unfoldable pub moved_changes : Edition → ℕ → Taf → List Change
moved_changes to days t = map (moved_change t.edition to days (whole_of days t)) (counted t.changes) ++ drop t.changes.count t.changes.items

unfoldable pub times_in : Edition → ℕ → Taf → Taf
times_in to days t = record { edition = to; leg = moved_leg to days t; changes = record { items = moved_changes to days t; count = t.changes.count } }

-- "A refusal gives a blank record."
abbrev pub moved_by : Result ⊤ Refusal → Taf → MovedTaf
moved_by (Ok tt) t = record { judged = Ok tt; forecast = t }
moved_by (Err f) t = record { judged = Err f; forecast = blank_taf }

-- THE MOVE OF THE TIMES: to this edition, with so many days in the starting month.
unfoldable pub times_moved : Edition → ℕ → Taf → MovedTaf
times_moved to days t = moved_by (judge_times days t) (times_in to days t)
